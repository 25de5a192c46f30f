-- The first line of a list, which says of what kind its names are. Assumes nothing.
--     heading_word w      what a word alone on the first line says
--     heading_line ws     what a line of these words says, where there is a word
--     headed n ls         what the first of the lines that has a word says, with the index behind that line,
--                         where the first of the lines has the index n
--     complaint e         what is told of a list whose first line says no kind
use Rattle.std.specs.Prelude.{ℕ, ◌+◌, cond, List, [], ◌∷◌, Some, None, Ok, Err, codes, Option, Result}
use Rattle.std.specs.Result.{result_map_both}
use Rattle.std.specs.Str.{bytes_eq}
use Rattle.names.specs.declared.heading.NameKind.{NameKind}
use Rattle.names.specs.declared.heading.NameKind.TheVariants.{Numbers, Addresses}
use Rattle.names.specs.declared.heading.HeadingFault.{HeadingFault}
use Rattle.names.specs.declared.heading.HeadingFault.TheVariants.{Missing, Unknown}
use Rattle.names.specs.declared.heading.Heading.{Heading}
use Rattle.names.specs.Text.{words}

abbrev pub heading_word : List ℕ → Result NameKind HeadingFault
heading_word w = cond (bytes_eq w (codes "numbers")) (Ok Numbers) (cond (bytes_eq w (codes "addresses")) (Ok Addresses) (Err Unknown))

abbrev pub heading_line : List (List ℕ) → Option (Result NameKind HeadingFault)
heading_line [] = None
heading_line (w ∷ []) = Some (heading_word w)
heading_line (w ∷ v ∷ ws) = Some (Err Unknown)

abbrev pub headed : ℕ → List (List ℕ) → Result Heading HeadingFault
headed n [] = Err Missing
headed n (l ∷ ls) = elim (heading_line (words l)) [ None ↦ headed (n + 1) ls | Some said ↦ result_map_both (λ k. record { kind = k; behind = n + 1 }) (λ e. e) said ]

abbrev pub complaint : HeadingFault → List ℕ
complaint Missing = codes "The first line is missing: it says numbers or addresses."
complaint Unknown = codes "The first line is unknown: it says numbers or addresses."
