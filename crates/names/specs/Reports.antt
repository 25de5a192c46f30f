-- What is told of a list. Assumes nothing.
--     refused_count fs          how many of the faults are refusals
--     fault_line e f            the line for one fault, where e is what was expected
--     repeats p k               k is the key in front of it once more
--     name_line n d k           the line for the key at the place n, marked where it is a double
--     name_lines p n ks         the lines for the keys from the place n on, where p stands in front
--     doubles ks                how many of the keys are the one in front once more
--     summed ks fs              the names, the doubles, the refused and the unreadable, counted
--     summary s                 the last line
--     told ks fs                the faults, the keys, and the last line
--     Reported n ls bs          bs tells of the names on the lines from index n on, in the kind's order
--     TellsUnder k n ls bs      the same, of the kind k
--     TellsBy h ls bs           bs tells of the names behind the heading h, or what is wrong with the first line
--     Tells text bs           bs tells of the names that text lists, or what is wrong with its first line
use Rattle.std.specs.Prelude.{◌≡◌, ℕ, ◌+◌, ◌-◌, Bool, true, false, cond, count_by, List, [], ◌∷◌, ◌++◌, length, drop, Some, None, Ok, Err, codes, decimal, Option, Result}
use Rattle.std.specs.List.{flat_map, zip}
use Rattle.std.specs.declared.cmp.Ordering.{Ordering}
use Rattle.order.specs.Addresses.{refusal_number}
use Rattle.order.specs.Lists.{Arranged}
use Rattle.std.specs.Ordering.{is_eq, nat_cmp}
use Rattle.order.specs.Rows.{row_order}
use Rattle.names.specs.declared.heading.Heading.{Heading}
use Rattle.names.specs.declared.heading.HeadingFault.{HeadingFault}
use Rattle.names.specs.declared.heading.NameKind.{NameKind}
use Rattle.names.specs.declared.heading.NameKind.TheVariants.{Numbers, Addresses}
use Rattle.names.specs.declared.name.Fault.{Fault}
use Rattle.names.specs.declared.name.Fault.TheVariants.{Refused, Unreadable}
use Rattle.names.specs.declared.listing.LineFault.{LineFault}
use Rattle.names.specs.declared.report.Summary.{Summary}
use Rattle.names.specs.Headings.{complaint, headed}
use Rattle.names.specs.Listings.{names, faults}
use Rattle.names.specs.Names.{number_named, row_named, number_written, row_written, number_expected, row_expected}
use Rattle.names.specs.Text.{lines}

abbrev pub is_refused : Fault → Bool
is_refused (Refused e) = true
is_refused Unreadable = false

abbrev pub refused_count : List LineFault → ℕ
refused_count fs = count_by (λ f. is_refused f.fault) fs

abbrev pub fault_text : List ℕ → ℕ → Fault → List ℕ
fault_text expected n (Refused e) = codes "line " ++ (decimal n ++ (codes ": refused " ++ (decimal (refusal_number e) ++ codes "\n")))
fault_text expected n Unreadable = codes "line " ++ (decimal n ++ (codes ": unreadable, expected " ++ (expected ++ codes "\n")))

abbrev pub fault_line : List ℕ → LineFault → List ℕ
fault_line expected f = fault_text expected f.line f.fault

abbrev pub fault_lines : List ℕ → List LineFault → List ℕ
fault_lines expected fs = flat_map (fault_line expected) fs

abbrev pub mark : Bool → List ℕ
mark double = cond double (codes " double") []

abbrev pub name_line : {K : Type 0} → (K → List ℕ) → ℕ → Bool → K → List ℕ
name_line written n double k = decimal n ++ (codes ": " ++ (written k ++ (mark double ++ codes "\n")))

abbrev pub summary : Summary → List ℕ
summary s =
    codes "names " ++ (decimal s.names ++ (codes ", doubles " ++ (decimal s.doubles ++ (codes ", refused " ++ (decimal s.refused ++ (codes ", unreadable " ++ decimal s.unreadable))))))

module _ {K : Type 0} (order : K → K → Ordering) where
  abbrev pub repeats : Option K → K → Bool
  repeats None k = false
  repeats (Some p) k = is_eq (order p k)

  abbrev pub name_lines : (K → List ℕ) → Option K → ℕ → List K → List ℕ
  name_lines written p n [] = []
  name_lines written p n (k ∷ ks) = name_line written n (repeats p k) k ++ name_lines written (Some k) (n + 1) ks

  abbrev pub doubles : List K → ℕ
  doubles ks = count_by (λ pair. is_eq (order pair.0 pair.1)) (zip ks (drop 1 ks))

  abbrev pub summed : List K → List LineFault → Summary
  summed ks fs = record { names = length ks; doubles = doubles ks; refused = refused_count fs; unreadable = length fs - refused_count fs }

  abbrev pub told : (K → List ℕ) → List ℕ → List K → List LineFault → List ℕ
  told written expected ks fs = fault_lines expected fs ++ (name_lines written None 1 ks ++ (summary (summed ks fs) ++ codes "\n"))

  pub record Reported (named : List ℕ → Result K Fault) (written : K → List ℕ) (expected : List ℕ) (n : ℕ) (ls : List (List ℕ)) (bs : List ℕ) : Type 0 where
    pub keys : List K
    pub arranged : Arranged order (names named (drop n ls)) keys
    pub is : bs ≡ told written expected keys (faults named (n + 1) (drop n ls))

abbrev pub TellsUnder : NameKind → ℕ → List (List ℕ) → List ℕ → Type 0
TellsUnder Numbers n ls bs = Reported nat_cmp number_named number_written number_expected n ls bs
TellsUnder Addresses n ls bs = Reported row_order row_named row_written row_expected n ls bs

abbrev pub TellsBy : Result Heading HeadingFault → List (List ℕ) → List ℕ → Type 0
TellsBy (Ok h) ls bs = TellsUnder h.kind h.behind ls bs
TellsBy (Err e) ls bs = bs ≡ complaint e ++ codes "\n"

abbrev pub Tells : List ℕ → List ℕ → Type 0
Tells text bs = TellsBy (headed 0 (lines text)) (lines text) bs
