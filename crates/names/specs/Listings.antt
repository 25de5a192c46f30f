-- What the lines of a list give, for a kind whose keys are named by numbers. Assumes nothing.
--     entry l           what one line gives: a name, nothing where no word stands on it, or a fault
--     name_of e         the name that a line gave, if it gave one
--     fault_of n e      the fault that the line with the number n gave, if it gave one
--     names ls          the names that the lines give, in their order
--     faults n ls       the faults of the lines, the first of which has the number n
use Rattle.std.specs.Prelude.{ℕ, List, [], ◌∷◌, Some, None, Ok, Err, Option, Result}
use Rattle.std.specs.Result.{result_map_both}
use Rattle.std.specs.List.{enumerate_from, flat_map}
use Rattle.names.specs.declared.name.Fault.{Fault}
use Rattle.names.specs.declared.name.Fault.TheVariants.{Unreadable}
use Rattle.names.specs.declared.listing.LineFault.{LineFault}
use Rattle.names.specs.Text.{words, numbers}

module _ {K : Type 0} where
  abbrev pub name_of : Result (Option K) Fault → List K
  name_of (Ok None) = []
  name_of (Ok (Some k)) = k ∷ []
  name_of (Err e) = []

  abbrev pub fault_of : ℕ → Result (Option K) Fault → List LineFault
  fault_of n (Ok o) = []
  fault_of n (Err e) = record { line = n; fault = e } ∷ []

module _ {K : Type 0} (named : List ℕ → Result K Fault) where
  abbrev pub of_numbers : Option (List ℕ) → Result (Option K) Fault
  of_numbers None = Err Unreadable
  of_numbers (Some []) = Ok None
  of_numbers (Some (n ∷ ns)) = result_map_both Some (λ e. e) (named (n ∷ ns))

  abbrev pub entry : List ℕ → Result (Option K) Fault
  entry l = of_numbers (numbers (words l))

  abbrev pub names : List (List ℕ) → List K
  names ls = flat_map (λ l. name_of (entry l)) ls

  abbrev pub faults : ℕ → List (List ℕ) → List LineFault
  faults n ls = flat_map (λ line. fault_of line.0 (entry line.1)) (enumerate_from n ls)
