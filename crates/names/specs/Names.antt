-- What the numbers on a line name, and how a name is written. Assumes nothing.
--     number_named ns        a job number is named by one number
--     row_named ns           a rack address by three: aisle, bay and level
--     number_written n       a name as it is printed
--     number_expected        what a line of that kind is expected to be
use Rattle.std.specs.Prelude.{ℕ, List, [], ◌∷◌, Ok, Err, codes, decimal, Result}
use Rattle.std.specs.Result.{result_map_both}
use Rattle.order.specs.declared.row.Row.{Row}
use Rattle.order.specs.Addresses.{placed}
use Rattle.order.specs.Rows.{row_text}
use Rattle.names.specs.declared.name.Fault.{Fault}
use Rattle.names.specs.declared.name.Fault.TheVariants.{Refused, Unreadable}

abbrev pub number_named : List ℕ → Result ℕ Fault
number_named (n ∷ []) = Ok n
number_named _ = Err Unreadable

abbrev pub row_named : List ℕ → Result Row Fault
row_named (a ∷ b ∷ l ∷ []) = result_map_both (λ row. row) Refused (placed a b l)
row_named _ = Err Unreadable

abbrev pub number_written : ℕ → List ℕ
number_written n = decimal n

abbrev pub row_written : Row → List ℕ
row_written row = row_text row

abbrev pub number_expected : List ℕ
number_expected = codes "a number from 0 to 4294967295"

abbrev pub row_expected : List ℕ
row_expected = codes "aisle, bay and level, three numbers from 0 to 4294967295"
