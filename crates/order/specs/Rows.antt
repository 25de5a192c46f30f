-- Rack addresses by their bare numbers. Assumes nothing.
--     row_order a b     by aisle, then bay, then level
--     row_text a        how a row is printed
use Rattle.std.specs.Prelude.{ℕ, List, ◌++◌, codes, decimal}
use Rattle.std.specs.Ordering.{ordering_then, nat_cmp}
use Rattle.std.specs.declared.cmp.Ordering.{Ordering}
use Rattle.order.specs.declared.row.Row.{Row}

abbrev pub row_order : Row → Row → Ordering
row_order a b = ordering_then (nat_cmp a.aisle b.aisle) (ordering_then (nat_cmp a.bay b.bay) (nat_cmp a.level b.level))

abbrev pub row_text : Row → List ℕ
row_text row = decimal row.aisle ++ (codes " " ++ (decimal row.bay ++ (codes " " ++ decimal row.level)))
