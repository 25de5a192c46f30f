-- Which rack addresses exist, and what making one answers. Assumes nothing.
--     row_of a             the bare numbers of an address
--     rows_of r            an answer with its address by its bare numbers
--     in_range l h n       n is from l to h
--     exists a b l         there is an address with these numbers
--     placed a b l         what making an address of three numbers answers, by its row
--     refusal_number e     the number of the refusal 'no place'
use Rattle.std.specs.Prelude.{ℕ, Bool, true, false, ◌&&◌, Ok, Err, Result, nat_le}
use Rattle.order.specs.declared.row.Row.{Row}
use Rattle.order.specs.declared.address.Address.{Address}
use Rattle.order.specs.declared.address.making.NoPlace.{NoPlace}

abbrev pub row_of : Address → Row
row_of a = record { aisle = a.aisle; bay = a.bay; level = a.level }

abbrev pub rows_of : Result Address NoPlace → Result Row NoPlace
rows_of (Ok a) = Ok (row_of a)
rows_of (Err e) = Err e

abbrev pub in_range : ℕ → ℕ → ℕ → Bool
in_range low high n = nat_le low n && nat_le n high

abbrev pub exists : ℕ → ℕ → ℕ → Bool
exists aisle bay level = in_range 1 99 aisle && (in_range 1 999 bay && in_range 1 30 level)

abbrev pub placed : ℕ → ℕ → ℕ → Result Row NoPlace
placed aisle bay level = elim (exists aisle bay level) [
  | true ↦ Ok (record { aisle = aisle; bay = bay; level = level })
  | false ↦ Err (record {})
]

abbrev pub refusal_number : NoPlace → ℕ
refusal_number e = 10
