-- The numbers by which refusals are told. Assumes nothing.
use Rattle.std.specs.Prelude.{ℕ}
use Rattle.order.specs.Addresses as addresses
use Rattle.nodes.specs.declared.refusal.Refusal.{Refusal}
use Rattle.nodes.specs.declared.refusal.Refusal.TheVariants.{Misfit, BadFirst, Nobody, Busy, Unknown, WornOut, Resting, Unfinished, Damage, NoPlace}

abbrev pub refusal_number : Refusal → ℕ
refusal_number Misfit = 1
refusal_number BadFirst = 2
refusal_number Nobody = 3
refusal_number Busy = 4
refusal_number Unknown = 5
refusal_number WornOut = 6
refusal_number Resting = 7
refusal_number Unfinished = 8
refusal_number Damage = 9
refusal_number (NoPlace e) = addresses.refusal_number e
