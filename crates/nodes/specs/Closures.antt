-- What calls of a closure answer. Assumes nothing.
--     Computes post f     where a call may answer as post says, it answers what f gives
use Rattle.std.specs.Prelude.{◌≡◌}

abbrev pub Computes : {A B : Type 0} → (A → B → Type 0) → (A → B) → Type 0
Computes {A} {B} post f = (x : A) (y : B) → post x y → y ≡ f x
