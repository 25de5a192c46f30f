-- Reachability along a chain. Assumes nothing.
--     Reach next x f       f is x, or is met by following next from x
--     Ahead next x f       f is met by following next from x, past x
use Rattle.std.specs.Prelude.{◌≡◌, ℕ, Some, Option}

pub data Reach (next : ℕ → Option ℕ) : ℕ → ℕ → Type 0 where
  here : {x f : ℕ} → x ≡ f → Reach next x f
  onward : {x y f : ℕ} → next x ≡ Some y → Reach next y f → Reach next x f

pub record Ahead (next : ℕ → Option ℕ) (x f : ℕ) : Type 0 where
  pub first : ℕ
  pub is : next x ≡ Some first
  pub reach : Reach next first f
