-- How many numbers below a bound meet a test. Assumes nothing.
--     Meets test n i     i is below n and meets the test
--     count test n       how many of the numbers below n meet the test
use Rattle.std.specs.Prelude.{◌≡◌, ℕ, zero, suc, ◌+◌, ◌<◌, Bool, true, cond}

abbrev pub Meets : (ℕ → Bool) → ℕ → ℕ → Type 0
Meets test n i = (i < n) × (test i ≡ true)

abbrev pub count : (ℕ → Bool) → ℕ → ℕ
count test zero = 0
count test (suc n) = cond (test n) 1 0 + count test n
