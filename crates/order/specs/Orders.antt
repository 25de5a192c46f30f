-- The laws of a kind of key, as its trait states them. Assumes nothing.
use Rattle.std.specs.Prelude.{◌≡◌}
use Rattle.std.specs.Ordering.{ordering_reverse}
use Rattle.std.specs.declared.cmp.Ordering.{Ordering}
use Rattle.std.specs.declared.cmp.Ordering.TheVariants.{Less, Equal}

pub record OrderLaws {K : Type 0} (order : K → K → Ordering) : Type 0 where
  pub itself : (x : K) → order x x ≡ Equal
  pub equal : (x y : K) → order x y ≡ Equal → x ≡ y
  pub turns : (x y : K) → order y x ≡ ordering_reverse (order x y)
  pub carries : (x y z : K) → order x y ≡ Less → order y z ≡ Less → order x z ≡ Less
