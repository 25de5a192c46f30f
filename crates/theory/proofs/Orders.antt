-- Consequences of the laws of an order of keys.
use Rattle.std.proofs.Common.{◌≡◌, ◌⊎◌, refl, inl, inr}
use Rattle.std.specs.declared.cmp.Ordering.{Ordering}
use Rattle.std.specs.declared.cmp.Ordering.TheVariants.{Less, Equal, Greater}
use Rattle.order.specs.Orders.{OrderLaws}

pub cases_of_order : (o : Ordering) → (o ≡ Less) ⊎ ((o ≡ Equal) ⊎ (o ≡ Greater))
cases_of_order Less = inl refl
cases_of_order Equal = inr (inl refl)
cases_of_order Greater = inr (inr refl)

pub before_or_not : (o : Ordering) → (o ≡ Less) ⊎ (o ≡ Less → ⊥)
before_or_not Less = inl refl
before_or_not Equal = inr (λ e. cc)
before_or_not Greater = inr (λ e. cc)

module _ {K : Type 0} (order : K → K → Ordering) (laws : OrderLaws order) where
  pub not_before_itself : (x : K) → order x x ≡ Less → ⊥
  not_before_itself x b = cc (laws.itself x)

  -- equal keys are not before one another
  pub not_before_equal : (x y : K) → x ≡ y → order x y ≡ Less → ⊥
  not_before_equal x y e b = cc (laws.itself y)

  pub after_from_before : (x y : K) → order x y ≡ Less → order y x ≡ Greater
  after_from_before x y b = cc (laws.turns x y)

  pub before_from_after : (x y : K) → order x y ≡ Greater → order y x ≡ Less
  before_from_after x y a = cc (laws.turns x y)

  pub not_both_before : (x y : K) → order x y ≡ Less → order y x ≡ Less → ⊥
  not_both_before x y a b = cc (laws.turns x y)

  -- not before carries over a middle key
  pub not_before_carries : (x y z : K) → (order x y ≡ Less → ⊥) → (order y z ≡ Less → ⊥) → order x z ≡ Less → ⊥
  not_before_carries x y z a b c = elim (cases_of_order (order x y)) [
    | inl e ↦ a e
    | inr (inl e) ↦ b (cc (laws.equal x y e))
    | inr (inr e) ↦ b (laws.carries y x z (before_from_after x y e) c)
  ]

  -- two keys are equal or not
  pub equal_or_not : (x y : K) → (x ≡ y) ⊎ (x ≡ y → ⊥)
  equal_or_not x y = elim (cases_of_order (order x y)) [
    | inl b ↦ inr (λ e. cc (laws.itself x))
    | inr (inl e) ↦ inl (laws.equal x y e)
    | inr (inr a) ↦ inr (λ e. cc (laws.itself x))
  ]
