-- What a sort gives of keys: whatever the order, the same keys, arranged; and that of the library, by a closure
-- that answers a kind's order.
use Rattle.std.proofs.Common.{◌≡◌, Bool, List, sym, ap, ◌∙◌, true≢false, Bor, arith}
use Rattle.std.specs.Cmp.{IsTotalOrder, IsStrictWeakOrder}
use Rattle.std.specs.Fn.{Called, ComparesAs, Mut}
use Rattle.std.specs.Ordering.{is_lt}
use Rattle.std.specs.List.Sorted.{IsPermutation, IsSorted, IsSortedBy}
use Rattle.std.proofs.lemmas.Fn.{always_returns_same}
use Rattle.std.proofs.lemmas.List.Sorted.{sum_by-IsPermutation, ranks_by}
use Rattle.std.specs.declared.cmp.Ordering.{Ordering}
use Rattle.order.specs.Orders.{OrderLaws}
use Rattle.order.specs.Lists.{Arranged}

module _ {K : Type 0} (order : K → K → Ordering) where
  pub arranged : (keys ls : List K) → IsPermutation keys ls → IsSorted order ls → Arranged order keys ls
  arranged keys ls shuffled ascends = record {
    often = λ k. sum_by-IsPermutation _ keys ls shuffled;
    climbs = λ i d lt b. true≢false (sym (ap is_lt b) ∙ ascends i d (omega arith) lt);
  }

module _ {K : Type 0} {order : K → K → Ordering} (laws : OrderLaws order) where
  pub total : IsTotalOrder order
  total = record {
    antisymm = λ x y. laws.turns y x;
    trans = laws.carries;
    congr = λ x y z e. ap (λ k. order k z) (laws.equal x y e);
  }

  -- each call of the closure f answers the order of its two keys
  pub arranged_by_closure : {F : Type 0} {g : Mut F (Bor K × (Bor K × Unit {0})) Ordering} {f : F} (xs ys : List K) → IsPermutation xs ys
      → ((lt : K → K → Bool) → IsStrictWeakOrder lt → ComparesAs g lt f → IsSortedBy lt ys)
      → ((a : Bor K × (Bor K × Unit {0})) (r : Ordering) (f' : F) → Called g f a r f' → (r ≡ order a.0.now a.1.0.now) × (f' ≡ f)) → Arranged order xs ys
  arranged_by_closure {g = g} {f = f} xs ys shuffled sorted answers = arranged order xs ys shuffled ascends
    where
      ascends : IsSortedBy (λ x y. is_lt (order x y)) ys
      ascends = sorted (λ x y. is_lt (order x y)) (ranks_by total (λ x. x)) (always_returns_same g (λ a r. is_lt r ≡ is_lt (order a.0.now a.1.0.now)) f (λ a r f' k. (ap is_lt (answers a r f' k).0, (answers a r f' k).1)))
