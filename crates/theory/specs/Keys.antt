-- Keys along a chain, of an ordered kind: `key` gives the key of an element, `order` says how two keys stand. Assumes nothing.
--     KeyBefore order key i j    the key of i is before that of j
--     Rises order key l          the key of each element of l is before those of all that follow
--     Greatest order key g l     g is one of l, and none of l has a key after that of g
--     Arrives order key next s l w p q    a traversal for the key w, along the chain l behind s, stops at p with q next: p is s, or one of
--                                l with a key before w; q follows p, and is none or has a key that is not before w
use Rattle.std.specs.Prelude.{◌≡◌, ℕ, ◌⊎◌, List, Some, Option, ◌≢◌}
use Rattle.std.specs.List.{AllByRecursion}
use Rattle.std.specs.declared.cmp.Ordering.{Ordering}
use Rattle.std.specs.declared.cmp.Ordering.TheVariants.{Less}
use Rattle.theory.specs.Lists.{In, Pairwise}

module _ {K : Type 0} (order : K → K → Ordering) {A : Type 0} (key : A → K) where
  abbrev pub KeyBefore : A → A → Type 0
  KeyBefore i j = order (key i) (key j) ≡ Less

  abbrev pub Rises : List A → Type 0
  Rises l = Pairwise KeyBefore l

  pub record Greatest (g : A) (l : List A) : Type 0 where
    pub member : In g l
    pub none_after : AllByRecursion (λ x. KeyBefore g x → ⊥) l

pub record Arrives {K : Type 0} (order : K → K → Ordering) (key : ℕ → K) (next : ℕ → Option ℕ) (s : ℕ) (l : List ℕ) (w : K) (p : ℕ) (q : Option ℕ) : Type 0 where
  pub stands : (p ≡ s) ⊎ (In p l × (order (key p) w ≡ Less))
  pub follows : next p ≡ q
  pub stops : (y : ℕ) → q ≡ Some y → order (key y) w ≢ Less
