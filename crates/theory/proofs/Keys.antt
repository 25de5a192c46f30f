-- Keys along chains: a list in which each number stands before the one that follows it rises and has no number twice; where a key
-- stands in a rising list is where a traversal arrives; the greatest key of a list.
use Rattle.std.proofs.Common.{◌≡◌, ℕ, true, List, [], ◌∷◌, map, Some, Option, sym, refl, ap, ◌∙◌, subst, inl, inr}
use Rattle.std.proofs.Math.Logic.{⊎_map}
use Rattle.std.specs.declared.cmp.Ordering.{Ordering}
use Rattle.std.specs.declared.cmp.Ordering.TheVariants.{Less}
use Rattle.order.specs.Lists.{rises_after, rising}
use Rattle.std.specs.Ordering.{is_lt}
use Rattle.order.specs.Orders.{OrderLaws}
use Rattle.theory.specs.Chains.{Linked}
use Rattle.theory.specs.Keys.{KeyBefore, Rises, Greatest, Arrives}
use Rattle.theory.specs.Lists.{In, Pairwise, Distinct}
use Rattle.theory.proofs.Lists.{all_in, all_from, distinct_from_pairwise}
use Rattle.theory.proofs.Chains.{linked_first, linked_next}
use Rattle.theory.proofs.Orders.{before_or_not, not_before_itself, not_before_equal, not_before_carries, not_both_before}

-- ---- from each to the next, to all that follow, and back

module _ (next : ℕ → Option ℕ) (R : ℕ → ℕ → Type 0) where
  pub pairwise_from_next : ((x y z : ℕ) → R x y → R y z → R x z) →
      (o : Option ℕ) (l : List ℕ) → Linked next o l → ((x y : ℕ) → In x l → next x ≡ Some y → R x y) → Pairwise R l
  pairwise_from_next tr o [] h f = tt
  pairwise_from_next tr o (i ∷ []) h f = (tt, tt)
  pairwise_from_next tr o (i ∷ j ∷ l) h f =
      let r = pairwise_from_next tr (next i) (j ∷ l) h.1 (λ x y m e. f x y (inr m) e) in
      let ij : R i j = f i j (inl refl) h.1.0 in
      ((ij, all_from (R i) l (λ x m. tr i j x ij (all_in (R j) x l r.0 m))), r)

  pub next_from_pairwise : (o : Option ℕ) (l : List ℕ) → Linked next o l → Pairwise R l → (x y : ℕ) → In x l → next x ≡ Some y → R x y
  next_from_pairwise o [] h a x y m e = absurd m
  next_from_pairwise o (i ∷ l) h a x y (inl q) e = rw q (all_in (R i) y l a.0 (linked_first next (next i) l y h.1 (rw (sym q) e)))
  next_from_pairwise o (i ∷ l) h a x y (inr m) e = next_from_pairwise (next i) l h.1 a.1 x y m e

-- ---- keys of a rising list, as a list

module _ {K : Type 0} (order : K → K → Ordering) {A : Type 0} (key : A → K) where
  rising_behind : (x : A) (l : List A) → Rises order key (x ∷ l) → rises_after order (Some (key x)) (map key l) ≡ true
  rising_behind x [] h = refl
  rising_behind x (y ∷ l) h = rw (ap is_lt h.0.0) (rising_behind y l h.1)

  -- the keys of a rising list rise, as the kind of key tells it
  pub rising_keys : (l : List A) → Rises order key l → rising order (map key l) ≡ true
  rising_keys [] h = refl
  rising_keys (x ∷ l) h = rising_behind x l h

module _ {K : Type 0} (order : K → K → Ordering) (laws : OrderLaws order) where
  -- ---- rising lists

  module _ {A : Type 0} (key : A → K) where
    pub rises_distinct : (l : List A) → Rises order key l → Distinct l
    rises_distinct l h = distinct_from_pairwise (KeyBefore order key) (λ x. not_before_itself order laws (key x)) l h

    -- the first key of a rising list stands nowhere behind
    first_alone : (x : A) (l : List A) → Rises order key (x ∷ l) → (i : A) → In i l → key x ≡ key i → ⊥
    first_alone x l h i m e = not_before_equal order laws (key x) (key i) e (all_in (KeyBefore order key x) i l h.0 m)

    -- a key stands once in a rising list
    pub rises_once : (l : List A) → Rises order key l → (i j : A) → In i l → In j l → key i ≡ key j → i ≡ j
    rises_once [] h i j m n e = absurd m
    rises_once (x ∷ l) h i j (inl p) (inl q) e = p ∙ sym q
    rises_once (x ∷ l) h i j (inl p) (inr n) e = absurd (first_alone x l h j n (ap key (sym p) ∙ e))
    rises_once (x ∷ l) h i j (inr m) (inl q) e = absurd (first_alone x l h i m (ap key (sym q) ∙ sym e))
    rises_once (x ∷ l) h i j (inr m) (inr n) e = rises_once l h.1 i j m n e

  -- ---- where a traversal for the key w arrives

  module _ (key : ℕ → K) (next : ℕ → Option ℕ) (w : K) where
    abbrev Stops : Option ℕ → Type 0
    Stops q = (y : ℕ) → q ≡ Some y → order (key y) w ≡ Less → ⊥

    -- where the first key of a list is not before w, the key w stands first or nowhere
    stands_first : (q : Option ℕ) (l : List ℕ) → Linked next q l → Rises order key l → Stops q → (i : ℕ) → In i l → key i ≡ w → q ≡ Some i
    stands_first q [] h r s i m e = absurd m
    stands_first q (j ∷ l) h r s i (inl p) e = h.0 ∙ ap Some (sym p)
    stands_first q (j ∷ l) h r s i (inr m) e =
        absurd (s j h.0 (subst (λ k. order (key j) k ≡ Less) e (all_in (KeyBefore order key j) i l r.0 m)))

    -- behind p, whose key is before w, the key w stands next or nowhere
    stands_next : (p : ℕ) → order (key p) w ≡ Less → Stops (next p) → (o : Option ℕ) (l : List ℕ) → Linked next o l → Rises order key l → In p l →
        (i : ℕ) → In i l → key i ≡ w → next p ≡ Some i
    stands_next p b s o [] h r m i k e = absurd m
    stands_next p b s o (j ∷ l) h r (inl u) i (inl v) e = absurd (not_before_equal order laws (key p) w (ap key (u ∙ sym v) ∙ e) b)
    stands_next p b s o (j ∷ l) h r (inl u) i (inr k) e = stands_first (next p) l (rw u h.1) r.1 s i k e
    stands_next p b s o (j ∷ l) h r (inr m) i (inl v) e =
        let jp : order (key j) (key p) ≡ Less = all_in (KeyBefore order key j) p l r.0 m in
        absurd (not_both_before order laws w (key p) (subst (λ k. order k (key p) ≡ Less) (ap key (sym v) ∙ e) jp) b)
    stands_next p b s o (j ∷ l) h r (inr m) i (inr k) e = stands_next p b s (next j) l h.1 r.1 m i k e

    module _ (s : ℕ) (l : List ℕ) (p : ℕ) (q : Option ℕ) (h : Linked next (next s) l) (a : Arrives order key next s l w p q) where
      -- where the key w stands in the list is where the traversal arrives
      pub arrives_at : Rises order key l → (i : ℕ) → In i l → key i ≡ w → q ≡ Some i
      arrives_at r i m e =
          let stops : Stops (next p) = λ y n. a.stops y (sym a.follows ∙ n) in
          sym a.follows ∙ elim a.stands [
            | inl u ↦ stands_first (next p) l (rw u h) r stops i m e
            | inr u ↦ stands_next p u.1 stops (next s) l h r u.0 i m e
          ]

      -- what it arrives at is in the list
      pub arrives_in : (y : ℕ) → q ≡ Some y → In y l
      arrives_in y e = linked_next next s l h p y (a.follows ∙ e) (⊎_map (λ u. u) (λ u. u.0) a.stands)

  -- ---- the greatest key

  module _ {A : Type 0} (key : A → K) where
    -- x, where it is not before the greatest of the others
    first_greatest : (x g : A) (l : List A) → Greatest order key g l → (KeyBefore order key x g → ⊥) → Greatest order key x (x ∷ l)
    first_greatest x g l r n = record { member = inl refl; none_after = (not_before_itself order laws (key x), all_from (λ z. KeyBefore order key x z → ⊥) l none) }
      where
        none : (z : A) → In z l → KeyBefore order key x z → ⊥
        none z m = not_before_carries order laws (key x) (key g) (key z) n (all_in (λ z. KeyBefore order key g z → ⊥) z l r.none_after m)

    pub greatest : (x : A) (l : List A) → (g : A) × Greatest order key g (x ∷ l)
    greatest x [] = (x, record { member = inl refl; none_after = (not_before_itself order laws (key x), tt) })
    greatest x (y ∷ l) =
        let r = greatest y l in
        elim (before_or_not (order (key x) (key r.0))) [
          | inl b ↦ (r.0, record { member = inr r.1.member; none_after = (not_both_before order laws (key x) (key r.0) b, r.1.none_after) })
          | inr n ↦ (x, first_greatest x r.0 (y ∷ l) r.1 n)
        ]
