-- Lists as memory: one field of a list's elements, and its value after a write and after any list of writes: at the written places, where
-- writes leave it as it was, and elsewhere.
use Rattle.std.proofs.Common.{◌≡◌, ℕ, ◌<◌, ◌≤◌, cond, eqb, List, [], ◌∷◌, ◌++◌, length, set, Some, sym, refl, ap, ◌∙◌, subst, inl, inr, arith, length-set}
use Rattle.std.specs.List.{slice_get, AllByRecursion}
use Rattle.std.proofs.lemmas.List.{set_past}
use Rattle.std.proofs.lemmas.Option.{slice_get_cases, slice_get_past, gets}
use Rattle.std.proofs.lemmas.Grind.{common_steps}
use Rattle.std.proofs.lemmas.Bool.{cases_eq, cases_lt, eq-eqb, ne_eqb}
use Rattle.theory.specs.Fields.{field, of_element, writes, places, Rewrites}
use Rattle.theory.specs.Lists.{In, Distinct}
use Rattle.theory.proofs.Lists.{all_in, all_from, in_map}

module _ {A : Type 0} where
  -- ---- elements

  pub nth_set_same : (l : List A) (i : ℕ) (x y : A) → slice_get l i ≡ Some y → slice_get (set l i x) i ≡ Some x
  nth_set_same l i x y h = grind (arith, common_steps, gets)

  pub nth_set_other : (l : List A) (i j : ℕ) (x : A) → (j ≡ i → ⊥) → slice_get (set l i x) j ≡ slice_get l j
  nth_set_other l i j x h = grind (arith, common_steps, gets)

  -- a number below the length has an element
  pub nth_found : (l : List A) (i : ℕ) → i < length l → (x : A) × (slice_get l i ≡ Some x)
  nth_found l i lt = elim (slice_get_cases l i).1 [ inl r ↦ (r.0, r.2) | inr r ↦ absurd (omega (arith, r.0)) ]

  -- writes keep the length
  pub length_writes : (l : List A) (ws : List (ℕ × A)) → length (writes l ws) ≡ length l
  length_writes l [] = refl
  length_writes l (w ∷ ws) = length_writes (set l w.0 w.1) ws ∙ length-set l w.0 w.1

  -- ---- a field

  module _ {B : Type 0} (f : A → B) (d : B) where
    pub field_is : (l : List A) (i : ℕ) (x : A) → slice_get l i ≡ Some x → field f d l i ≡ f x
    unfolding field
    field_is l i x e = ap (of_element f d) e

    pub field_past : (l : List A) (i : ℕ) → length l ≤ i → field f d l i ≡ d
    unfolding field
    field_past l i le = ap (of_element f d) (slice_get_past l i le)

    -- where a field is not the default, there is an element
    pub field_found : (l : List A) (i : ℕ) → (field f d l i ≡ d → ⊥) → (x : A) × (slice_get l i ≡ Some x) × (field f d l i ≡ f x)
    field_found l i other = elim (slice_get_cases l i).1 [ inl r ↦ (r.0, r.2, field_is l i r.0 r.2) | inr r ↦ absurd (other (field_past l i r.0)) ]

    -- ---- one write

    pub field_set_same : (l : List A) (i : ℕ) (x : A) → i < length l → field f d (set l i x) i ≡ f x
    field_set_same l i x lt = field_is (set l i x) i x (grind (arith, common_steps, gets))

    pub field_set_other : (l : List A) (i j : ℕ) (x : A) → (j ≡ i → ⊥) → field f d (set l i x) j ≡ field f d l j
    unfolding field
    field_set_other l i j x n = ap (of_element f d) (nth_set_other l i j x n)

    pub field_set : (l : List A) (i j : ℕ) (x : A) → i < length l → field f d (set l i x) j ≡ cond (eqb j i) (f x) (field f d l j)
    field_set l i j x lt = elim (cases_eq j i) [
      | inl e ↦ rw (eq-eqb j i e, e) (field_set_same l i x lt)
      | inr ne ↦ rw (ne_eqb j i ne) (field_set_other l i j x ne)
    ]

    -- a write elsewhere, or of the value that the field has there
    field_set_equal : (l : List A) (i j : ℕ) (x : A) → (j ≡ i → f x ≡ field f d l j) → field f d (set l i x) j ≡ field f d l j
    field_set_equal l i j x same = elim (cases_eq j i) [
      | inl e ↦ elim (cases_lt i (length l)) [ inl lt ↦ cc (field_set_same l i x lt, same e) | inr le ↦ rw (set_past l i x le) ]
      | inr ne ↦ field_set_other l i j x ne
    ]

    -- ---- writes, one after the other

    -- a number that is not written, or with nothing but the value that the field has there
    pub field_writes_equal : (l : List A) (ws : List (ℕ × A)) (j : ℕ) → AllByRecursion (Rewrites f d l j) ws → field f d (writes l ws) j ≡ field f d l j
    field_writes_equal l [] j h = refl
    field_writes_equal l (w ∷ ws) j h =
        let l' = set l w.0 w.1 in
        let first = field_set_equal l w.0 j w.1 h.0 in
        let rest = all_from (Rewrites f d l' j) ws (λ v m e. all_in (Rewrites f d l j) v ws h.1 m e ∙ sym first) in
        field_writes_equal l' ws j rest ∙ first

    -- a number that is not written
    pub field_writes_else : (l : List A) (ws : List (ℕ × A)) (j : ℕ) → (In j (places ws) → ⊥) → field f d (writes l ws) j ≡ field f d l j
    field_writes_else l ws j out = field_writes_equal l ws j (all_from (Rewrites f d l j) ws (λ w m e. absurd (out (away w m e))))
      where
        away : (w : ℕ × A) → In w ws → j ≡ w.0 → In j (places ws)
        away w m e = rw e (in_map (λ w. w.0) w ws m)

    -- past the end, whatever is written
    pub field_writes_past : (l : List A) (ws : List (ℕ × A)) (i : ℕ) → length l ≤ i → field f d (writes l ws) i ≡ d
    field_writes_past l ws i le = field_past (writes l ws) i (let n = length_writes l ws in omega arith)

    -- of the writes to a place the last one counts
    pub field_writes_last : (l : List A) (before : List (ℕ × A)) (w : ℕ × A) (after : List (ℕ × A)) → (In w.0 (places after) → ⊥) → w.0 < length l →
        field f d (writes l (before ++ w ∷ after)) w.0 ≡ f w.1
    field_writes_last l [] w after out lt = field_writes_else (set l w.0 w.1) after w.0 out ∙ field_set_same l w.0 w.1 lt
    field_writes_last l (v ∷ vs) w after out lt = field_writes_last (set l v.0 v.1) vs w after out (let n = length-set l v.0 v.1 in omega arith)

    -- writes to different places: the field is what was written at each of them
    pub field_writes_at : (l : List A) (ws : List (ℕ × A)) → Distinct (places ws) → (w : ℕ × A) → In w ws → w.0 < length l → field f d (writes l ws) w.0 ≡ f w.1
    field_writes_at l [] distinct w m lt = absurd m
    field_writes_at l (v ∷ ws) distinct w (inl e) lt =
        subst (λ (u : ℕ × A). u.0 < length l → field f d (writes l (v ∷ ws)) u.0 ≡ f u.1) (sym e)
        (field_writes_last l [] v ws (λ m. all_in (λ i. v.0 ≡ i → ⊥) v.0 (places ws) distinct.0 m refl)) lt
    field_writes_at l (v ∷ ws) distinct w (inr m) lt =
        field_writes_at (set l v.0 v.1) ws distinct.1 w m (let n = length-set l v.0 v.1 in omega arith)
