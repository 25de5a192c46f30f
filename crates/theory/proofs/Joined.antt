-- Lists of lists, joined: their members, and that no element is twice; when two sums are the same.
use Rattle.std.proofs.Common.{◌≡◌, ℕ, List, [], ◌∷◌, sum_by, sym, refl, inl, inr, arith}
use Rattle.std.specs.List.{flat_map}
use Rattle.std.proofs.lemmas.List.Sums.{sum_by-cons}
use Rattle.theory.specs.Lists.{In, Distinct}
use Rattle.theory.proofs.Lists.{all_in, in_append_left, in_append_right, in_append_cases, distinct_append}

module _ {A B : Type 0} (f : A → List B) where
  pub in_joined : (y : B) (x : A) (l : List A) → In x l → In y (f x) → In y (flat_map f l)
  in_joined y x [] m h = absurd m
  in_joined y x (z ∷ l) (inl e) h = in_append_left y (f z) (flat_map f l) (rw (sym e) h)
  in_joined y x (z ∷ l) (inr m) h = in_append_right y (f z) (flat_map f l) (in_joined y x l m h)

  pub in_joined_cases : (y : B) (l : List A) → In y (flat_map f l) → (x : A) × In x l × In y (f x)
  in_joined_cases y [] h = absurd h
  in_joined_cases y (z ∷ l) h = elim (in_append_cases y (f z) (flat_map f l) h) [
    | inl k ↦ (z, inl refl, k)
    | inr k ↦ let r = in_joined_cases y l k in (r.0, inr r.1, r.2)
  ]

  -- lists without doubles that share no element, joined
  pub distinct_joined : (l : List A) → Distinct l → ((x : A) → In x l → Distinct (f x)) →
      ((x z : A) (y : B) → In x l → In z l → (x ≡ z → ⊥) → In y (f x) → In y (f z) → ⊥) → Distinct (flat_map f l)
  distinct_joined [] d each apart = tt
  distinct_joined (x ∷ l) d each apart =
      distinct_append (f x) (flat_map f l) (each x (inl refl)) (distinct_joined l d.1 (λ z m. each z (inr m)) (λ a b y m n. apart a b y (inr m) (inr n))) away
    where
      away : (y : B) → In y (f x) → In y (flat_map f l) → ⊥
      away y h k = let r = in_joined_cases y l k in apart x r.0 y (inl refl) (inr r.1) (all_in (λ z. x ≡ z → ⊥) r.0 l d.0 r.1) h r.2

-- sums of the same numbers are the same
pub sum_same : {A : Type 0} (f g : A → ℕ) (l : List A) → ((x : A) → In x l → f x ≡ g x) → sum_by f l ≡ sum_by g l
sum_same f g [] h = refl
sum_same f g (x ∷ l) h =
    let first = h x (inl refl) in
    let rest = sum_same f g l (λ y m. h y (inr m)) in
    let sf = sum_by-cons f x l in
    let sg = sum_by-cons g x l in
    omega arith
