-- Members of lists, lists without doubles, and a number put into a list or taken out.
use Rattle.std.proofs.Common.{◌≡◌, ℕ, suc, ◌⊎◌, List, [], ◌∷◌, ◌++◌, map, length, sym, refl, ap, ◌∙◌, inl, inr}
use Rattle.std.specs.List.{AllByRecursion}
use Rattle.std.proofs.Math.Logic.{⊎_map}
use Rattle.std.proofs.lemmas.Bool.{cases_eq, eq-eqb, ne_eqb}
use Rattle.theory.specs.Lists.{In, Pairwise, Distinct, spliced, without}

module _ {A : Type 0} where
  pub all_in : (P : A → Type 0) (x : A) (l : List A) → AllByRecursion P l → In x l → P x
  all_in P x [] h m = absurd m
  all_in P x (y ∷ l) h (inl e) = rw e h.0
  all_in P x (y ∷ l) h (inr m) = all_in P x l h.1 m

  pub all_from : (P : A → Type 0) (l : List A) → ((x : A) → In x l → P x) → AllByRecursion P l
  all_from P [] f = tt
  all_from P (y ∷ l) f = (f y (inl refl), all_from P l (λ x m. f x (inr m)))

  pub in_append_left : (x : A) (l m : List A) → In x l → In x (l ++ m)
  in_append_left x [] m h = absurd h
  in_append_left x (y ∷ l) m (inl e) = inl e
  in_append_left x (y ∷ l) m (inr h) = inr (in_append_left x l m h)

  pub in_append_right : (x : A) (l m : List A) → In x m → In x (l ++ m)
  in_append_right x [] m h = h
  in_append_right x (y ∷ l) m h = inr (in_append_right x l m h)

  pub in_append_cases : (x : A) (l m : List A) → In x (l ++ m) → In x l ⊎ In x m
  in_append_cases x [] m h = inr h
  in_append_cases x (y ∷ l) m (inl e) = inl (inl e)
  in_append_cases x (y ∷ l) m (inr h) = ⊎_map inr (λ k. k) (in_append_cases x l m h)

  pub pairwise_weaker : (R S : A → A → Type 0) → ((x y : A) → R x y → S x y) → (l : List A) → Pairwise R l → Pairwise S l
  pairwise_weaker R S f [] h = tt
  pairwise_weaker R S f (x ∷ l) h = (all_from (S x) l (λ y m. f x y (all_in (R x) y l h.0 m)), pairwise_weaker R S f l h.1)

  -- no doubles, where no element stands in R to itself
  pub distinct_from_pairwise : (R : A → A → Type 0) → ((x : A) → R x x → ⊥) → (l : List A) → Pairwise R l → Distinct l
  distinct_from_pairwise R irr l h = pairwise_weaker R (λ x y. x ≡ y → ⊥) (λ x y r e. irr y (rw e at r)) l h

  pub distinct_append : (l m : List A) → Distinct l → Distinct m → ((x : A) → In x l → In x m → ⊥) → Distinct (l ++ m)
  distinct_append [] m dl dm apart = dm
  distinct_append (x ∷ l) m dl dm apart =
      (all_from (λ y. x ≡ y → ⊥) (l ++ m) (λ y h. other y (in_append_cases y l m h)), distinct_append l m dl.1 dm (λ y h k. apart y (inr h) k))
    where
      other : (y : A) → In y l ⊎ In y m → x ≡ y → ⊥
      other y (inl h) e = all_in (λ z. x ≡ z → ⊥) y l dl.0 h e
      other y (inr k) e = apart y (inl (sym e)) k

pub in_map : {A B : Type 0} (f : A → B) (x : A) (l : List A) → In x l → In (f x) (map f l)
in_map f x [] h = absurd h
in_map f x (y ∷ l) (inl e) = inl (ap f e)
in_map f x (y ∷ l) (inr h) = inr (in_map f x l h)

pub in_map_cases : {A B : Type 0} (f : A → B) (y : B) (l : List A) → In y (map f l) → (x : A) × In x l × (y ≡ f x)
in_map_cases f y [] h = absurd h
in_map_cases f y (x ∷ l) (inl e) = (x, inl refl, e)
in_map_cases f y (x ∷ l) (inr h) = let r = in_map_cases f y l h in (r.0, inr r.1, r.2)

pub distinct_map : {A B : Type 0} (f : A → B) → (l : List A) → ((x y : A) → In x l → In y l → f x ≡ f y → x ≡ y) → Distinct l → Distinct (map f l)
distinct_map f [] one d = tt
distinct_map f (x ∷ l) one d =
    (all_from (λ b. f x ≡ b → ⊥) (map f l) other, distinct_map f l (λ y z m n. one y z (inr m) (inr n)) d.1)
  where
    other : (b : _) → In b (map f l) → f x ≡ b → ⊥
    other b m e = let r = in_map_cases f b l m in all_in (λ z. x ≡ z → ⊥) r.0 l d.0 r.1 (one x r.0 (inl refl) (inr r.1) (e ∙ r.2))

-- ---- a number put in

pub spliced_here : (s p x : ℕ) (l : List ℕ) → s ≡ p → spliced s p x l ≡ x ∷ l
spliced_here s p x [] e = rw (eq-eqb s p e)
spliced_here s p x (i ∷ l) e = rw (eq-eqb s p e)

pub spliced_past : (s p x i : ℕ) (l : List ℕ) → (s ≡ p → ⊥) → spliced s p x (i ∷ l) ≡ i ∷ spliced i p x l
spliced_past s p x i l ne = rw (ne_eqb s p ne)

spliced_none : (s p x : ℕ) → (s ≡ p → ⊥) → spliced s p x [] ≡ []
spliced_none s p x ne = rw (ne_eqb s p ne)

pub in_spliced_cases : (i s p x : ℕ) (l : List ℕ) → In i (spliced s p x l) → (i ≡ x) ⊎ In i l
in_spliced_cases i s p x [] h = elim (cases_eq s p) [
  | inl e ↦ let k : In i (x ∷ []) = rw (spliced_here s p x [] e) at h in elim k [ inl q ↦ inl q | inr m ↦ absurd m ]
  | inr ne ↦ absurd (let k : In i [] = rw (spliced_none s p x ne) at h in k)
]
in_spliced_cases i s p x (j ∷ l) h = elim (cases_eq s p) [
  | inl e ↦ rw (spliced_here s p x (j ∷ l) e) at h
  | inr ne ↦ let k : In i (j ∷ spliced j p x l) = rw (spliced_past s p x j l ne) at h in elim k [
    | inl e ↦ inr (inl e)
    | inr m ↦ ⊎_map (λ e. e) inr (in_spliced_cases i j p x l m)
  ]
]

pub in_spliced_old : (i s p x : ℕ) (l : List ℕ) → In i l → In i (spliced s p x l)
in_spliced_old i s p x [] m = absurd m
in_spliced_old i s p x (j ∷ l) m = elim (cases_eq s p) [
  | inl e ↦ rw (spliced_here s p x (j ∷ l) e) (inr m)
  | inr ne ↦ rw (spliced_past s p x j l ne) (⊎_map (λ q. q) (in_spliced_old i j p x l) m)
]

pub in_spliced_new : (s p x : ℕ) (l : List ℕ) → In p (s ∷ l) → In x (spliced s p x l)
in_spliced_new s p x l (inl e) = rw (spliced_here s p x l (sym e)) (inl refl)
in_spliced_new s p x [] (inr m) = absurd m
in_spliced_new s p x (j ∷ l) (inr m) = elim (cases_eq s p) [
  | inl e ↦ rw (spliced_here s p x (j ∷ l) e) (inl refl)
  | inr ne ↦ rw (spliced_past s p x j l ne) (inr (in_spliced_new j p x l m))
]

-- ---- a number taken out

pub without_cons_same : (y i : ℕ) (l : List ℕ) → i ≡ y → without y (i ∷ l) ≡ without y l
without_cons_same y i l e = rw (eq-eqb i y e)

pub without_cons_other : (y i : ℕ) (l : List ℕ) → (i ≡ y → ⊥) → without y (i ∷ l) ≡ i ∷ without y l
without_cons_other y i l ne = rw (ne_eqb i y ne)

pub in_without_cases : (i y : ℕ) (l : List ℕ) → In i (without y l) → In i l × (i ≡ y → ⊥)
in_without_cases i y [] h = absurd h
in_without_cases i y (j ∷ l) h = elim (cases_eq j y) [
  | inl e ↦ let r = in_without_cases i y l (rw (without_cons_same y j l e) at h) in (inr r.0, r.1)
  | inr ne ↦ let k : In i (j ∷ without y l) = rw (without_cons_other y j l ne) at h in elim k [
    | inl e ↦ (inl e, λ q. ne (sym e ∙ q))
    | inr m ↦ let r = in_without_cases i y l m in (inr r.0, r.1)
  ]
]

pub in_without : (i y : ℕ) (l : List ℕ) → In i l → (i ≡ y → ⊥) → In i (without y l)
in_without i y [] m ne = absurd m
in_without i y (j ∷ l) (inl q) ne = rw (without_cons_other y j l (λ e. ne (q ∙ e))) (inl q)
in_without i y (j ∷ l) (inr k) ne = elim (cases_eq j y) [
  | inl e ↦ rw (without_cons_same y j l e) (in_without i y l k ne)
  | inr n ↦ rw (without_cons_other y j l n) (inr (in_without i y l k ne))
]

pub without_none : (y : ℕ) (l : List ℕ) → (In y l → ⊥) → without y l ≡ l
without_none y [] out = refl
without_none y (j ∷ l) out = without_cons_other y j l (λ e. out (inl (sym e))) ∙ ap (λ (m : List ℕ). j ∷ m) (without_none y l (λ m. out (inr m)))

pub distinct_without : (y : ℕ) (l : List ℕ) → Distinct l → Distinct (without y l)
distinct_without y [] d = tt
distinct_without y (j ∷ l) d = elim (cases_eq j y) [
  | inl e ↦ rw (without_cons_same y j l e) (distinct_without y l d.1)
  | inr ne ↦ rw (without_cons_other y j l ne) (all_from (λ i. j ≡ i → ⊥) (without y l) other, distinct_without y l d.1)
]
  where
    other : (i : ℕ) → In i (without y l) → j ≡ i → ⊥
    other i m = all_in (λ k. j ≡ k → ⊥) i l d.0 (in_without_cases i y l m).0

pub length_without : (y : ℕ) (l : List ℕ) → Distinct l → In y l → length l ≡ suc (length (without y l))
length_without y [] d m = absurd m
length_without y (j ∷ l) d (inl e) =
    cc (without_none y l (λ m. all_in (λ i. j ≡ i → ⊥) y l d.0 m (sym e)), without_cons_same y j l (sym e))
length_without y (j ∷ l) d (inr m) =
    cc (length_without y l d.1 m, without_cons_other y j l (all_in (λ i. j ≡ i → ⊥) y l d.0 m))
