-- Chains as lists: the list is unique and has no number twice; what a write to one next number leaves of it; what linking a
-- number behind another and unlinking one make of it; and that what is kept stays closed under next.
use Rattle.std.proofs.Common.{◌≡◌, ℕ, ◌<◌, Bool, true, ◌⊎◌, List, [], ◌∷◌, length, Some, None, Option, sym, refl, ap, ◌∙◌, subst, inl, inr, arith}
use Rattle.std.specs.List.{AllByRecursion}
use Rattle.std.proofs.lemmas.Bool.{cases_eq}
use Rattle.theory.specs.Chains.{Linked, AllKept, Closed, OnlyAt, Links, Unlinks}
use Rattle.theory.specs.Lists.{In, Distinct, spliced, without}
use Rattle.theory.proofs.Lists.{all_in, all_from, spliced_here, spliced_past, without_cons_same, without_cons_other, without_none}

-- ---- a unique list, without doubles

module _ (next : ℕ → Option ℕ) where
  pub linked_unique : (o : Option ℕ) (l m : List ℕ) → Linked next o l → Linked next o m → l ≡ m
  linked_unique o [] [] h k = refl
  linked_unique o [] (j ∷ m) h k = cc
  linked_unique o (i ∷ l) [] h k = cc
  linked_unique o (i ∷ l) (j ∷ m) h k =
      let e : i ≡ j = cc in
      let r : l ≡ m = linked_unique (next i) l m h.1 (rw (sym e) at k.1) in
      cc

  -- what follows a number of the list, as a list of its own
  pub record Rest (l : List ℕ) (i : ℕ) : Type 0 where
    pub list : List ℕ
    pub linked : Linked next (next i) list
    pub shorter : length list < length l
    pub inside : (j : ℕ) → In j list → In j l

  pub linked_rest : (o : Option ℕ) (l : List ℕ) (i : ℕ) → Linked next o l → In i l → Rest l i
  linked_rest o [] i h m = absurd m
  linked_rest o (j ∷ l) i h (inl e) = record { list = l; linked = rw e h.1; shorter = omega arith; inside = λ k n. inr n }
  linked_rest o (j ∷ l) i h (inr m) =
      let r = linked_rest (next j) l i h.1 m in
      let lt : length r.list < length l = r.shorter in
      record { list = r.list; linked = r.linked; shorter = omega arith; inside = λ k n. inr (r.inside k n) }

  -- what heads a chain is not among what follows
  pub linked_once : (i : ℕ) (l : List ℕ) → Linked next (next i) l → In i l → ⊥
  linked_once i l h m =
      let r = linked_rest (next i) l i h m in
      let lt : length r.list < length l = r.shorter in
      let q : length l ≡ length r.list = ap length (linked_unique (next i) l r.list h r.linked) in
      omega arith

  pub linked_distinct : (o : Option ℕ) (l : List ℕ) → Linked next o l → Distinct l
  linked_distinct o [] h = tt
  linked_distinct o (i ∷ l) h = (all_from (λ j. i ≡ j → ⊥) l (λ j m e. linked_once i l h.1 (rw e m)), linked_distinct (next i) l h.1)

  pub linked_first : (o : Option ℕ) (l : List ℕ) (y : ℕ) → Linked next o l → o ≡ Some y → In y l
  linked_first o [] y h e = cc
  linked_first o (j ∷ l) y h e = inl (cc)

  -- ---- the chain l behind s

  module _ (s : ℕ) (l : List ℕ) (h : Linked next (next s) l) (i y : ℕ) (e : next i ≡ Some y) where
    -- what follows s, or a number of the chain, is in the chain
    pub linked_next : In i (s ∷ l) → In y l
    linked_next (inl q) = linked_first (next s) l y h (rw (sym q) e)
    linked_next (inr m) = let r = linked_rest (next s) l i h m in r.inside y (linked_first (next i) r.list y r.linked e)

    -- and is another number
    pub linked_next_other : In i (s ∷ l) → i ≡ y → ⊥
    linked_next_other (inl q) d = linked_once s l h (subst (λ k. In k l) (sym d ∙ q) (linked_next (inl q)))
    linked_next_other (inr m) d =
        let r = linked_rest (next s) l i h m in
        linked_once i r.list r.linked (subst (λ k. In k r.list) (sym d) (linked_first (next i) r.list y r.linked e))

-- ---- framing

pub linked_same : (next next' : ℕ → Option ℕ) (o : Option ℕ) (l : List ℕ) → AllByRecursion (λ i. next' i ≡ next i) l → Linked next o l → Linked next' o l
linked_same next next' o [] e h = h
linked_same next next' o (i ∷ l) e h = (h.0, rw e.0 (linked_same next next' (next i) l e.1 h.1))

module _ (kept : ℕ → Bool) (next next' : ℕ → Option ℕ) where
  -- a write outside the list keeps it
  pub linked_aside : (p : ℕ) → OnlyAt kept next next' p → (o : Option ℕ) (l : List ℕ) → AllKept kept l → (In p l → ⊥) → Linked next o l → Linked next' o l
  linked_aside p else o l k out h = linked_same next next' o l (all_from (λ i. next' i ≡ next i) l same) h
    where
      same : (i : ℕ) → In i l → next' i ≡ next i
      same i m = else i (all_in (λ j. kept j ≡ true) i l k m) (λ e. out (rw (sym e) m))

  -- the same of the chain l behind s
  pub linked_elsewhere : (p : ℕ) → OnlyAt kept next next' p →
      (s : ℕ) (l : List ℕ) → AllKept kept (s ∷ l) → (In p (s ∷ l) → ⊥) → Linked next (next s) l → Linked next' (next' s) l
  linked_elsewhere p else s l k out h =
      rw (else s k.0 (λ e. out (inl (sym e)))) (linked_aside p else (next s) l k.1 (λ m. out (inr m)) h)

  -- ---- linking

  module _ (p x : ℕ) (w : Links kept next next' p x) where
    link_here : (s : ℕ) (l : List ℕ) → s ≡ p → AllKept kept l → Linked next (next s) l → Linked next' (next' s) (spliced s p x l)
    link_here s l e k h =
        let tail : Linked next (next p) l = rw e at h in
        rw (spliced_here s p x l e) (ap next' e ∙ w.at, rw w.new (linked_aside p w.else (next p) l k (linked_once next p l tail) tail))

    -- x is linked behind p, in the chain l behind s
    pub linked_link : (s : ℕ) (l : List ℕ) → AllKept kept (s ∷ l) → In p (s ∷ l) → Linked next (next s) l → Linked next' (next' s) (spliced s p x l)
    linked_link s l k (inl e) h = link_here s l (sym e) k.1 h
    linked_link s [] k (inr m) h = absurd m
    linked_link s (i ∷ l) k (inr m) h = elim (cases_eq s p) [
      | inl e ↦ link_here s (i ∷ l) e k.1 h
      | inr ne ↦ rw (spliced_past s p x i l ne) (w.else s k.0 ne ∙ h.0, linked_link i l k.1 m h.1)
    ]

  -- ---- unlinking

  module _ (p y : ℕ) (w : Unlinks kept next next' p y) where
    unlink_here : (s : ℕ) (l : List ℕ) → s ≡ p → AllKept kept l → Linked next (next s) l → Linked next' (next' s) (without y l)
    unlink_here s [] e k h = cc (ap next e, w.was)
    unlink_here s (j ∷ l) e k h =
        let q : j ≡ y = cc in
        let cut : without y (j ∷ l) ≡ l = without_cons_same y j l q ∙ without_none y l (λ m. linked_once next j l h.1 (rw q m)) in
        let once : In p l → ⊥ = λ m. linked_once next p (j ∷ l) (rw e at h) (inr m) in
        rw (cut, ap next' e ∙ (w.at ∙ ap next (sym q))) (linked_aside p w.else (next j) l k.1 once h.1)

    -- y, which follows p, is unlinked, in the chain l behind s
    pub linked_unlink : (s : ℕ) (l : List ℕ) → AllKept kept (s ∷ l) → In p (s ∷ l) → Linked next (next s) l → Linked next' (next' s) (without y l)
    linked_unlink s l k (inl e) h = unlink_here s l (sym e) k.1 h
    linked_unlink s [] k (inr m) h = absurd m
    linked_unlink s (i ∷ l) k (inr m) h = elim (cases_eq s p) [
      | inl e ↦ unlink_here s (i ∷ l) e k.1 h
      | inr ne ↦ rw (without_cons_other y i l past) (w.else s k.0 ne ∙ h.0, linked_unlink i l k.1 m h.1)
    ]
      where
        -- y stands behind i
        past : i ≡ y → ⊥
        past e = linked_once next i l h.1 (rw e (linked_next next i l h.1 p y w.was m))

  -- ---- closed under next, before and after a write

  module _ (closed : Closed kept next) where
    -- what is new among the kept is x, or followed by none
    pub closed_link : (p x : ℕ) → Links kept next next' p x → kept p ≡ true → (kept' : ℕ → Bool) → kept' x ≡ true → ((i : ℕ) → kept i ≡ true → kept' i ≡ true) →
        ((i : ℕ) → kept' i ≡ true → (kept i ≡ true) ⊎ ((i ≡ x) ⊎ (next' i ≡ None))) → Closed kept' next'
    closed_link p x w kp kept' kx old new i y k e = go (cases_eq i p) (new i k)
      where
        go : (i ≡ p) ⊎ (i ≡ p → ⊥) → (kept i ≡ true) ⊎ ((i ≡ x) ⊎ (next' i ≡ None)) → kept' y ≡ true
        go (inl q) o = cc
        go (inr ne) (inl o) = old y (closed i y o (sym (w.else i o ne) ∙ e))
        go (inr ne) (inr (inl q)) = old y (closed p y kp (cc))
        go (inr ne) (inr (inr z)) = cc

    pub closed_unlink : (p y : ℕ) → Unlinks kept next next' p y → kept p ≡ true → Closed kept next'
    closed_unlink p y w kp i z k e = elim (cases_eq i p) [
      | inl q ↦ closed y z (closed p y kp w.was) (cc)
      | inr ne ↦ closed i z k (sym (w.else i k ne) ∙ e)
    ]
