-- Ways in a graph: one more edge closes no circle if no way leads back; a closed set rules a way out; edges graded by stamps close no
-- circle if none has a way back over older ones; a way up to its first visit.
use Rattle.std.proofs.Common.{◌≡◌, ℕ, zero, suc, ◌+◌, ◌<◌, ◌≤◌, ◌⊎◌, sym, ◌∙◌, subst, inl, inr, arith}
use Rattle.std.proofs.Math.Logic.{⊎_map}
use Rattle.std.proofs.lemmas.Bool.{cases_eq}
use Rattle.theory.specs.Ways.{Leads, Way, Acyclic, With, Avoiding, Older, Stamped}
use Rattle.theory.specs.Ways.{Leads.last, Leads.more}

-- ways over the images of edges
pub leads_along : {A B : Type 0} (E : A → A → Type 0) (F : B → B → Type 0) (f : A → B) → ((x y : A) → E x y → F (f x) (f y)) → (a b : A) → Leads E a b → Leads F (f a) (f b)
leads_along E F f image a b (last e) = last (image a b e)
leads_along E F f image a c (more {b = b} e l) = more (image a b e) (leads_along E F f image b c l)

module _ {A : Type 0} where
  pub leads_map : (E F : A → A → Type 0) → ((x y : A) → E x y → F x y) → (a b : A) → Leads E a b → Leads F a b
  leads_map E F f a b l = leads_along E F (λ x. x) f a b l

  pub way_map : (E F : A → A → Type 0) → ((x y : A) → E x y → F x y) → (a b : A) → Way E a b → Way F a b
  way_map E F f a b w = ⊎_map (λ e. e) (leads_map E F f a b) w

  -- fewer edges close no circle if more do not
  pub acyclic_fewer : (E F : A → A → Type 0) → ((x y : A) → E x y → F x y) → Acyclic F → Acyclic E
  acyclic_fewer E F f none x l = none x (leads_map E F f x x l)

  module _ (E : A → A → Type 0) where
    pub leads_join : (a b c : A) → Leads E a b → Leads E b c → Leads E a c
    leads_join a b c (last e) k = more e k
    leads_join a b c (more {b = m} e l) k = more e (leads_join m b c l k)

    pub way_join : (a b c : A) → Way E a b → Way E b c → Way E a c
    way_join a b c (inl e) (inl f) = inl (e ∙ f)
    way_join a b c (inl e) (inr k) = inr (rw e k)
    way_join a b c (inr l) (inl f) = inr (rw (sym f) l)
    way_join a b c (inr l) (inr k) = inr (leads_join a b c l k)

    -- an edge and then a way
    pub leads_way : (a b c : A) → E a b → Way E b c → Leads E a c
    leads_way a b c e (inl f) = last (rw (sym f) e)
    leads_way a b c e (inr k) = more e k

    -- a way and then an edge
    pub way_leads : (a b c : A) → Way E a b → E b c → Leads E a c
    way_leads a b c (inl q) e = last (rw q e)
    way_leads a b c (inr l) e = leads_join a b c l (last e)

    -- what is closed under the edges is not left by a way
    pub leads_closed : (S : A → Type 0) → ((x y : A) → S x → E x y → S y) → (a b : A) → S a → Leads E a b → S b
    leads_closed S closed a b s (last e) = closed a b s e
    leads_closed S closed a b s (more {b = m} e l) = leads_closed S closed m b (closed a m s e) l

    -- a set that holds b, lacks a and is closed under the edges rules out a way from b to a
    pub closed_no_way : (S : A → Type 0) → ((x y : A) → S x → E x y → S y) → (a b : A) → S b → (S a → ⊥) → Way E b a → ⊥
    closed_no_way S closed a b s out (inl e) = out (subst S e s)
    closed_no_way S closed a b s out (inr l) = out (leads_closed S closed b a s l)

    -- a way with one edge more from a to b: it does without, or leads to a and on from b
    with_edge : (a b x y : A) → Leads (With E a b) x y → Leads E x y ⊎ (Way E x a × Way E b y)
    with_edge a b x y (last (inl e)) = inl (last e)
    with_edge a b x y (last (inr e)) = inr (inl e.0, inl (sym e.1))
    with_edge a b x y (more {b = m} (inl e) l) = ⊎_map (more e) (λ k. (inr (leads_way x m a e k.0), k.1)) (with_edge a b m y l)
    with_edge a b x y (more {b = m} (inr e) l) = inr (inl e.0, elim (with_edge a b m y l) [ inl k ↦ inr (rw (sym e.1) k) | inr k ↦ k.1 ])

    -- an edge from a to b closes no circle if no way leads from b to a
    pub acyclic_with : (a b : A) → Acyclic E → (Way E b a → ⊥) → Acyclic (With E a b)
    acyclic_with a b none back x l = elim (with_edge a b x x l) [ inl k ↦ none x k | inr k ↦ back (way_join b x a k.1 k.0) ]

    -- a way to b, up to its first visit of b
    pub first_visit : (b : A) → ((x : A) → (x ≡ b) ⊎ (x ≡ b → ⊥)) → (a : A) → (a ≡ b → ⊥) → Leads E a b → Leads (Avoiding E b) a b
    first_visit b dec a ne (last e) = last (e, ne)
    first_visit b dec a ne (more {b = m} e l) = elim (dec m) [ inl q ↦ last (rw (sym q) e, ne) | inr d ↦ more (e, ne) (first_visit b dec m d l) ]

  -- ---- edges with stamps

  module _ (E : ℕ → A → A → Type 0) where
    older_weaker : (m n : ℕ) → m ≤ n → (x y : A) → Older E m x y → Older E n x y
    older_weaker m n le x y e = let lt : e.0 < m = e.1 in (e.0, omega arith, e.2)

    -- a stamp up to n is below n, or n
    recent : (n : ℕ) (x y : A) → Older E (suc n) x y → Older E n x y ⊎ E n x y
    recent n x y e =
        let lt : e.0 < suc n = e.1 in
        elim (cases_eq e.0 n) [ inl q ↦ inr (subst (λ t. E t x y) q e.2) | inr ne ↦ inl (e.0, omega arith, e.2) ]

    none_older : (a b : A) → Leads (Older E zero) a b → ⊥
    none_older a b (last e) = let lt : e.0 < 0 = e.1 in omega arith
    none_older a b (more e l) = let lt : e.0 < 0 = e.1 in omega arith

    -- a way has a bound on its stamps
    pub leads_bounded : (a b : A) → Leads (Stamped E) a b → (n : ℕ) × Leads (Older E n) a b
    leads_bounded a b (last e) = (suc e.0, last (e.0, omega arith, e.1))
    leads_bounded a c (more {b = b} e l) =
        let r = leads_bounded b c l in
        let n = suc e.0 + r.0 in
        (n, more (e.0, omega arith, e.1) (leads_map (Older E r.0) (Older E n) (older_weaker r.0 n (omega arith)) b c r.1))

    -- an edge with the stamp n
    abbrev EdgeOf : ℕ → Type 0
    EdgeOf n = (x : A) × (y : A) × E n x y

    -- a way over edges with stamps up to n does without those of stamp n, or there is one
    newest : (n : ℕ) (a b : A) → Leads (Older E (suc n)) a b → Leads (Older E n) a b ⊎ EdgeOf n
    newest n a b (last e) = ⊎_map last (λ f. (a, b, f)) (recent n a b e)
    newest n a c (more {b = b} e l) = elim (recent n a b e) [ inl o ↦ ⊎_map (more o) (λ f. f) (newest n b c l) | inr f ↦ inr (a, b, f) ]

    -- a stamp is that of one edge; no edge has a way back over older ones
    module _ (one : (s : ℕ) (x y u v : A) → E s x y → E s u v → (x ≡ u) × (y ≡ v))
        (back : (s : ℕ) (x y : A) → E s x y → Way (Older E s) y x → ⊥) where
      -- the edges with stamps up to n are older ones and the one of stamp n
      with_newest : (n : ℕ) (u v : A) → E n u v → (a b : A) → Older E (suc n) a b → With (Older E n) u v a b
      with_newest n u v e a b f = ⊎_map (λ o. o) (λ g. one n a b u v g e) (recent n a b f)

      acyclic_older : (n : ℕ) → Acyclic (Older E n)
      acyclic_older zero x l = none_older x x l
      acyclic_older (suc n) x l = elim (newest n x x l) [
        | inl k ↦ acyclic_older n x k
        | inr (u, v, e) ↦
            acyclic_with (Older E n) u v (acyclic_older n) (back n u v e) x (leads_map (Older E (suc n)) (With (Older E n) u v) (with_newest n u v e) x x l)
      ]

      -- so the edges close no circle
      pub acyclic_stamped : Acyclic (Stamped E)
      acyclic_stamped x l = let r = leads_bounded x x l in acyclic_older r.0 x r.1
