-- Operations and their steps, read off the events of a run: which operation a step belongs to, and what one call more brings.
use Rattle.std.proofs.Common.{◌≡◌, ℕ, zero, suc, ◌<◌, ◌≤◌, Bool, true, false, cond, eqb, ◌⊎◌, Some, None, Option, sym, refl, ap, ◌∙◌, inl, inr, arith}
use Rattle.std.proofs.Math.Nat.{le-suc_iff}
use Rattle.std.proofs.lemmas.Bool.{eqb-true, cases_lt}
use Rattle.law.specs.History.{Same, Run, Op, Request, Event, latest, Began, Steps, Ends, Over, Running, Changed}
use Rattle.law.specs.History.{Event.started, Event.stepped, Event.finished, Event.collected, Event.other}

module _ {K : Type 0} (r : Run K) where
  pub latest_began : (c i : ℕ) (o : Op K) → latest r c i ≡ Some o → (o.by ≡ c) × Began r i o
  latest_began c zero o q = cc
  latest_began c (suc i) o q = go (r.event (suc i)) refl (latest_began c i o)
    where
      old : (o.by ≡ c) × Began r i o → (o.by ≡ c) × Began r (suc i) o
      old w = let le : o.start ≤ i = w.1.by_then in (w.0, record { first = w.1.first; by_then = omega arith; is = w.1.is })

      new : (d : ℕ) (t : Request K) → r.event (suc i) ≡ started d t → (b : Bool) → eqb c d ≡ b →
          (latest r c i ≡ Some o → (o.by ≡ c) × Began r i o) →
          cond b (Some (record { start = suc i; by = c; request = t })) (latest r c i) ≡ Some o → (o.by ≡ c) × Began r (suc i) o
      new d t e true b ih p =
          let f : c ≡ d = eqb-true c d b in
          let s : ◌≡◌ {A = Op K} (record { start = suc i; by = c; request = t }) o = cc in
          rw (sym s) (refl, record { first = omega arith; by_then = omega arith; is = cc })
      new d t e false b ih p = old (ih p)

      go : (e : Event K) → r.event (suc i) ≡ e → (latest r c i ≡ Some o → (o.by ≡ c) × Began r i o) → (o.by ≡ c) × Began r (suc i) o
      go (started d t) e ih = new d t e (eqb c d) refl ih (rw e at q)
      go (stepped d) e ih = old (ih (rw e at q))
      go (finished d) e ih = old (ih (rw e at q))
      go (collected d a) e ih = old (ih (rw e at q))
      go other e ih = old (ih (rw e at q))

  pub began_by : (i : ℕ) (o : Op K) → Steps r o i → Began r i o
  began_by i o s = (latest_began o.by i o s.runs).1

  -- an operation is known by the call that started it
  pub op_path : (o p : Op K) → o.start ≡ p.start → o.by ≡ p.by → o.request ≡ p.request → o ≡ p
  op_path o p a b c = λ i. record { start = a i; by = b i; request = c i }

  pub same_op : (m n : ℕ) (o p : Op K) → Began r m o → Began r n p → o.start ≡ p.start → o ≡ p
  same_op m n o p b c e =
      let f : started o.by o.request ≡ started p.by p.request = sym b.is ∙ (ap r.event e ∙ c.is) in
      op_path o p e (cc) (cc)

  pub steps_one : (i : ℕ) (o p : Op K) → Steps r o i → Steps r p i → o ≡ p
  steps_one i o p s t = go s.is t.is
    where
      go : (r.event i ≡ stepped o.by) ⊎ (r.event i ≡ finished o.by) → (r.event i ≡ stepped p.by) ⊎ (r.event i ≡ finished p.by) → o ≡ p
      go (inl x) (inl y) = let e : o.by ≡ p.by = cc in cc
      go (inl x) (inr y) = cc
      go (inr x) (inl y) = cc
      go (inr x) (inr y) = let e : o.by ≡ p.by = cc in cc

  pub end_step : (i : ℕ) (o : Op K) → Ends r o i → Steps r o i
  end_step i o e = record { runs = e.runs; is = inr e.is }

  -- whether call i finishes an operation
  pub ending : (i : ℕ) → ((o : Op K) × Ends r o i) ⊎ ((o : Op K) → Ends r o i → ⊥)
  ending i = go (r.event i) refl
    where
      last : (c : ℕ) → r.event i ≡ finished c → (l : Option (Op K)) → latest r c i ≡ l → ((o : Op K) × Ends r o i) ⊎ ((o : Op K) → Ends r o i → ⊥)
      last c q None e = inr (λ o w. let f : o.by ≡ c = cc in cc)
      last c q (Some o) e = let f : o.by ≡ c = (latest_began c i o e).0 in inl (o, record { runs = ap (λ (d : ℕ). latest r d i) f ∙ e; is = rw f q })

      go : (e : Event K) → r.event i ≡ e → ((o : Op K) × Ends r o i) ⊎ ((o : Op K) → Ends r o i → ⊥)
      go (started d t) q = inr (λ o w. cc)
      go (stepped d) q = inr (λ o w. cc)
      go (finished d) q = last d q (latest r d i) refl
      go (collected d a) q = inr (λ o w. cc)
      go other q = inr (λ o w. cc)

  -- ---- one call more

  pub over_more : (n : ℕ) (o : Op K) → Over r n o → Over r (suc n) o
  over_more n o w = let le : w.0 ≤ n = w.1 in (w.0, omega arith, w.2)

  pub changed_more : (n : ℕ) (o : Op K) → Changed r n o → Changed r (suc n) o
  changed_more n o w = let le : w.0 < n = w.1 in (w.0, omega arith, w.2, w.3)

  pub changed_less : (n : ℕ) (o : Op K) → Changed r (suc n) o → Changed r n o ⊎ (Steps r o (suc n) × (Same (r.graph n) (r.graph (suc n)) → ⊥))
  changed_less n o w = elim (cases_lt w.0 n) [
    | inl lt ↦ inl (w.0, lt, w.2, w.3)
    | inr ge ↦ let e : w.0 ≡ n = (let lt : w.0 < suc n = w.1 in omega arith) in inr (rw e at w.2, rw e at w.3)
  ]

  -- an operation that call suc n starts has done nothing
  pub not_now : (n : ℕ) (o : Op K) → Began r (suc n) o → o.start ≡ suc n → Steps r o (suc n) → ⊥
  not_now n o b e s = elim s.is [ inl q ↦ cc | inr q ↦ cc ]

  pub not_yet : (n : ℕ) (o : Op K) → Began r (suc n) o → o.start ≡ suc n → Changed r (suc n) o → ⊥
  not_yet n o b e w = elim (changed_less n o w) [
    | inl c ↦ let le : o.start ≤ suc c.0 = (began_by (suc c.0) o c.2).by_then in let lt : c.0 < n = c.1 in omega arith
    | inr s ↦ not_now n o b e s.0
  ]

  -- what takes a step ran before
  pub ran : (n : ℕ) (o : Op K) → Steps r o (suc n) → (Over r n o → ⊥) → Running r n o
  ran n o t alive =
      let b = began_by (suc n) o t in
      elim (le-suc_iff.0 b.by_then) [ inl le ↦ (record { first = b.first; by_then = le; is = b.is }, alive) | inr e ↦ absurd (not_now n o b e t) ]
