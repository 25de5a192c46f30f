-- From a ledger to what each call does: the stage of a controller says what its operation has done so far.
use Rattle.std.proofs.Common.{◌≡◌, ℕ, zero, suc, ◌≤◌, ◌⊎◌, Some, sym, refl, ap, ◌∙◌, subst, inl, inr, arith}
use Rattle.std.proofs.Math.Nat.{le-suc_iff}
use Rattle.std.proofs.lemmas.Option.{same_Some}
use Rattle.std.proofs.lemmas.Bool.{eq-eqb, ne_eqb, cases_eq}
use Rattle.nodes.specs.declared.controller.JobRef.{JobRef}
use Rattle.nodes.specs.declared.controller.Answer.{Answer}
use Rattle.nodes.specs.declared.controller.Answer.TheVariants.{Circle}
use Rattle.law.specs.History.{Same, Request, Run, Op, Event, latest, Began, Steps, Ends, HandsOver, Over, Changed, Seen, Behind, Linearizes}
use Rattle.theory.proofs.Ways.{leads_map}
use Rattle.law.specs.History.{Event.started, Event.stepped, Event.finished, Event.collected, Event.other}
use Rattle.law.specs.Core.{Due, Changes, Call}
use Rattle.law.specs.Ledger.{Stage, since, Unchanged, Went, Others, Move, Ledger}
use Rattle.law.specs.Ledger.{Stage.rest, Stage.seek, Stage.bound, Stage.owed, Stage.done}
use Rattle.law.specs.Ledger.{Went.seeks, Went.settles, Went.binds, Went.sets, Went.goes_on, Went.ends_yes, Went.owes}
use Rattle.law.proofs.Events.{latest_began, began_by, steps_one, end_step, changed_more, changed_less, not_yet}
use Rattle.law.proofs.Assembly.{assembled}

module _ {K : Type 0} (r : Run K) where
  -- ---- what lasts over a call

  still_not : (n : ℕ) (o : Op K) → (Changed r n o → ⊥) → (Steps r o (suc n) → Unchanged r n) → Changed r (suc n) o → ⊥
  still_not n o nay f w = elim (changed_less r n o w) [ inl x ↦ nay x | inr x ↦ x.1 (f x.0) ]

  due_more : (n : ℕ) (o : Op K) (a : Answer) → (Steps r o (suc n) → Unchanged r n) → Due r n o a → Due r (suc n) o a
  due_more n o a f (inl d) = inl (changed_more r n o d.0, d.1)
  due_more n o a f (inr d) =
      let p = d.1.1 in
      let le : d.1.0 ≤ n = p.to in
      inr (still_not n o d.0 f, (d.1.0, record { from = p.from; to = omega arith; right = p.right; still = p.still }))

  behind_more : (q : Request K) (c s n : ℕ) → Behind r q c s n → Behind r q c s (suc n)
  behind_more q c s n l =
      let le : l.call ≤ n = l.to in
      record { u = l.u; v = l.v; call = l.call; from = l.from; to = omega arith; found = l.found; key_u = l.key_u; key_v = l.key_v; row = leads_map (Seen r s n) (Seen r s (suc n)) seen l.v l.u l.row }
    where
      seen : (a b : JobRef) → Seen r s n a b → Seen r s (suc n) a b
      seen a b w = let le : w.0 ≤ n = w.2 in (w.0, w.1, omega arith, w.3)

  not_over : (n : ℕ) (o : Op K) → (Over r n o → ⊥) → (Ends r o (suc n) → ⊥) → Over r (suc n) o → ⊥
  not_over n o nay f w = elim (le-suc_iff.0 w.1) [ inl le ↦ nay (w.0, le, w.2) | inr e ↦ f (rw e at w.2) ]

  -- ---- what each stage says of its operation

  abbrev Status : ℕ → Op K → Stage K → Type 0
  Status n o rest = ⊥
  Status n o (seek t) = (o.request ≡ t) × (Changed r n o → ⊥)
  Status n o (bound t) = (o.request ≡ t) × Changed r n o
  Status n o (owed t a) = (o.request ≡ t) × Due r n o a × (a ≡ Circle → (t.u ≡ t.v → ⊥) → Behind r t o.by o.start n)
  Status n o (done t a) = ⊥

  status_more : (n : ℕ) (o : Op K) (s : Stage K) → (Steps r o (suc n) → ⊥) → Status n o s → Status (suc n) o s
  status_more n o rest f w = w
  status_more n o (seek t) f w = (w.0, still_not n o w.1 (λ x. absurd (f x)))
  status_more n o (bound t) f w = (w.0, changed_more r n o w.1)
  status_more n o (owed t a) f w = (w.0, due_more n o a (λ x. absurd (f x)) w.1, λ p q. behind_more t o.by o.start n (w.2 p q))
  status_more n o (done t a) f w = w

  since_is : (n c : ℕ) (o : Op K) → latest r c n ≡ Some o → since r n c ≡ o.start
  since_is n c o e = rw (e, since) refl

  went : (n c : ℕ) (o : Op K) → latest r c n ≡ Some o → Steps r o (suc n) → (s s' : Stage K) → Went r n c s s' → Status n o s → Status (suc n) o s'
  went n c o e step s s' (seeks u) w = (w.0, still_not n o w.1 (λ _. u))
  went n c o e step s s' (settles {t = t} {a = a} u p) w =
      let same : since r n c ≡ o.start = since_is n c o e in
      let from : since r n c ≤ p.point = p.from in (
        w.0,
        inr (still_not n o w.1 (λ _. u), (p.point, record { from = omega arith; to = p.to; right = rw w.0 p.right; still = rw w.0 p.still })),
        λ q ne. subst (λ (d : ℕ). Behind r t d o.start (suc n)) (sym (latest_began r c n o e).0) (rw same at (p.circle q ne)),
      )
  went n c o e step s s' (binds p) w = (w.0, (n, omega arith, step, p.differs))
  went n c o e step s s' (sets p) w = (w.0, inl ((n, omega arith, step, p.differs), refl), λ q. cc)
  went n c o e step s s' (goes_on u) w = (w.0, changed_more r n o w.1)
  went n c o e step s s' (ends_yes u) w = (w.0, inl (changed_more r n o w.1, refl), λ q. cc)
  went n c o e step s s' (owes {t = t} {a = a} u) w = (w.0, due_more n o a (λ _. u) w.1, λ p q. behind_more t o.by o.start n (w.2 p q))

  turned : (n c : ℕ) (o : Op K) → Steps r o (suc n) → (s s' : Stage K) → Went r n c s s' → Status n o s → Same (r.graph n) (r.graph (suc n)) ⊎ ((o : Op K) × Changes r n o)
  turned n c o step s s' (seeks u) w = inl u
  turned n c o step s s' (settles u p) w = inl u
  turned n c o step s s' (binds p) w = inr (o, record { step = step; first = w.1; right = rw w.0 p.right; makes = rw w.0 p.makes; differs = p.differs })
  turned n c o step s s' (sets p) w = inr (o, record { step = step; first = w.1; right = rw w.0 p.right; makes = rw w.0 p.makes; differs = p.differs })
  turned n c o step s s' (goes_on u) w = inl u
  turned n c o step s s' (ends_yes u) w = inl u
  turned n c o step s s' (owes u) w = inl u

  -- ---- all controllers, call by call

  abbrev Alive : ℕ → ℕ → Stage K → Type 0
  Alive n c s = (o : Op K) × (latest r c n ≡ Some o) × (Over r n o → ⊥) × Status n o s

  abbrev In : ℕ → ℕ → Stage K → Type 0
  In n c rest = Unit {0}
  In n c (seek t) = Alive n c (seek t)
  In n c (bound t) = Alive n c (bound t)
  In n c (owed t a) = Alive n c (owed t a)
  In n c (done t a) = (o : Op K) × (latest r c n ≡ Some o) × ((j : ℕ) × (j ≤ n) × Ends r o j × (r.handing j c ≡ Some a))

  source : (n c : ℕ) (s s' : Stage K) → Went r n c s s' → In n c s → Alive n c s
  source n c s s' (seeks u) w = w
  source n c s s' (settles u p) w = w
  source n c s s' (binds p) w = w
  source n c s s' (sets p) w = w
  source n c s s' (goes_on u) w = w
  source n c s s' (ends_yes u) w = w
  source n c s s' (owes u) w = w

  from_alive : (n c : ℕ) (s : Stage K) → Alive n c s → In n c s
  from_alive n c rest w = tt
  from_alive n c (seek t) w = w
  from_alive n c (bound t) w = w
  from_alive n c (owed t a) w = w
  from_alive n c (done t a) w = absurd w.3

  -- a controller at which call suc n does nothing
  lasts : (n d : ℕ) → latest r d (suc n) ≡ latest r d n → ((o : Op K) → o.by ≡ d → Steps r o (suc n) → ⊥) → (s : Stage K) → In n d s → In (suc n) d s
  lasts n d e f s w = go s w
    where
      alive : (s : Stage K) → Alive n d s → Alive (suc n) d s
      alive s w =
          let b : w.0.by ≡ d = (latest_began r d n w.0 w.1).0 in
          (w.0, e ∙ w.1, not_over n w.0 w.2 (λ x. f w.0 b (end_step r (suc n) w.0 x)), status_more n w.0 s (f w.0 b) w.3)

      go : (s : Stage K) → In n d s → In (suc n) d s
      go rest w = tt
      go (seek t) w = alive (seek t) w
      go (bound t) w = alive (bound t) w
      go (owed t a) w = alive (owed t a) w
      go (done t a) w = let q = w.2 in let le : q.0 ≤ n = q.1 in (w.0, e ∙ w.1, (q.0, omega arith, q.2, q.3))

  -- a call that is no step
  no_step : (n : ℕ) → Unchanged r n → ((o : Op K) → Steps r o (suc n) → ⊥) →
      ((o : Op K) (a : Answer) → HandsOver r o a (suc n) → (j : ℕ) × (j ≤ n) × Ends r o j × (r.handing j o.by ≡ Some a)) → Call r n
  no_step n u f hands = record {
    alive = λ o s _. f o s;
    turn = inl u;
    ends = λ o e. absurd (f o (end_step r (suc n) o e));
    hands = hands;
    behind = λ o e. absurd (f o (end_step r (suc n) o e));
  }

  module _ (stage : ℕ → ℕ → Stage K) (l : Ledger r stage) where
    abbrev All : ℕ → Type 0
    All n = (c : ℕ) → In n c (stage n c)

    -- c's stage is s now, the others' stages last
    all_but : (n c : ℕ) (s : Stage K) → All n → Others r stage n c → ((d : ℕ) → (d ≡ c → ⊥) → latest r d (suc n) ≡ latest r d n) →
        ((o : Op K) → Steps r o (suc n) → o.by ≡ c) → stage (suc n) c ≡ s → In (suc n) c s → All (suc n)
    all_but n c s all others same by e w d = elim (cases_eq d c) [
      | inl q ↦ rw (q, e) w
      | inr ne ↦ rw (others d ne) (lasts n d (same d ne) (λ o b t. ne (sym b ∙ by o t)) (stage n d) (all d))
    ]

    latest_new : (n c : ℕ) (t : Request K) → r.event (suc n) ≡ started c t → latest r c (suc n) ≡ Some (record { start = suc n; by = c; request = t })
    latest_new n c t q = rw (q, eq-eqb c c refl) refl

    latest_old : (n c d : ℕ) (t : Request K) → r.event (suc n) ≡ started c t → (d ≡ c → ⊥) → latest r d (suc n) ≡ latest r d n
    latest_old n c d t q ne = rw (q, ne_eqb d c ne) refl

    -- one controller takes a step: o is its operation
    module _ (n c : ℕ) (o : Op K) (e : latest r c n ≡ Some o) (alive : Over r n o → ⊥) (step : Steps r o (suc n))
        (s s' : Stage K) (w : Went r n c s s') (was : Status n o s) where
      step_call : ((p : Op K) → Ends r p (suc n) → (t : Request K) × (a : Answer) × (s' ≡ owed t a) × (r.handing (suc n) p.by ≡ Some a)) →
          ((p : Op K) (a : Answer) → HandsOver r p a (suc n) → ⊥) → Call r n
      step_call ends hands = record {
        alive = λ p t. subst (λ (x : Op K). Over r n x → ⊥) (steps_one r (suc n) o p step t) alive;
        turn = turned n c o step s s' w was;
        ends = λ p t. let x = ends p t in (x.1, x.3, subst (λ (y : Op K). Due r (suc n) y x.1) (entries_of p t) (now x.0 x.1 x.2).1);
        hands = λ p a t. absurd (hands p a t);
        behind = λ p t g. circle p t g;
      }
        where
          entries_of : (p : Op K) → Ends r p (suc n) → o ≡ p
          entries_of p t = steps_one r (suc n) o p step (end_step r (suc n) p t)

          now : (t : Request K) (a : Answer) → s' ≡ owed t a → Status (suc n) o (owed t a)
          now t a q = rw q at (went n c o e step s s' w was)

          circle : (p : Op K) → Ends r p (suc n) → r.handing (suc n) p.by ≡ Some Circle → (p.request.u ≡ p.request.v → ⊥) → Behind r p.request p.by p.start (suc n)
          circle p t g ne =
              let x = ends p t in
              let k = x.3 in
              let a : x.1 ≡ Circle = cc in
              let y = now x.0 x.1 x.2 in
              let same : o ≡ p = entries_of p t in
              let request : x.0 ≡ p.request = sym y.0 ∙ ap (λ (z : Op K). z.request) same in
              subst (λ (z : Op K). Behind r p.request z.by z.start (suc n)) same (subst (λ (z : Request K). Behind r z o.by o.start (suc n)) request (y.2 a (subst (λ (z : Request K). z.u ≡ z.v → ⊥) (sym request) ne)))

    -- the operation of a controller that takes a step
    stepping : (n c : ℕ) (o : Op K) → latest r c n ≡ Some o → latest r c (suc n) ≡ latest r c n →
        (r.event (suc n) ≡ stepped c) ⊎ (r.event (suc n) ≡ finished c) → Steps r o (suc n)
    stepping n c o e k q =
        let b : o.by ≡ c = (latest_began r c n o e).0 in
        record { runs = ap (λ (d : ℕ). latest r d (suc n)) b ∙ (k ∙ e); is = rw b q }

    next : (n : ℕ) → All n → (e : Event K) → r.event (suc n) ≡ e → Move r stage n e → All (suc n) × Call r n
    next n all (started c t) q m = (
      all_but n c (seek t) all m.1 (λ d ne. latest_old n c d t q ne) (λ p x. absurd (none p x)) m.2
          (o, new, not_over n o (λ w. early w) (λ x. none o (end_step r (suc n) o x)), (refl, not_yet r n o began refl)),
      no_step n m.0 none (λ p a x. cc),
    )
      where
        none : (p : Op K) → Steps r p (suc n) → ⊥
        none p x = elim x.is [ inl y ↦ cc | inr y ↦ cc ]

        o : Op K
        o = record { start = suc n; by = c; request = t }

        new : latest r c (suc n) ≡ Some o
        new = latest_new n c t q

        began : Began r (suc n) o
        began = (latest_began r c (suc n) o new).1

        early : Over r n o → ⊥
        early w = let a : suc n ≤ w.0 = (began_by r w.0 o (end_step r w.0 o w.2)).by_then in let b : w.0 ≤ n = w.1 in omega arith
    next n all (stepped c) q m = (
      all_but n c (stage (suc n) c) all m.0 (λ d ne. kept d) by_whom refl
          (from_alive (suc n) c (stage (suc n) c)
          (o, kept c ∙ a.1, not_over n o a.2 (λ x. cc), went n c o a.1 step (stage n c) (stage (suc n) c) m.1 a.3)),
      step_call n c o a.1 a.2 step (stage n c) (stage (suc n) c) m.1 a.3 (λ p x. cc) (λ p b x. cc),
    )
      where
        kept : (d : ℕ) → latest r d (suc n) ≡ latest r d n
        kept d = rw q refl

        a : Alive n c (stage n c)
        a = source n c (stage n c) (stage (suc n) c) m.1 (all c)

        o : Op K
        o = a.0

        step : Steps r o (suc n)
        step = stepping n c o a.1 (kept c) (inl q)

        by_whom : (p : Op K) → Steps r p (suc n) → p.by ≡ c
        by_whom p x = ap (λ (y : Op K). y.by) (steps_one r (suc n) p o x step) ∙ (latest_began r c n o a.1).0
    next n all (finished c) q m = (
      all_but n c (done t ans) all m.0 (λ d ne. kept d) by_whom m.1.3
          (o, kept c ∙ a.1, (suc n, omega arith, record { runs = step.runs; is = rw by q }, handing)),
      step_call n c o a.1 a.2 step (stage n c) (owed t ans) m.1.2 a.3 ends (λ p b x. cc),
    )
      where
        t : Request K
        t = m.1.0

        ans : Answer
        ans = m.1.1

        kept : (d : ℕ) → latest r d (suc n) ≡ latest r d n
        kept d = rw q refl

        a : Alive n c (stage n c)
        a = source n c (stage n c) (owed t ans) m.1.2 (all c)

        o : Op K
        o = a.0

        by : o.by ≡ c
        by = (latest_began r c n o a.1).0

        step : Steps r o (suc n)
        step = stepping n c o a.1 (kept c) (inr q)

        handing : r.handing (suc n) c ≡ Some ans
        handing = l.hands (suc n) c t ans m.1.3

        ends : (p : Op K) → Ends r p (suc n) → (t' : Request K) × (a' : Answer) × (owed t ans ≡ owed t' a') × (r.handing (suc n) p.by ≡ Some a')
        ends p x = let b : p.by ≡ c = cc in (t, ans, refl, rw b handing)

        by_whom : (p : Op K) → Steps r p (suc n) → p.by ≡ c
        by_whom p x = ap (λ (y : Op K). y.by) (steps_one r (suc n) p o x step) ∙ by
    next n all (collected c a) q m = (
      all_but n c rest all m.1 (λ d ne. kept d) (λ p x. absurd (none p x)) m.3 tt,
      no_step n m.0 none hands,
    )
      where
        none : (p : Op K) → Steps r p (suc n) → ⊥
        none p x = elim x.is [ inl y ↦ cc | inr y ↦ cc ]

        kept : (d : ℕ) → latest r d (suc n) ≡ latest r d n
        kept d = rw q refl

        w : In n c (done m.2.0 a)
        w = rw m.2.1 at (all c)

        hands : (p : Op K) (a' : Answer) → HandsOver r p a' (suc n) → (j : ℕ) × (j ≤ n) × Ends r p j × (r.handing j p.by ≡ Some a')
        hands p a' x =
            let b : p.by ≡ c = cc in
            let e : a ≡ a' = cc in
            let g : w.0 ≡ p = same_Some w.0 p (sym (kept c ∙ w.1) ∙ (ap (λ (d : ℕ). latest r d (suc n)) (sym b) ∙ x.runs)) in
            let k = w.2 in
            (k.0, k.1, subst (λ (z : Op K). Ends r z k.0) g k.2, rw (b, ← e) k.3)
    next n all other q m = (
      λ d. rw (m.1 d) (lasts n d (rw q refl) (λ o _ x. none o x) (stage n d) (all d)),
      no_step n m.0 none (λ p a x. cc),
    )
      where
        none : (p : Op K) → Steps r p (suc n) → ⊥
        none p x = elim x.is [ inl y ↦ cc | inr y ↦ cc ]

    all_calls : (n : ℕ) → All n
    all_calls zero c = rw (l.resting c) tt
    all_calls (suc n) c = (next n (all_calls n) (r.event (suc n)) refl (l.moves n)).0 c

    pub calls : (n : ℕ) → Call r n
    calls n = (next n (all_calls n) (r.event (suc n)) refl (l.moves n)).1

    pub linearized : (n : ℕ) → Linearizes r n
    linearized n = assembled K r l.bare calls n
