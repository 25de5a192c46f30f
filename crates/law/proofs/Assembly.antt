-- From what each call does to the history, by induction on the calls: a call that changes the graph brings an entry with itself as
-- the point, an operation that finishes without a change one with a point from its start on, any other call none.
use Rattle.std.proofs.Common.{◌≡◌, ℕ, zero, suc, ◌<◌, ◌≤◌, ◌⊎◌, List, [], Some, sym, refl, ap, ◌∙◌, subst, inl, inr, arith}
use Rattle.std.specs.List.{AllByRecursion}
use Rattle.std.proofs.Math.Nat.{le-suc_iff}
use Rattle.std.proofs.lemmas.Bool.{cases_eq, cases_lt}
use Rattle.nodes.specs.declared.controller.Answer.{Answer}
use Rattle.nodes.specs.declared.controller.Answer.TheVariants.{Yes, Circle}
use Rattle.law.specs.History.{Behind, Same, empty, changed, Run, Op, Entry, replayed, entries_of, Began, Steps, Ends, HandsOver, Over, Running, Changed, Consistent, One}
use Rattle.law.specs.Core.{Point, Due, Changes, Call, Assembly}
use Rattle.law.proofs.Graphs.{same_sym, same_trans, changed_same, right_same}
use Rattle.law.proofs.Lists.{insert, entries_of_other, entries_of_own, entries_of_none, each_insert, each_map, replayed_early, replayed_all, consistent_still, replayed_still, consistent_end, replayed_end}
use Rattle.law.proofs.Events.{began_by, same_op, steps_one, end_step, ending, over_more, changed_more, changed_less, not_yet, ran}

module _ {K : Type 0} (r : Run K) where
  -- call j hands over the answer of the one entry of o
  abbrev EndsAsEntered : List (Entry K) → Op K → ℕ → Type 0
  EndsAsEntered h o j = (a : Answer) × (r.handing j o.by ≡ Some a) × One r h o a j

  -- the entries of o, which runs after call n: one with yes if it has changed the graph, else none
  abbrev Entered : ℕ → List (Entry K) → Op K → Type 0
  Entered n h o = (Changed r n o × One r h o Yes n) ⊎ ((Changed r n o → ⊥) × (entries_of o.start h ≡ []))

  -- call n hands over an answer that is due to o
  abbrev EndsAsDue : ℕ → Op K → Type 0
  EndsAsDue n o = (a : Answer) × (r.handing n o.by ≡ Some a) × Due r n o a

  -- what is carried from call to call
  record SoFar (n : ℕ) (h : List (Entry K)) : Type 0 where
    consistent : Consistent r empty 0 h
    ended : (o : Op K) (j : ℕ) → j ≤ n → Ends r o j → EndsAsEntered h o j
    running : (o : Op K) → Running r n o → Entered n h o
    only : AllByRecursion (λ e. Began r n e.op) h
    graphs : (i : ℕ) → i ≤ n → Same (replayed i empty h) (r.graph i)
    points : AllByRecursion (λ e. e.point ≤ n) h

  began_more : (n : ℕ) (o : Op K) → Began r n o → Began r (suc n) o
  began_more n o b = let le : o.start ≤ n = b.by_then in record { first = b.first; by_then = omega arith; is = b.is }

  one_more : (h : List (Entry K)) (o : Op K) (a : Answer) (n : ℕ) → One r h o a n → One r h o a (suc n)
  one_more h o a n w = let le : w.0 ≤ n = w.2 in (w.0, w.1, omega arith, w.3)

  only_more : (n : ℕ) (h : List (Entry K)) → AllByRecursion (λ e. Began r n e.op) h → AllByRecursion (λ e. Began r (suc n) e.op) h
  only_more n h q = each_map (λ e. Began r n e.op) (λ e. Began r (suc n) e.op) (λ e b. began_more n e.op b) h q

  points_more : (n : ℕ) (h : List (Entry K)) → AllByRecursion (λ e. e.point ≤ n) h → AllByRecursion (λ e. e.point ≤ suc n) h
  points_more n h q = each_map (λ e. e.point ≤ n) (λ e. e.point ≤ suc n) (λ e b. omega arith) h q

  -- an operation that runs after call suc n ran before it, or was started by it
  came : (n : ℕ) (o : Op K) → Running r (suc n) o → Running r n o ⊎ (o.start ≡ suc n)
  came n o w = elim (le-suc_iff.0 w.0.by_then) [
    | inl le ↦ inl (record { first = w.0.first; by_then = le; is = w.0.is }, λ x. w.1 (over_more r n o x))
    | inr e ↦ inr e
  ]

  fresh : (n : ℕ) (h : List (Entry K)) → SoFar n h → (o : Op K) → o.start ≡ suc n → entries_of o.start h ≡ []
  fresh n h s o e =
      entries_of_none o.start h (each_map (λ x. Began r n x.op) (λ x. x.op.start < o.start)
      (λ x b. let le : x.op.start ≤ n = b.by_then in omega arith) h s.only)

  -- by call suc n, or at it
  replayed_suc : (P : ℕ → Type 0) (n : ℕ) → ((j : ℕ) → j ≤ n → P j) → P (suc n) → (j : ℕ) → j ≤ suc n → P j
  replayed_suc P n f p j le = elim (le-suc_iff.0 le) [ inl l ↦ f j l | inr e ↦ rw e p ]

  -- ---- no entry for this call: the graph stays, and an operation that finishes has changed it before

  module _ (n : ℕ) (h : List (Entry K)) (s : SoFar n h) (c : Call r n) where
    as_before : Same (r.graph n) (r.graph (suc n)) → (i : ℕ) → i ≤ suc n → Same (replayed i empty h) (r.graph i)
    as_before same = replayed_suc (λ i. Same (replayed i empty h) (r.graph i)) n s.graphs
        (rw (replayed_all (suc n) n (omega arith) empty h s.points) (same_trans (replayed n empty h) (r.graph n) (r.graph (suc n)) (s.graphs n (omega arith)) same))

    quiet : Same (r.graph n) (r.graph (suc n)) → ((o : Op K) → Ends r o (suc n) → Changed r n o) → SoFar (suc n) h
    quiet same ends = record {
      consistent = s.consistent;
      ended = λ o. replayed_suc (λ j. Ends r o j → EndsAsEntered h o j) n (s.ended o) (now o);
      running = λ o w. going o (came n o w) w;
      only = only_more n h s.only;
      graphs = as_before same;
      points = points_more n h s.points;
    }
      where
        less : (o : Op K) → Changed r (suc n) o → Changed r n o
        less o w = elim (changed_less r n o w) [ inl x ↦ x | inr x ↦ absurd (x.1 same) ]

        now : (o : Op K) → Ends r o (suc n) → EndsAsEntered h o (suc n)
        now o e = go (c.ends o e)
          where
            one : One r h o Yes n
            one =
                let step = end_step r (suc n) o e in
                elim (s.running o (ran r n o step (c.alive o step))) [ inl x ↦ x.1 | inr x ↦ absurd (x.0 (ends o e)) ]

            go : EndsAsDue (suc n) o → EndsAsEntered h o (suc n)
            go (a, g, inl d) = (a, g, rw d.1 (one_more h o Yes n one))
            go (a, g, inr d) = absurd (d.0 (changed_more r n o (ends o e)))

        going : (o : Op K) → Running r n o ⊎ (o.start ≡ suc n) → Running r (suc n) o → Entered (suc n) h o
        going o (inl w) _ = elim (s.running o w) [
          | inl x ↦ inl (changed_more r n o x.0, one_more h o Yes n x.1)
          | inr x ↦ inr (λ y. x.0 (less o y), x.1)
        ]
        going o (inr e) w = inr (not_yet r n o w.0 e, fresh n h s o e)

    -- ---- an entry for the operation whose step this call is

    with_entry : (e : Entry K) → Steps r e.op (suc n) → entries_of e.op.start h ≡ [] → e.op.start ≤ e.point → e.point ≤ suc n →
        (Ends r e.op (suc n) → r.handing (suc n) e.op.by ≡ Some e.answer) →
        ((Over r (suc n) e.op → ⊥) → Changed r (suc n) e.op × (e.answer ≡ Yes)) →
        Consistent r empty 0 (insert e h) → ((i : ℕ) → i ≤ suc n → Same (replayed i empty (insert e h)) (r.graph i)) → SoFar (suc n) (insert e h)
    with_entry e step none from to end left consistent graphs = record {
      consistent = consistent;
      ended = λ o. replayed_suc (λ j. Ends r o j → EndsAsEntered (insert e h) o j) n (before o) (now o);
      running = λ o w. going o (cases_eq e.op.start o.start) w;
      only = each_insert (λ x. Began r (suc n) x.op) e h (began_by r (suc n) e.op step) (only_more n h s.only);
      graphs = graphs;
      points = each_insert (λ x. x.point ≤ suc n) e h to (points_more n h s.points);
    }
      where
        rest : (o : Op K) → (e.op.start ≡ o.start → ⊥) → entries_of o.start (insert e h) ≡ entries_of o.start h
        rest o ne = entries_of_other e o.start h ne

        own : (o : Op K) → e.op ≡ o → (a : Answer) → e.answer ≡ a → One r (insert e h) o a (suc n)
        own o p a q =
            let w : One r (insert e h) e.op e.answer (suc n) = (e.point, from, to, entries_of_own e h none) in
            subst (λ (o' : Op K). One r (insert e h) o' a (suc n)) p (subst (λ (a' : Answer). One r (insert e h) e.op a' (suc n)) q w)

        before : (o : Op K) (j : ℕ) → j ≤ n → Ends r o j → EndsAsEntered (insert e h) o j
        before o j le x =
            let w = s.ended o j le x in
            let b : Began r j o = began_by r j o (end_step r j o x) in
            let ne : e.op.start ≡ o.start → ⊥ = λ p.
            let q : e.op ≡ o = same_op r (suc n) j e.op o (began_by r (suc n) e.op step) b p in
            c.alive e.op step (j, le, rw q x) in
            (w.0, w.1, (w.2.0, w.2.1, w.2.2, rest o ne ∙ w.2.3))

        now : (o : Op K) → Ends r o (suc n) → EndsAsEntered (insert e h) o (suc n)
        now o x =
            let p : e.op ≡ o = steps_one r (suc n) e.op o step (end_step r (suc n) o x) in
            (e.answer, subst (λ (o' : Op K). r.handing (suc n) o'.by ≡ Some e.answer) p (end (rw p x)), own o p e.answer refl)

        going : (o : Op K) → (e.op.start ≡ o.start) ⊎ (e.op.start ≡ o.start → ⊥) → Running r (suc n) o → Entered (suc n) (insert e h) o
        going o (inl p) w =
            let q : e.op ≡ o = same_op r (suc n) (suc n) e.op o (began_by r (suc n) e.op step) w.0 p in
            let z = left (rw q w.1) in
            inl (rw q at z.0, own o q Yes z.1)
        going o (inr ne) w = other (came n o w)
          where
            less : Changed r (suc n) o → Changed r n o
            less y = elim (changed_less r n o y) [ inl x ↦ x | inr x ↦ absurd (ne (ap (λ (o' : Op K). o'.start) (steps_one r (suc n) e.op o step x.0))) ]

            other : Running r n o ⊎ (o.start ≡ suc n) → Entered (suc n) (insert e h) o
            other (inl y) = elim (s.running o y) [
              | inl x ↦ let m = one_more h o Yes n x.1 in inl (changed_more r n o x.0, (m.0, m.1, m.2, rest o ne ∙ m.3))
              | inr x ↦ inr (λ z. x.0 (less z), rest o ne ∙ x.1)
            ]
            other (inr y) = inr (not_yet r n o w.0 y, rest o ne ∙ fresh n h s o y)

    -- ---- the three ways on

    alters : (o : Op K) → Changes r n o → (h' : List (Entry K)) × SoFar (suc n) h'
    alters o w = (insert e h, with_entry e w.step none start (omega arith) end (λ _. (now, refl)) consistent graphs)
      where
        e : Entry K
        e = record { op = o; answer = Yes; point = suc n }

        now : Changed r (suc n) o
        now = (n, omega arith, w.step, w.differs)

        start : o.start ≤ suc n
        start = (began_by r (suc n) o w.step).by_then

        none : entries_of o.start h ≡ []
        none = elim (s.running o (ran r n o w.step (c.alive o w.step))) [ inl x ↦ absurd (w.first x.0) | inr x ↦ x.1 ]

        end : Ends r o (suc n) → r.handing (suc n) o.by ≡ Some Yes
        end x = go (c.ends o x)
          where
            go : EndsAsDue (suc n) o → r.handing (suc n) o.by ≡ Some Yes
            go (a, g, inl d) = rw d.1 at g
            go (a, g, inr d) = absurd (d.0 now)

        at_n : Same (replayed n empty h) (r.graph n)
        at_n = s.graphs n (omega arith)

        consistent : Consistent r empty 0 (insert e h)
        consistent = consistent_end r e n (omega arith) h empty 0 (omega arith) s.points s.consistent
            (right_same (r.graph n) (replayed n empty h) (same_sym (replayed n empty h) (r.graph n) at_n) (r.free (suc n)) o.request Yes w.right) w.step

        graphs : (i : ℕ) → i ≤ suc n → Same (replayed i empty (insert e h)) (r.graph i)
        graphs = replayed_suc (λ i. Same (replayed i empty (insert e h)) (r.graph i)) n
            (λ i le. rw (replayed_early i e (omega arith) empty h) (s.graphs i le))
            (rw (replayed_end r e n (omega arith) h empty s.points)
            (same_trans (changed (replayed n empty h) o.request) (changed (r.graph n) o.request) (r.graph (suc n))
            (changed_same (replayed n empty h) (r.graph n) at_n o.request) w.makes))

    finds : Same (r.graph n) (r.graph (suc n)) → (o : Op K) → Ends r o (suc n) → (a : Answer) → r.handing (suc n) o.by ≡ Some a →
        (Changed r (suc n) o → ⊥) → (m : ℕ) → Point r o a (suc n) m → (h' : List (Entry K)) × SoFar (suc n) h'
    finds same o x a g still m p = (insert e h, with_entry e step none p.from p.to (λ _. g) (λ y. absurd (y (suc n, omega arith, x))) consistent graphs)
      where
        e : Entry K
        e = record { op = o; answer = a; point = m }

        step : Steps r o (suc n)
        step = end_step r (suc n) o x

        none : entries_of o.start h ≡ []
        none = elim (s.running o (ran r n o step (c.alive o step))) [ inl y ↦ absurd (still (changed_more r n o y.0)) | inr y ↦ y.1 ]

        at_m : Same (replayed m empty h) (r.graph m)
        at_m = as_before same m p.to

        consistent : Consistent r empty 0 (insert e h)
        consistent = consistent_still r e (r.graph m) p.right p.still h empty 0 (omega arith) at_m s.consistent

        graphs : (i : ℕ) → i ≤ suc n → Same (replayed i empty (insert e h)) (r.graph i)
        graphs i le = elim (cases_lt i m) [
          | inl lt ↦ rw (replayed_early i e lt empty h) (as_before same i le)
          | inr ge ↦ same_trans (replayed i empty (insert e h)) (replayed i empty h) (r.graph i)
              (replayed_still r e (r.graph m) p.right p.still i ge h empty 0 at_m s.consistent) (as_before same i le)
        ]

    extend : (h' : List (Entry K)) × SoFar (suc n) h'
    extend = go c.turn
      where
        due : Same (r.graph n) (r.graph (suc n)) → (o : Op K) → Ends r o (suc n) → EndsAsDue (suc n) o → (h' : List (Entry K)) × SoFar (suc n) h'
        due same o x (a, g, inl d) = (h, quiet same (λ p y. before p (steps_one r (suc n) o p (end_step r (suc n) o x) (end_step r (suc n) p y)) (changed_less r n o d.0)))
          where
            before : (p : Op K) → o ≡ p → Changed r n o ⊎ (Steps r o (suc n) × (Same (r.graph n) (r.graph (suc n)) → ⊥)) → Changed r n p
            before p e (inl w) = rw e at w
            before p e (inr w) = absurd (w.1 same)
        due same o x (a, g, inr d) = finds same o x a g d.0 d.1.0 d.1.1

        end : Same (r.graph n) (r.graph (suc n)) → ((o : Op K) × Ends r o (suc n)) ⊎ ((o : Op K) → Ends r o (suc n) → ⊥) → (h' : List (Entry K)) × SoFar (suc n) h'
        end same (inl w) = due same w.0 w.1 (c.ends w.0 w.1)
        end same (inr w) = (h, quiet same (λ o x. absurd (w o x)))

        go : Same (r.graph n) (r.graph (suc n)) ⊎ ((o : Op K) × Changes r n o) → (h' : List (Entry K)) × SoFar (suc n) h'
        go (inl same) = end same (ending r (suc n))
        go (inr w) = alters w.0 w.1

  -- ---- all calls

  so_far : Same (r.graph 0) empty → ((n : ℕ) → Call r n) → (n : ℕ) → (h : List (Entry K)) × SoFar n h
  so_far first calls zero = (
    [],
    record {
      consistent = tt;
      ended = λ o j le e. let z : j ≡ 0 = omega arith in cc;
      running = λ o w. inr (λ y. absurd (let lt : y.0 < 0 = y.1 in omega arith), refl);
      only = tt;
      graphs = λ i le. let z : i ≡ 0 = omega arith in rw z (same_sym (r.graph 0) empty first);
      points = tt;
    },
  )
  so_far first calls (suc n) = let w = so_far first calls n in extend n w.0 w.1 (calls n)

pub assembled : (K : Type 0) → Assembly K
assembled K r first calls n =
    let w = so_far r first calls n in
    let s = w.1 in
    record {
      history = (
        w.0,
        record {
          consistent = s.consistent;
          ended = s.ended;
          running = s.running;
          only = s.only;
          graphs = s.graphs;
          handed = handed w.0 s;
        },
      );
      behind = behind;
    }
  where
    handed : (h : List (Entry K)) → SoFar r n h → (o : Op K) (a : Answer) (i : ℕ) → i ≤ n → HandsOver r o a i → One r h o a i
    handed h s o a zero le x = cc
    handed h s o a (suc k) le x =
        let q = (calls k).hands o a x in
        let lj : q.0 ≤ k = q.1 in
        let w = s.ended o q.0 (omega arith) q.2 in
        let g = q.3 in
        let g' = w.1 in
        let e : w.0 ≡ a = cc in
        let m = w.2 in
        let le' : m.0 ≤ q.0 = m.2 in
        rw (sym e) (m.0, m.1, omega arith, m.3)

    behind : (o : Op K) (j : ℕ) → j ≤ n → Ends r o j → r.handing j o.by ≡ Some Circle → (o.request.u ≡ o.request.v → ⊥) → Behind r o.request o.by o.start j
    behind o zero le x g ne = cc
    behind o (suc k) le x g ne = (calls k).behind o x g ne
