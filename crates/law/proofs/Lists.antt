-- One entry more in a history: it goes behind all entries with points up to its own. What that does to the entries of each
-- operation, to the graphs after each call, and to consistency, for an entry that changes nothing and for one at the end.
use Rattle.std.proofs.Common.{◌≡◌, ℕ, ◌<◌, ◌≤◌, Bool, true, false, cond, eqb, leb, ◌⊎◌, List, [], ◌∷◌, refl, ap, inl, inr, arith}
use Rattle.std.specs.List.{AllByRecursion}
use Rattle.std.proofs.lemmas.List.Elements.{All-from_recursion, recursion_from_All, All-weaker}
use Rattle.std.proofs.lemmas.Bool.{eq-eqb, ne_eqb, le-leb, lt-leb, cases_lt, cond_both}
use Rattle.law.specs.History.{Graph, Same, Entry, Run, after, replayed, entries_of, Right, Consistent, Steps}
use Rattle.law.proofs.Graphs.{same_sym, same_trans, after_same, right_same}

module _ {K : Type 0} where
  -- behind all entries with points up to its own
  pub insert : Entry K → List (Entry K) → List (Entry K)
  insert e [] = e ∷ []
  insert e (x ∷ h) = cond (leb x.point e.point) (x ∷ insert e h) (e ∷ x ∷ h)

  insert_past : (e x : Entry K) (h : List (Entry K)) → x.point ≤ e.point → insert e (x ∷ h) ≡ x ∷ insert e h
  unfolding insert
  insert_past e x h le = rw (le-leb x.point e.point le) refl

  insert_here : (e x : Entry K) (h : List (Entry K)) → e.point < x.point → insert e (x ∷ h) ≡ e ∷ x ∷ h
  unfolding insert
  insert_here e x h lt = rw (lt-leb x.point e.point lt) refl

  pub entries_of_other : (e : Entry K) (s : ℕ) (h : List (Entry K)) → (e.op.start ≡ s → ⊥) → entries_of s (insert e h) ≡ entries_of s h
  unfolding insert
  entries_of_other e s [] ne = let q : eqb e.op.start s ≡ false = ne_eqb e.op.start s ne in grind arith
  entries_of_other e s (x ∷ h) ne =
      let q : eqb e.op.start s ≡ false = ne_eqb e.op.start s ne in
      let ih : entries_of s (insert e h) ≡ entries_of s h = entries_of_other e s h ne in
      grind arith

  pub entries_of_own : (e : Entry K) (h : List (Entry K)) → entries_of e.op.start h ≡ [] → entries_of e.op.start (insert e h) ≡ e ∷ []
  unfolding insert
  entries_of_own e [] none = let q : eqb e.op.start e.op.start ≡ true = eq-eqb e.op.start e.op.start refl in grind arith
  entries_of_own e (x ∷ h) none =
      let q : eqb e.op.start e.op.start ≡ true = eq-eqb e.op.start e.op.start refl in
      let ih : entries_of e.op.start h ≡ [] → entries_of e.op.start (insert e h) ≡ e ∷ [] = entries_of_own e h in
      grind arith

  -- no entry is of an operation that starts later
  pub entries_of_none : (s : ℕ) (h : List (Entry K)) → AllByRecursion (λ e. e.op.start < s) h → entries_of s h ≡ []
  entries_of_none s [] q = refl
  entries_of_none s (x ∷ h) q =
      let n : x.op.start < s = q.0 in
      rw (ne_eqb x.op.start s (λ e. omega arith)) (entries_of_none s h q.1)

  pub each_insert : (P : Entry K → Type 0) (e : Entry K) (h : List (Entry K)) → P e → AllByRecursion P h → AllByRecursion P (insert e h)
  unfolding insert
  each_insert P e [] p q = (p, tt)
  each_insert P e (x ∷ h) p q =
      cond_both (leb x.point e.point) (x ∷ insert e h) (e ∷ x ∷ h) (AllByRecursion P) (λ _. (q.0, each_insert P e h p q.1)) (λ _. (p, q))

  pub each_map : (P Q : Entry K → Type 0) → ((e : Entry K) → P e → Q e) → (h : List (Entry K)) → AllByRecursion P h → AllByRecursion Q h
  each_map P Q f h q = recursion_from_All Q h (All-weaker P Q f h (All-from_recursion P h q))

  pub replayed_same : (i : ℕ) (G H : Graph K) (h : List (Entry K)) → Same G H → Same (replayed i G h) (replayed i H h)
  replayed_same i G H [] s = s
  replayed_same i G H (x ∷ h) s = replayed_same i (cond (leb x.point i) (after G x) G) (cond (leb x.point i) (after H x) H) h (go (leb x.point i))
    where
      go : (b : Bool) → Same (cond b (after G x) G) (cond b (after H x) H)
      go true = after_same G H s x
      go false = s

  -- before the entry's point nothing changes
  pub replayed_early : (i : ℕ) (e : Entry K) → i < e.point → (G : Graph K) (h : List (Entry K)) → replayed i G (insert e h) ≡ replayed i G h
  unfolding insert
  replayed_early i e lt G [] = rw (lt-leb e.point i lt) refl
  replayed_early i e lt G (x ∷ h) = go (leb x.point e.point) (replayed_early i e lt (cond (leb x.point i) (after G x) G) h)
    where
      go : (b : Bool) → replayed i (cond (leb x.point i) (after G x) G) (insert e h) ≡ replayed i G (x ∷ h) → replayed i G (cond b (x ∷ insert e h) (e ∷ x ∷ h)) ≡ replayed i G (x ∷ h)
      go true w = w
      go false w = ap (λ (b : Bool). replayed i (cond b (after G e) G) (x ∷ h)) (lt-leb e.point i lt)

  pub replayed_in : (i : ℕ) (G : Graph K) (x : Entry K) (h : List (Entry K)) → x.point ≤ i → replayed i G (x ∷ h) ≡ replayed i (after G x) h
  replayed_in i G x h le = rw (le-leb x.point i le) refl

  pub replayed_all : (i n : ℕ) → n ≤ i → (G : Graph K) (h : List (Entry K)) → AllByRecursion (λ e. e.point ≤ n) h → replayed i G h ≡ replayed n G h
  replayed_all i n le G [] q = refl
  replayed_all i n le G (x ∷ h) q =
      let a : x.point ≤ n = q.0 in
      rw (replayed_in i G x h (omega arith), replayed_in n G x h a) (replayed_all i n le (after G x) h q.1)

  -- all entries with later points
  pub replayed_none : (i : ℕ) (G : Graph K) (h : List (Entry K)) → AllByRecursion (λ e. i < e.point) h → replayed i G h ≡ G
  replayed_none i G [] q = refl
  replayed_none i G (x ∷ h) q = rw (lt-leb x.point i q.0) (replayed_none i G h q.1)

  module _ (r : Run K) where
    -- points do not fall
    later : (i : ℕ) (G : Graph K) (p : ℕ) (h : List (Entry K)) → i < p → Consistent r G p h → AllByRecursion (λ e. i < e.point) h
    later i G p [] lt w = tt
    later i G p (x ∷ h) lt w =
        let le : p ≤ x.point = w.0 in
        (omega arith, later i (after G x) x.point h (omega arith) w.3)

    pub consistent_same : (G H : Graph K) (p : ℕ) (h : List (Entry K)) → Same G H → Consistent r G p h → Consistent r H p h
    consistent_same G H p [] s w = tt
    consistent_same G H p (x ∷ h) s w = (
      w.0,
      right_same G H s (r.free x.point) x.op.request x.answer w.1,
      λ d. w.2 (λ t. d (same_trans H G (after H x) (same_sym G H s) (same_trans G (after G x) (after H x) t (after_same G H s x)))),
      consistent_same (after G x) (after H x) x.point h (after_same G H s x) w.3,
    )

    later_than : (G : Graph K) (p q : ℕ) (h : List (Entry K)) → AllByRecursion (λ e. q < e.point) h → Consistent r G p h → Consistent r G q h
    later_than G p q [] l w = tt
    later_than G p q (x ∷ h) l w = let lt : q < x.point = l.0 in (omega arith, w.1, λ d. ((w.2 d).0, lt), w.3)

    -- an entry that is right where it goes in, after the entries up to its point, and changes nothing there
    module _ (e : Entry K) (g : Graph K)
        (right : Right g (r.free e.point) e.op.request e.answer) (still : Same g (after g e)) where
      still_at : (G : Graph K) → Same G g → Same G (after G e)
      still_at G s = same_trans G g (after G e) s (same_trans g (after g e) (after G e) still (after_same g G (same_sym G g s) e))

      right_at : (G : Graph K) → Same G g → Right G (r.free e.point) e.op.request e.answer
      right_at G s = right_same g G (same_sym G g s) (r.free e.point) e.op.request e.answer right

      past : (G : Graph K) (x : Entry K) (h : List (Entry K)) → x.point ≤ e.point → Same (replayed e.point G (x ∷ h)) g → Same (replayed e.point (after G x) h) g
      past G x h le s = rw (le-leb x.point e.point le) at s

      here : (G : Graph K) (p : ℕ) (x : Entry K) (h : List (Entry K)) → e.point < x.point → Same (replayed e.point G (x ∷ h)) g → Consistent r G p (x ∷ h) →
          Same G g × AllByRecursion (λ y. e.point < y.point) (x ∷ h)
      here G p x h lt s w =
          let l : AllByRecursion (λ y. e.point < y.point) (x ∷ h) = (lt, later e.point (after G x) x.point h lt w.3) in
          (rw (replayed_none e.point G (x ∷ h) l) at s, l)

      pub consistent_still : (h : List (Entry K)) (G : Graph K) (p : ℕ) → p ≤ e.point → Same (replayed e.point G h) g → Consistent r G p h → Consistent r G p (insert e h)
      unfolding insert
      consistent_still [] G p le s w = (le, right_at G s, λ d. absurd (d (still_at G s)), tt)
      consistent_still (x ∷ h) G p le s w = go (cases_lt e.point x.point) (consistent_still h (after G x) x.point)
        where
          go : (e.point < x.point) ⊎ (x.point ≤ e.point) →
              (x.point ≤ e.point → Same (replayed e.point (after G x) h) g → Consistent r (after G x) x.point h → Consistent r (after G x) x.point (insert e h)) →
              Consistent r G p (insert e (x ∷ h))
          go (inl lt) ih =
              let q = here G p x h lt s w in
              rw (insert_here e x h lt) (
                le,
                right_at G q.0,
                λ d. absurd (d (still_at G q.0)),
                later_than (after G e) p e.point (x ∷ h) q.1 (consistent_same G (after G e) p (x ∷ h) (still_at G q.0) w),
              )
          go (inr le') ih = rw (insert_past e x h le') (w.0, w.1, w.2, ih le' (past G x h le' s) w.3)

      pub replayed_still : (i : ℕ) → e.point ≤ i → (h : List (Entry K)) (G : Graph K) (p : ℕ) → Same (replayed e.point G h) g → Consistent r G p h →
          Same (replayed i G (insert e h)) (replayed i G h)
      unfolding insert
      replayed_still i lei [] G p s w = rw (le-leb e.point i lei) (same_sym G (after G e) (still_at G s))
      replayed_still i lei (x ∷ h) G p s w = go (cases_lt e.point x.point) (replayed_still i lei h (after G x) x.point)
        where
          go : (e.point < x.point) ⊎ (x.point ≤ e.point) →
              (Same (replayed e.point (after G x) h) g → Consistent r (after G x) x.point h → Same (replayed i (after G x) (insert e h)) (replayed i (after G x) h)) →
              Same (replayed i G (insert e (x ∷ h))) (replayed i G (x ∷ h))
          go (inl lt) ih =
              let q = here G p x h lt s w in
              rw (insert_here e x h lt, le-leb e.point i lei)
              (replayed_same i (after G e) G (x ∷ h) (same_sym G (after G e) (still_at G q.0)))
          go (inr le') ih =
              let le : x.point ≤ i = omega arith in
              rw (insert_past e x h le', replayed_in i G x (insert e h) le, replayed_in i G x h le) (ih (past G x h le' s) w.3)

    -- an entry behind all others, with a point of its own
    module _ (e : Entry K) (n : ℕ) (new : n < e.point) where
      end : (x : Entry K) (h : List (Entry K)) → x.point ≤ n → insert e (x ∷ h) ≡ x ∷ insert e h
      end x h le = insert_past e x h (omega arith)

      pub consistent_end : (h : List (Entry K)) (G : Graph K) (p : ℕ) → p ≤ n → AllByRecursion (λ x. x.point ≤ n) h → Consistent r G p h →
          Right (replayed n G h) (r.free e.point) e.op.request e.answer → Steps r e.op e.point → Consistent r G p (insert e h)
      unfolding insert
      consistent_end [] G p le q w right step = (omega arith, right, λ d. (step, omega arith), tt)
      consistent_end (x ∷ h) G p le q w right step =
          rw (end x h q.0) (w.0, w.1, w.2, consistent_end h (after G x) x.point q.0 q.1 w.3 (rw (le-leb x.point n q.0) at right) step)

      pub replayed_end : (h : List (Entry K)) (G : Graph K) → AllByRecursion (λ x. x.point ≤ n) h → replayed e.point G (insert e h) ≡ after (replayed n G h) e
      unfolding insert
      replayed_end [] G q = rw (le-leb e.point e.point (omega arith)) refl
      replayed_end (x ∷ h) G q =
          let a : x.point ≤ e.point = let b : x.point ≤ n = q.0 in omega arith in
          rw (end x h q.0, replayed_in e.point G x (insert e h) a, replayed_in n G x h q.0) (replayed_end h (after G x) q.1)
