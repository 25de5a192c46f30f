-- The statement of a history refutes two wrong runs, and an honest one and the empty one meet it.
use Rattle.std.proofs.Common.{◌≡◌, ℕ, zero, suc, ◌<◌, ◌≤◌, List, [], ◌∷◌, Some, Option, sym, refl, ap, ◌∙◌, subst, inl, inr, arith}
use Rattle.std.specs.List.{AllByRecursion}
use Rattle.std.proofs.lemmas.Bool.{eq-eqb, le-leb, cases_eq}
use Rattle.std.specs.declared.cmp.Ordering.{Ordering}
use Rattle.nodes.specs.declared.controller.Answer.{Answer}
use Rattle.nodes.specs.declared.controller.Answer.TheVariants.{Yes, Full}
use Rattle.nodes.specs.Memory.{Memory, fresh, fresh_nodes}
use Rattle.law.specs.History.{Same, empty, changed, Request, Op, Entry, entries_of, replayed, Began, Consistent, History, Linearizes}
use Rattle.law.specs.History.{Event.started, Event.finished}
use Rattle.law.specs.Ledger.{Stage, Move, Ledger}
use Rattle.law.specs.Ledger.{Stage.rest, Stage.seek, Stage.done, Went.sets}
use Rattle.law.specs.Readings.{graph_of, run_of}
use Rattle.law.specs.Bites.{add5, events, idle_worker, honest, Bites}
use Rattle.law.proofs.Boards.{fresh_graph}
use Rattle.law.proofs.Graphs.{same_refl, same_sym}
use Rattle.law.proofs.Ledgers.{linearized}

-- ---- two wrong runs

abbrev first : Op ℕ
first = record { start = 1; by = 0; request = add5 }

only_first : (a : Answer) (h : List (Entry ℕ)) → AllByRecursion (λ e. Began (idle_worker a) 2 e.op) h → entries_of 1 h ≡ h
only_first a [] q = refl
only_first a (x ∷ h) q = rw (eq-eqb x.op.start 1 one) (ap (λ (l : List (Entry ℕ)). x ∷ l) (only_first a h q.1))
  where
    one : x.op.start ≡ 1
    one =
        let b : Began (idle_worker a) 2 x.op = q.0 in
        elim (cases_eq x.op.start 2) [ inl e ↦ let k : finished 0 ≡ started x.op.by x.op.request = ap events (sym e) ∙ b.is in cc | inr ne ↦ omega arith ]

-- the whole history is that one entry
whole : (a : Answer) (l : Linearizes (idle_worker a) 2) → (m : ℕ) × (m ≤ 2) × (l.history.0 ≡ record { op = first; answer = a; point = m } ∷ [])
whole a l =
    let s = l.history.1 in
    let w = s.ended first 2 (omega arith) (record { runs = refl; is = refl }) in
    let g = w.1 in
    let e : w.0 ≡ a = cc in
    let o = w.2 in
    (o.0, o.2, sym (only_first a l.history.0 s.only) ∙ (o.3 ∙ ap (λ (x : Answer). record { op = first; answer = x; point = o.0 } ∷ []) e))

-- a board that answers yes and links nothing
no_yes : Linearizes (idle_worker Yes) 2 → ⊥
no_yes l =
    let w = whole Yes l in
    let g : Same (replayed 2 empty l.history.0) empty = l.history.1.graphs 2 (omega arith) in
    let g' : Same (replayed 2 empty (record { op = first; answer = Yes; point = w.0 } ∷ [])) empty = subst (λ (h : List (Entry ℕ)). Same (replayed 2 empty h) empty) w.2 g in
    let k = rw (le-leb w.0 2 w.1) at g' in
    (k.job 5).0 (inr refl)

-- one that says full with nodes free
no_full : Linearizes (idle_worker Full) 2 → ⊥
no_full l =
    let w = whole Full l in
    let g : Consistent (idle_worker Full) empty 0 (record { op = first; answer = Full; point = w.0 } ∷ []) = subst (λ (h : List (Entry ℕ)). Consistent (idle_worker Full) empty 0 h) w.2 l.history.1.consistent in
    let k : 7 < 2 = g.1.1 in
    omega arith

-- ---- an honest run, and none at all

abbrev stages : ℕ → ℕ → Stage ℕ
stages n (suc c) = rest
stages zero zero = rest
stages (suc zero) zero = seek add5
stages (suc (suc n)) zero = done add5 Yes

others : (n d : ℕ) → (d ≡ 0 → ⊥) → stages (suc n) d ≡ stages n d
others n zero ne = absurd (ne refl)
others n (suc d) ne = refl

ledger : Ledger honest stages
ledger = record { bare = same_refl empty; resting = resting; hands = hands; moves = moves }
  where
    resting : (c : ℕ) → stages 0 c ≡ rest
    resting zero = refl
    resting (suc c) = refl

    hands : (n c : ℕ) (t : Request ℕ) (a : Answer) → stages n c ≡ done t a → ◌≡◌ {A = Option Answer} (Some Yes) (Some a)
    hands n (suc c) t a e = cc
    hands zero zero t a e = cc
    hands (suc zero) zero t a e = cc
    hands (suc (suc n)) zero t a e = cc

    moves : (n : ℕ) → Move honest stages n (events (suc n))
    moves zero = (same_refl empty, others 0, refl)
    moves (suc zero) = (others 1, (add5, Yes, sets (record { right = tt; makes = same_refl (changed empty add5); differs = λ s. (s.job 5).1 (inr refl) }), refl))
    moves (suc (suc n)) = (same_refl (changed empty add5), same)
      where
        same : (d : ℕ) → stages (suc (suc (suc n))) d ≡ stages (suc (suc n)) d
        same zero = refl
        same (suc d) = refl

fine : (n : ℕ) → Linearizes honest n
fine = linearized honest stages ledger

no_calls : {K : Type 0} (order : K → K → Ordering) (first : ℕ) (m : Memory K) → History (run_of order (fresh first m) []) 0 []
no_calls order first m = record {
  consistent = tt;
  ended = λ o j le e. let z : j ≡ 0 = omega arith in cc;
  running = λ o w. inr (λ y. let lt : y.0 < 0 = y.1 in omega arith, refl);
  only = tt;
  graphs = λ i le. let z : i ≡ 0 = omega arith in rw z (same_sym (graph_of (fresh_nodes m.nodes)) empty (fresh_graph m.nodes));
  handed = λ o a i le e. let z : i ≡ 0 = omega arith in cc;
}

pub bites : {K : Type 0} (order : K → K → Ordering) → Bites order
bites order = record { no_yes_without_a_link = no_yes; no_full_with_nodes_free = no_full; honest_is_met = fine; empty_list_is_met = no_calls order }
