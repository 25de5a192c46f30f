-- A run of calls on a fresh board is a ledger, if each of its steps makes one of a ledger's moves; so its history exists.
use Rattle.std.proofs.Common.{◌≡◌, ℕ, zero, suc, true, ◌⊎◌, List, [], ◌∷◌, map, length, Some, None, Ok, Err, Option, Result, sym, refl, ap, ◌∙◌, subst, inl, inr, true≢false}
use Rattle.std.proofs.lemmas.Option.{same_Some}
use Rattle.std.specs.List.{slice_get}
use Rattle.std.specs.Result.{result_ok}
use Rattle.std.proofs.lemmas.Bool.{cases_eq}
use Rattle.std.specs.declared.cmp.Ordering.{Ordering}
use Rattle.nodes.specs.declared.call.Call.{Call}
use Rattle.nodes.specs.declared.call.Call.TheVariants.{Start, Step, Collect, Count}
use Rattle.nodes.specs.declared.call.Outcome.TheVariants.{Started, Stepped, Collected}
use Rattle.nodes.specs.declared.call.StepOutcome.{StepOutcome}
use Rattle.nodes.specs.declared.call.StepOutcome as outcomes
use Rattle.nodes.specs.declared.call.StepOutcome.TheVariants.{Moved, Waiting}
use Rattle.nodes.specs.declared.controller.Answer.{Answer}
use Rattle.nodes.specs.declared.controller.Controller.{Controller}
use Rattle.nodes.specs.declared.controller.Edit.{Edit}
use Rattle.nodes.specs.declared.controller.Edit.TheVariants.{AddJob, RemoveJob, AddWait, RemoveWait, Empty, Sweep}
use Rattle.nodes.specs.declared.controller.Operation.{Operation}
use Rattle.nodes.specs.declared.controller.Operation as operations
use Rattle.nodes.specs.declared.controller.Phase.{Phase}
use Rattle.nodes.specs.declared.controller.Phase.TheVariants.{Idle, Find, Locate, LockFirst, LockSecond, Validate, Explore, Unlink, Unlock, NextJob, Finished}
use Rattle.nodes.specs.declared.controller.Then.{Then}
use Rattle.nodes.specs.declared.controller.Then as thens
use Rattle.nodes.specs.declared.controller.Then.TheVariants.{Finish, Again}
use Rattle.nodes.specs.declared.node.Node.{Node}
use Rattle.nodes.specs.declared.refusal.Refusal.{Refusal}
use Rattle.nodes.specs.Memory.{Memory, fresh, fresh_controller, fresh_nodes}
use Rattle.nodes.specs.Operations.{operation_of}
use Rattle.nodes.specs.Reuse.{is_running}
use Rattle.rules.specs.Calls as calls
use Rattle.rules.specs.Calls.{answer_of, with_phase, with_controller, begin, first_phase}
use Rattle.rules.specs.Runs.{called, as_outcome}
use Rattle.law.specs.History.{Same, empty, Request, Run, Event}
use Rattle.law.specs.History.{Event.started, Event.collected, Event.other}
use Rattle.law.specs.Ledger.{Stage, Move, Unchanged, Others, Ledger}
use Rattle.law.specs.Ledger.{Stage.rest, Stage.seek, Stage.bound, Stage.owed, Stage.done}
use Rattle.law.specs.Readings.{start_event, moved_event, step_event, collect_event, event_of, graph_of, by_edit, by_then, by_phase, by_operation, stage_of, stage_at, call_at, memory_at, outcome_at, event_at, run_of}
use Rattle.law.specs.Assembling.{Goes, Moves, HistoryFromMoves}
use Rattle.theory.proofs.Fields.{nth_set_same, nth_set_other}
use Rattle.law.proofs.Graphs.{same_refl}
use Rattle.law.proofs.Ledgers.{linearized}
use Rattle.law.proofs.Views.{Refuses, Starts, start_view, Collects, collect_view, collect_gives, count_keeps, Steps, step_view}

-- ---- stages and answers

abbrev done_answer : {K : Type 0} → Stage K → Option Answer
done_answer rest = None
done_answer (seek q) = None
done_answer (bound q) = None
done_answer (owed q a) = None
done_answer (done q a) = Some a

module _ {K : Type 0} where
  edit_answer : (q : Request K) (e : Edit) → done_answer (by_edit q e) ≡ None
  edit_answer q AddJob = refl
  edit_answer q RemoveJob = refl
  edit_answer q (AddWait u v) = refl
  edit_answer q (RemoveWait u v) = refl
  edit_answer q (Empty j) = refl
  edit_answer q (Sweep j at s) = refl

  then_answer : (q : Request K) (t : Then) → done_answer (by_then q t) ≡ None
  then_answer q (Finish a) = refl
  then_answer q (Again e) = edit_answer q e
  then_answer q (thens.TheVariants.NextJob j at) = refl

  phase_answer : (q : Request K) (p : Phase) → done_answer (by_phase q p) ≡ answer_of p
  phase_answer q Idle = refl
  phase_answer q (Find l at) = refl
  phase_answer q (Locate e at) = edit_answer q e
  phase_answer q (LockFirst e p) = edit_answer q e
  phase_answer q (LockSecond e p) = edit_answer q e
  phase_answer q (Validate e p) = edit_answer q e
  phase_answer q (Explore u v p t at) = refl
  phase_answer q (Unlink p y t) = then_answer q t
  phase_answer q (Unlock p o t) = then_answer q t
  phase_answer q (NextJob j at) = refl
  phase_answer q (Finished a) = refl

  -- a controller whose stage is done has finished with that answer
  done_view : (o : Option (Controller K)) (q : Request K) (a : Answer) → stage_of o ≡ done q a → (c : Controller K) × (o ≡ Some c) × (answer_of c.phase ≡ Some a)
  done_view None q a e = absurd cc
  done_view (Some c) q a e = (c, refl, known c.operation e)
    where
      known : (o : Option Operation) → by_operation c o ≡ done q a → answer_of c.phase ≡ Some a
      known None e = absurd cc
      known (Some o) e = sym (phase_answer (record { operation = o; u = c.u; v = c.v }) c.phase) ∙ ap done_answer e

  -- a finished controller with an operation is done
  done_stage : (c : Controller K) (a : Answer) → answer_of c.phase ≡ Some a → (o : Operation) → c.operation ≡ Some o → (q : Request K) × (by_operation c c.operation ≡ done q a)
  done_stage c a e o p = (record { operation = o; u = c.u; v = c.v }, ap (by_operation c) p ∙ at c.phase e)
    where
      at : (ph : Phase) → answer_of ph ≡ Some a → by_phase (record { operation = o; u = c.u; v = c.v }) ph ≡ done (record { operation = o; u = c.u; v = c.v }) a
      at Idle e = absurd cc
      at (Find l x) e = absurd cc
      at (Locate d x) e = absurd cc
      at (LockFirst d x) e = absurd cc
      at (LockSecond d x) e = absurd cc
      at (Validate d x) e = absurd cc
      at (Explore u v x t y) e = absurd cc
      at (Unlink x y t) e = absurd cc
      at (Unlock x y t) e = absurd cc
      at (NextJob j x) e = absurd cc
      at (Finished b) e = let s : b ≡ a = cc in ap (done (record { operation = o; u = c.u; v = c.v })) s

  -- ---- a controller that is not idle has an operation

  abbrev Named : Controller K → Type 0
  Named c = c.operation ≡ None → c.phase ≡ Idle

  abbrev AllNamed : Memory K → Type 0
  AllNamed m = (w : ℕ) (c : Controller K) → slice_get m.controllers w ≡ Some c → Named c

  -- after a write of one controller
  named_but : (m n : Memory K) (w : ℕ) (c : Controller K) → slice_get n.controllers w ≡ Some c → Named c → ((d : ℕ) → (d ≡ w → ⊥) → slice_get n.controllers d ≡ slice_get m.controllers d) → AllNamed m → AllNamed n
  named_but m n w c is own others all d e q = go (cases_eq d w)
    where
      go : (d ≡ w) ⊎ (d ≡ w → ⊥) → Named e
      go (inl p) = let s : c ≡ e = same_Some c e (sym is ∙ ap (λ i. slice_get n.controllers i) (sym p) ∙ q) in subst Named s own
      go (inr ne) = all d e (sym (others d ne) ∙ q)

  named_operation : (c : Controller K) → Named c → is_running c.phase ≡ true → (o : Operation) × (c.operation ≡ Some o)
  named_operation c own r = go c.operation refl
    where
      go : (o : Option Operation) → c.operation ≡ o → (p : Operation) × (c.operation ≡ Some p)
      go None e = absurd (true≢false (sym r ∙ ap is_running (own e)))
      go (Some p) e = (p, e)

  -- ---- stages at the edges of an operation

  first_stage : (q : Request K) (o : Operation) → by_phase q (first_phase o) ≡ seek q
  first_stage q operations.TheVariants.AddJob = refl
  first_stage q operations.TheVariants.RemoveJob = refl
  first_stage q operations.TheVariants.HasJob = refl
  first_stage q operations.TheVariants.AddWait = refl
  first_stage q operations.TheVariants.RemoveWait = refl
  first_stage q operations.TheVariants.HasWait = refl

  idle_stage : (c : Controller K) (o : Option Operation) → by_operation (with_phase c Idle) o ≡ rest
  idle_stage c None = refl
  idle_stage c (Some o) = refl

  refused_start : (w : ℕ) (o : Option Operation) (u v : K) (r : Refusal) → start_event w o u v (Err r) ≡ other
  refused_start w None u v r = refl
  refused_start w (Some o) u v r = refl

  finished_operation : (c : Controller K) (a : Answer) → Named c → answer_of c.phase ≡ Some a → (o : Operation) × (c.operation ≡ Some o)
  finished_operation c a own e = go c.operation refl
    where
      go : (o : Option Operation) → c.operation ≡ o → (p : Operation) × (c.operation ≡ Some p)
      go None p = absurd (let f : answer_of Idle ≡ Some a = sym (ap answer_of (own p)) ∙ e in cc)
      go (Some o) p = (o, p)

module _ {K : Type 0} (order : K → K → Ordering) (m : Memory K) (cs : List (Call K)) where
  -- the memory after n calls, and the stages then
  abbrev M : ℕ → Memory K
  M n = memory_at order m cs n

  abbrev st : ℕ → ℕ → Stage K
  st n w = stage_at (M n) w

  abbrev r : Run K
  r = run_of order m cs

  -- what call n + 1 leaves, by what the call is and what it was
  next_is : (n : ℕ) (k : Call K) → call_at cs n ≡ k → M (suc n) ≡ (called order k (M n)).1
  next_is n k q = ap (λ c. (called order c (M n)).1) q

  same_memory : (n : ℕ) → M (suc n) ≡ M n → Move r st n other
  same_memory n e = (subst (λ (x : Memory K). Same (graph_of (M n).nodes) (graph_of x.nodes)) (sym e) (same_refl (graph_of (M n).nodes)), λ d. ap (λ (x : Memory K). stage_at x d) e)

  same_nodes : (n : ℕ) (x : Memory K) → M (suc n) ≡ x → x.nodes ≡ (M n).nodes → Unchanged r n
  same_nodes n x e q = subst (λ (ns : List (Node K)). Same (graph_of (M n).nodes) (graph_of ns)) (sym (ap (λ (y : Memory K). y.nodes) e ∙ q)) (same_refl (graph_of (M n).nodes))

  other_stages : (n w : ℕ) (x : Memory K) → M (suc n) ≡ x → ((d : ℕ) → (d ≡ w → ⊥) → slice_get x.controllers d ≡ slice_get (M n).controllers d) → Others r st n w
  other_stages n w x e f d ne = ap stage_of (ap (λ (y : Memory K). slice_get y.controllers d) e ∙ f d ne)

  as_event : (n : ℕ) (e f : Event K) → e ≡ f → Move r st n f → Move r st n e
  as_event n e f p = subst (Move r st n) (sym p)

  -- ---- every controller that is not idle has an operation

  named_next : (n : ℕ) → AllNamed (M n) → AllNamed (M (suc n))
  named_next n old = go (call_at cs n) refl
    where
      kept : (x : Memory K) → M (suc n) ≡ x → x ≡ M n → AllNamed (M (suc n))
      kept x e p = subst AllNamed (sym (e ∙ p)) old

      go : (k : Call K) → call_at cs n ≡ k → AllNamed (M (suc n))
      go (Start w code u v) q = by (start_view (M n) w code u v)
        where
          by : Refuses (M n) (calls.started w code u v (M n)) ⊎ Starts (M n) w code u v → AllNamed (M (suc n))
          by (inl (e, p)) = kept _ (next_is n _ q) (ap (λ x. x.1) p)
          by (inr (o, c, _, at, p)) =
              let is = next_is n _ q ∙ ap (λ x. x.1) p in
              subst AllNamed (sym is) (named_but (M n) (begin (M n) w o u v) w _ (nth_set_same (M n).controllers w _ c at) (λ x. absurd cc) (λ d ne. nth_set_other (M n).controllers w d _ ne) old)
      go (Step w) q = by (step_view (M n) order w)
        where
          by : Refuses (M n) (calls.stepped order w (M n)) ⊎ Steps (M n) order w → AllNamed (M (suc n))
          by (inl (e, p)) = kept _ (next_is n _ q) (ap (λ x. x.1) p)
          by (inr (s, x, p, t)) =
              let is = next_is n _ q ∙ ap (λ y. y.1) p in
              let has = named_operation t.before (old w t.before t.was) t.ran in
              let own : Named t.after = λ none. absurd (let f : Some has.0 ≡ None = sym has.1 ∙ sym t.operation ∙ none in cc) in
              subst AllNamed (sym is) (named_but (M n) x w t.after t.is own t.others old)
      go (Collect w) q = by (collect_view (M n) w)
        where
          by : Refuses (M n) (calls.collected w (M n)) ⊎ Collects (M n) w → AllNamed (M (suc n))
          by (inl (e, p)) = kept _ (next_is n _ q) (ap (λ x. x.1) p)
          by (inr (a, c, at, _, p)) =
              let is = next_is n _ q ∙ ap (λ x. x.1) p in
              subst AllNamed (sym is) (named_but (M n) (with_controller (M n) w (with_phase c Idle) (M n).nodes (M n).marks) w (with_phase c Idle) (nth_set_same (M n).controllers w (with_phase c Idle) c at) (λ _. refl) (λ d ne. nth_set_other (M n).controllers w d (with_phase c Idle) ne) old)
      go Count q = kept _ (next_is n _ q) (count_keeps (M n))

  named_at : AllNamed m → (n : ℕ) → AllNamed (M n)
  named_at first zero = first
  named_at first (suc n) = named_next n (named_at first n)

  -- ---- the moves

  start_move : (n w code : ℕ) (u v : K) → call_at cs n ≡ Start w code u v → Move r st n (event_of (Start w code u v) (called order (Start w code u v) (M n)).0)
  start_move n w code u v q = by (start_view (M n) w code u v)
    where
      event : (x : Result (Unit {0}) Refusal × Memory K) → Event K
      event x = start_event w (operation_of code) u v (as_outcome (λ _. Started) x.0)

      by : Refuses (M n) (calls.started w code u v (M n)) ⊎ Starts (M n) w code u v → Move r st n (event_of (Start w code u v) (called order (Start w code u v) (M n)).0)
      by (inl (e, p)) = as_event n _ other (ap event p ∙ refused_start w (operation_of code) u v e) (same_memory n (next_is n _ q ∙ ap (λ x. x.1) p))
      by (inr (o, c, at, is, p)) =
          let next = next_is n _ q ∙ ap (λ x. x.1) p in
          let request : Request K = record { operation = o; u = u; v = v } in
          as_event n _ (started w request) (ap event p ∙ ap (λ a. start_event w a u v (Ok Started)) at) (
            same_nodes n (begin (M n) w o u v) next refl,
            other_stages n w (begin (M n) w o u v) next (λ d ne. nth_set_other (M n).controllers w d _ ne),
            ap (λ (x : Memory K). stage_at x w) next ∙ ap stage_of (nth_set_same (M n).controllers w _ c is) ∙ first_stage request o,
          )

  step_move : Moves order m cs → (n w : ℕ) → call_at cs n ≡ Step w → Move r st n (event_of (Step w) (called order (Step w) (M n)).0)
  step_move mv n w q = by (step_view (M n) order w)
    where
      event : (x : Result StepOutcome Refusal × Memory K) → Event K
      event x = step_event w (as_outcome Stepped x.0)

      told : (s : StepOutcome) → Others r st n w → Goes order m cs n w s → Move r st n (moved_event w s)
      told Moved others g = (others, g)
      told Waiting others g = (others, g)
      told outcomes.TheVariants.Finished others g = (others, g)

      by : Refuses (M n) (calls.stepped order w (M n)) ⊎ Steps (M n) order w → Move r st n (event_of (Step w) (called order (Step w) (M n)).0)
      by (inl (e, p)) = as_event n _ other (ap event p) (same_memory n (next_is n _ q ∙ ap (λ x. x.1) p))
      by (inr (s, x, p, t)) =
          let next = next_is n _ q ∙ ap (λ y. y.1) p in
          let out : outcome_at order m cs n ≡ Ok (Stepped s) = ap (λ k. (called order k (M n)).0) q ∙ ap (λ y. as_outcome Stepped y.0) p in
          as_event n _ (moved_event w s) (ap event p) (told s (other_stages n w x next t.others) (mv.steps n w s q out))

  collect_move : (n w : ℕ) → AllNamed (M n) → call_at cs n ≡ Collect w → Move r st n (event_of (Collect w) (called order (Collect w) (M n)).0)
  collect_move n w named q = by (collect_view (M n) w)
    where
      event : (x : Result Answer Refusal × Memory K) → Event K
      event x = collect_event w (as_outcome Collected x.0)

      by : Refuses (M n) (calls.collected w (M n)) ⊎ Collects (M n) w → Move r st n (event_of (Collect w) (called order (Collect w) (M n)).0)
      by (inl (e, p)) = as_event n _ other (ap event p) (same_memory n (next_is n _ q ∙ ap (λ x. x.1) p))
      by (inr (a, c, at, ans, p)) =
          let x : Memory K = with_controller (M n) w (with_phase c Idle) (M n).nodes (M n).marks in
          let next = next_is n _ q ∙ ap (λ y. y.1) p in
          let has = finished_operation c a (named w c at) ans in
          let was = done_stage c a ans has.0 has.1 in
          as_event n _ (collected w a) (ap event p) (
            same_nodes n x next refl,
            other_stages n w x next (λ d ne. nth_set_other (M n).controllers w d (with_phase c Idle) ne),
            (was.0, ap stage_of at ∙ was.1),
            ap (λ (y : Memory K). stage_at y w) next ∙ ap stage_of (nth_set_same (M n).controllers w (with_phase c Idle) c at) ∙ idle_stage c c.operation,
          )

  moves : Moves order m cs → AllNamed m → (n : ℕ) → Move r st n (event_at order m cs (suc n))
  moves mv first n = go (call_at cs n) refl
    where
      go : (k : Call K) → call_at cs n ≡ k → Move r st n (event_of k (called order k (M n)).0)
      go (Start w code u v) q = start_move n w code u v q
      go (Step w) q = step_move mv n w q
      go (Collect w) q = collect_move n w (named_at first n) q
      go Count q = same_memory n (next_is n _ q ∙ count_keeps (M n))

  handed : Moves order m cs → (n w : ℕ) (q : Request K) (a : Answer) → st n w ≡ done q a → r.handing n w ≡ Some a
  handed mv n w q a e =
      let c = done_view (slice_get (M n).controllers w) q a e in
      ap (λ x. result_ok x.0) (collect_gives (M n) w c.0 a (mv.fit n) c.1 c.2)

  ledger : Moves order m cs → Same (graph_of m.nodes) empty → ((w : ℕ) → stage_at m w ≡ rest) → AllNamed m → Ledger r st
  ledger mv bare resting named = record { bare = bare; resting = resting; hands = handed mv; moves = moves mv named }

-- ---- fresh boards

module _ {K : Type 0} where
  pub fresh_graph : (ns : List (Node K)) → Same (graph_of (fresh_nodes ns)) empty
  fresh_graph [] = record { job = λ k. (λ x. x.1, λ x. absurd x); wait = λ a b. (λ x. x.wait, λ x. absurd x) }
  fresh_graph (n ∷ ns) = record { job = λ k. (λ x. x.1, λ x. absurd x); wait = λ a b. (λ x. x.wait, λ x. absurd x) }

  fresh_none : (cs : List (Controller K)) (w : ℕ) (c : Controller K) → slice_get (map fresh_controller cs) w ≡ Some c → (c.operation ≡ None) × (c.phase ≡ Idle)
  fresh_none [] w c e = absurd cc
  fresh_none (d ∷ cs) zero c e = let s : fresh_controller d ≡ c = same_Some (fresh_controller d) c e in (ap (λ (x : Controller K). x.operation) (sym s), ap (λ (x : Controller K). x.phase) (sym s))
  fresh_none (d ∷ cs) (suc w) c e = fresh_none cs w c e

  fresh_rest : (cs : List (Controller K)) (w : ℕ) → stage_of (slice_get (map fresh_controller cs) w) ≡ rest
  fresh_rest [] w = refl
  fresh_rest (d ∷ cs) zero = refl
  fresh_rest (d ∷ cs) (suc w) = fresh_rest cs w

pub history_from_moves : {K : Type 0} (order : K → K → Ordering) → HistoryFromMoves order
history_from_moves order first m cs mv =
    linearized (run_of order (fresh first m) cs) (λ n w. stage_at (memory_at order (fresh first m) cs n) w)
    (ledger order (fresh first m) cs mv (fresh_graph m.nodes) (fresh_rest m.controllers) (λ w c e _. (fresh_none m.controllers w c e).1))
    (length cs)
