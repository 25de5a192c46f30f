-- How a list of calls is read: what each call did, the graph after it, and the stage of each controller. Assumes nothing.
--     call_at cs i           call number i + 1 of the list; past its end, a count
--     memory_at m cs i       the memory after i calls
--     outcome_at m cs i      what call number i + 1 gives
--     event_of c o           what a call did, by what it gave
--     graph_of ns            the jobs and waits of the graph, by their keys
--     KeyedIn ns j k         the job j is in the graph, under the key k
--     present_in ns a b      a wait from a to b stands or is tentative
--     Explores m w u v       controller w explores from the v to the u that it found
--     stage_at m w           how far the operation of controller w is
--     run_of m cs            the run of a list of calls, as the history reads it
use Rattle.std.specs.Prelude.{◌≡◌, ℕ, zero, suc, ◌⊎◌, List, [], ◌∷◌, length, Some, None, Ok, Err, Option, Result}
use Rattle.std.specs.List.{slice_get}
use Rattle.std.specs.Result.{result_ok}
use Rattle.std.specs.declared.cmp.Ordering.{Ordering}
use Rattle.nodes.specs.declared.call.Call.{Call}
use Rattle.nodes.specs.declared.call.Call.TheVariants.{Start, Step, Collect, Count}
use Rattle.nodes.specs.declared.call.Outcome.{Outcome}
use Rattle.nodes.specs.declared.call.Outcome.TheVariants.{Started, Stepped, Collected, Counted}
use Rattle.nodes.specs.declared.call.StepOutcome.{StepOutcome}
use Rattle.nodes.specs.declared.call.StepOutcome as outcomes
use Rattle.nodes.specs.declared.call.StepOutcome.TheVariants.{Moved, Waiting}
use Rattle.nodes.specs.declared.controller.Controller.{Controller}
use Rattle.nodes.specs.declared.controller.Edit.{Edit}
use Rattle.nodes.specs.declared.controller.Edit.TheVariants.{AddJob, RemoveJob, AddWait, RemoveWait, Empty, Sweep}
use Rattle.nodes.specs.declared.controller.JobRef.{JobRef}
use Rattle.nodes.specs.declared.controller.Operation.{Operation}
use Rattle.nodes.specs.declared.controller.Phase.{Phase}
use Rattle.nodes.specs.declared.controller.Phase.TheVariants.{Idle, Find, Locate, LockFirst, LockSecond, Validate, Explore, Unlink, Unlock, NextJob, Finished}
use Rattle.nodes.specs.declared.controller.Then.{Then}
use Rattle.nodes.specs.declared.controller.Then as thens
use Rattle.nodes.specs.declared.controller.Then.TheVariants.{Finish, Again}
use Rattle.nodes.specs.declared.node.Node.{Node}
use Rattle.nodes.specs.declared.refusal.Refusal.{Refusal}
use Rattle.nodes.specs.declared.node.WaitState.TheVariants.{Tentative, Committed}
use Rattle.nodes.specs.Memory.{Memory}
use Rattle.nodes.specs.Operations.{operation_of}
use Rattle.rules.specs.Calls as calls
use Rattle.rules.specs.Graph.{graph_jobs, waits_in, key_at, free_nodes}
use Rattle.rules.specs.Runs.{called}
use Rattle.theory.specs.Lists.{In}
use Rattle.law.specs.History.{Graph, Request, Run, Event}
use Rattle.law.specs.History.{Event.started, Event.stepped, Event.finished, Event.collected, Event.other}
use Rattle.law.specs.Ledger.{Stage}
use Rattle.law.specs.Ledger.{Stage.rest, Stage.seek, Stage.bound, Stage.owed, Stage.done}

-- ---- what a call did

module _ {K : Type 0} where
  abbrev pub start_event : ℕ → Option Operation → K → K → Result Outcome Refusal → Event K
  start_event w None u v o = other
  start_event w (Some p) u v (Ok Started) = started w (record { operation = p; u = u; v = v })
  start_event w (Some p) u v (Ok (Stepped s)) = other
  start_event w (Some p) u v (Ok (Collected a)) = other
  start_event w (Some p) u v (Ok (Counted j n f)) = other
  start_event w (Some p) u v (Err r) = other

  abbrev pub moved_event : ℕ → StepOutcome → Event K
  moved_event w Moved = stepped w
  moved_event w Waiting = stepped w
  moved_event w outcomes.TheVariants.Finished = finished w

  abbrev pub step_event : ℕ → Result Outcome Refusal → Event K
  step_event w (Ok Started) = other
  step_event w (Ok (Stepped s)) = moved_event w s
  step_event w (Ok (Collected a)) = other
  step_event w (Ok (Counted j n f)) = other
  step_event w (Err r) = other

  abbrev pub collect_event : ℕ → Result Outcome Refusal → Event K
  collect_event w (Ok Started) = other
  collect_event w (Ok (Stepped s)) = other
  collect_event w (Ok (Collected a)) = collected w a
  collect_event w (Ok (Counted j n f)) = other
  collect_event w (Err r) = other

  abbrev pub event_of : Call K → Result Outcome Refusal → Event K
  event_of (Start w code u v) o = start_event w (operation_of code) u v o
  event_of (Step w) o = step_event w o
  event_of (Collect w) o = collect_event w o
  event_of Count o = other

  -- ---- the graph

  abbrev pub KeyedIn : List (Node K) → JobRef → K → Type 0
  KeyedIn ns j k = In j (graph_jobs ns) × (key_at ns j.node ≡ Some k)

  abbrev pub JobIn : List (Node K) → K → Type 0
  JobIn ns k = (j : JobRef) × In j (graph_jobs ns) × (key_at ns j.node ≡ Some k)

  pub record WaitIn (ns : List (Node K)) (a b : K) : Type 0 where
    pub from : JobRef
    pub to : JobRef
    pub wait : In (from, to) (waits_in Committed ns)
    pub source : key_at ns from.node ≡ Some a
    pub target : key_at ns to.node ≡ Some b

  abbrev pub graph_of : List (Node K) → Graph K
  graph_of ns = record { job = JobIn ns; wait = WaitIn ns }

  abbrev pub present_in : List (Node K) → JobRef → JobRef → Type 0
  present_in ns a b = In (a, b) (waits_in Committed ns) ⊎ In (a, b) (waits_in Tentative ns)

  pub record Explores (m : Memory K) (w : ℕ) (u v : JobRef) : Type 0 where
    pub controller : Controller K
    pub is : slice_get m.controllers w ≡ Some controller
    pub pair : ℕ × Option ℕ
    pub tentative : ℕ
    pub place : Option ℕ
    pub phase : controller.phase ≡ Explore u v pair tentative place

  -- ---- stages

  -- emptying and sweeping come after the change that a removal makes
  abbrev pub by_edit : Request K → Edit → Stage K
  by_edit q AddJob = seek q
  by_edit q RemoveJob = seek q
  by_edit q (AddWait u v) = seek q
  by_edit q (RemoveWait u v) = seek q
  by_edit q (Empty j) = bound q
  by_edit q (Sweep j at s) = bound q

  abbrev pub by_then : Request K → Then → Stage K
  by_then q (Finish a) = owed q a
  by_then q (Again e) = by_edit q e
  by_then q (thens.TheVariants.NextJob j at) = bound q

  abbrev pub by_phase : Request K → Phase → Stage K
  by_phase q Idle = rest
  by_phase q (Find l at) = seek q
  by_phase q (Locate e at) = by_edit q e
  by_phase q (LockFirst e p) = by_edit q e
  by_phase q (LockSecond e p) = by_edit q e
  by_phase q (Validate e p) = by_edit q e
  by_phase q (Explore u v p t at) = seek q
  by_phase q (Unlink p y t) = by_then q t
  by_phase q (Unlock p o t) = by_then q t
  by_phase q (NextJob j at) = bound q
  by_phase q (Finished a) = done q a

  abbrev pub by_operation : Controller K → Option Operation → Stage K
  by_operation c None = rest
  by_operation c (Some o) = by_phase (record { operation = o; u = c.u; v = c.v }) c.phase

  abbrev pub stage_of : Option (Controller K) → Stage K
  stage_of None = rest
  stage_of (Some c) = by_operation c c.operation

  abbrev pub stage_at : Memory K → ℕ → Stage K
  stage_at m w = stage_of (slice_get m.controllers w)

  -- ---- runs

  abbrev pub call_at : List (Call K) → ℕ → Call K
  call_at [] i = Count
  call_at (c ∷ cs) zero = c
  call_at (c ∷ cs) (suc i) = call_at cs i

  module _ (order : K → K → Ordering) where
    abbrev pub memory_at : Memory K → List (Call K) → ℕ → Memory K
    memory_at m cs zero = m
    memory_at m cs (suc i) = (called order (call_at cs i) (memory_at m cs i)).1

    abbrev pub outcome_at : Memory K → List (Call K) → ℕ → Result Outcome Refusal
    outcome_at m cs i = (called order (call_at cs i) (memory_at m cs i)).0

    abbrev pub event_at : Memory K → List (Call K) → ℕ → Event K
    event_at m cs zero = other
    event_at m cs (suc i) = event_of (call_at cs i) (outcome_at m cs i)

    abbrev pub run_of : Memory K → List (Call K) → Run K
    run_of m cs = record {
      event = event_at m cs;
      graph = λ i. graph_of (memory_at m cs i).nodes;
      present = λ i. present_in (memory_at m cs i).nodes;
      keyed = λ i. KeyedIn (memory_at m cs i).nodes;
      found = λ i. Explores (memory_at m cs i);
      free = λ i. length (free_nodes (memory_at m cs i));
      handing = λ i w. result_ok (calls.collected w (memory_at m cs i)).0;
    }
