-- The calls on a board: what each answers, and the memory after it, on any memory. Assumes nothing.
--     started w c u v m     start: controller w is given the operation of the code c with the keys u and v
--     stepped w m           step: controller w takes one step
--     collected w m         collect: the answer of controller w is handed over, and it is idle
--     counted m             count: jobs and waits of the graph, and nodes free to be used
--     A refusal leaves the memory as it was. Each check is a definition by_… that takes what it looks at; a call names
--     its first check, and each check the next, so they are read from the call upwards:
--     start: size, controller, idle, operation, ticket; step: size, controller, running, decision, nodes;
--     collect: size, controller, answer; count: size, count
use Rattle.std.specs.Prelude.{ℕ, ◌+◌, Bool, true, false, not, ◌&&◌, List, [], ◌∷◌, length, Some, None, Ok, Err, Option, Result, ◌==◌, nat_lt, slice_set}
use Rattle.std.specs.List.{slice_get}
use Rattle.std.specs.declared.cmp.Ordering.{Ordering}
use Rattle.nodes.specs.declared.call.StepOutcome.{StepOutcome}
use Rattle.nodes.specs.declared.call.StepOutcome as outcomes
use Rattle.nodes.specs.declared.call.StepOutcome.TheVariants.{Moved, Waiting}
use Rattle.nodes.specs.declared.controller.Answer.{Answer}
use Rattle.nodes.specs.declared.controller.Controller.{Controller}
use Rattle.nodes.specs.declared.controller.Edit as edits
use Rattle.nodes.specs.declared.controller.JobRef.{JobRef}
use Rattle.nodes.specs.declared.controller.Goal as goals
use Rattle.nodes.specs.declared.controller.Goal.TheVariants.{First}
use Rattle.nodes.specs.declared.controller.Operation.{Operation}
use Rattle.nodes.specs.declared.controller.Operation.TheVariants.{AddJob, RemoveJob, HasJob, AddWait, RemoveWait, HasWait}
use Rattle.nodes.specs.declared.controller.Phase.{Phase}
use Rattle.nodes.specs.declared.controller.Phase.TheVariants.{Idle, Find, Locate, LockFirst, LockSecond, Validate, Explore, Unlink, Unlock, NextJob, Finished}
use Rattle.nodes.specs.declared.controller.WaitAction.TheVariants.{Add, Remove, Has}
use Rattle.nodes.specs.declared.node.Node.{Node}
use Rattle.nodes.specs.declared.node.Kind.{Kind}
use Rattle.nodes.specs.declared.node.Kind.TheVariants.{Vacant, Sentinel, Job, Wait}
use Rattle.nodes.specs.declared.node.WaitState.TheVariants.{Tentative, Committed, Removed}
use Rattle.nodes.specs.declared.refusal.Refusal.{Refusal}
use Rattle.nodes.specs.declared.refusal.Refusal.TheVariants.{Misfit, Nobody, Busy, Unknown, WornOut, Resting, Unfinished, Damage}
use Rattle.nodes.specs.declared.traverse.Chain.TheVariants.{Jobs, Waits}
use Rattle.nodes.specs.Access.{◌>>=◌, when, node_at}
use Rattle.nodes.specs.Memory.{Memory, fits}
use Rattle.nodes.specs.Operations.{operation_of}
use Rattle.nodes.specs.Reuse.{is_running, reusable_count}
use Rattle.rules.specs.declared.decision.Decision.{Decision}
use Rattle.rules.specs.declared.decision.Decision.TheVariants.{Blocked, Take}
use Rattle.rules.specs.declared.decision.Marking.{Marking}
use Rattle.rules.specs.Decide.{decide}
use Rattle.rules.specs.Graph.{chain_behind, refs, edges}
use Rattle.rules.specs.Write.{applied, marked}

-- where an operation begins
abbrev pub first_phase : Operation → Phase
first_phase AddJob = Locate edits.TheVariants.AddJob 0
first_phase RemoveJob = Locate edits.TheVariants.RemoveJob 0
first_phase HasJob = Find goals.TheVariants.HasJob 0
first_phase AddWait = Find (First Add) 0
first_phase RemoveWait = Find (First Remove) 0
first_phase HasWait = Find (First Has) 0

-- the answer of an operation that is finished
abbrev pub answer_of : Phase → Option Answer
answer_of Idle = None
answer_of (Find l at) = None
answer_of (Locate e at) = None
answer_of (LockFirst e p) = None
answer_of (LockSecond e p) = None
answer_of (Validate e p) = None
answer_of (Explore u v p t at) = None
answer_of (Unlink p y t) = None
answer_of (Unlock p o t) = None
answer_of (NextJob j at) = None
answer_of (Finished a) = Some a

-- no operation runs, and none waits to be collected
abbrev pub is_idle : Phase → Bool
is_idle p = elim (answer_of p) [ None ↦ not (is_running p) | Some a ↦ false ]

-- what a step answers that goes on to a phase
abbrev pub outcome_to : Phase → StepOutcome
outcome_to p = elim (answer_of p) [ None ↦ Moved | Some a ↦ outcomes.TheVariants.Finished ]

-- a call's answer, and the memory after it
abbrev pub ResultOf : Type 0 → Type 0 → Type 0
ResultOf R K = Result R Refusal × Memory K

module _ {K : Type 0} where
  abbrev pub refused : {R : Type 0} → Memory K → Refusal → ResultOf R K
  refused m r = (Err r, m)

  -- is there such a controller
  abbrev pub by_controller : {R : Type 0} → Memory K → (Controller K → ResultOf R K) → Option (Controller K) → ResultOf R K
  by_controller m go None = refused m Nobody
  by_controller m go (Some c) = go c

  -- are the sizes those of a board
  abbrev pub by_size : {R : Type 0} → Memory K → ℕ → (Controller K → ResultOf R K) → Bool → ResultOf R K
  by_size m w go false = refused m Misfit
  by_size m w go true = by_controller m go (slice_get m.controllers w)

  -- the first two checks of every call for a controller
  abbrev pub for_controller : {R : Type 0} → Memory K → ℕ → (Controller K → ResultOf R K) → ResultOf R K
  for_controller m w go = by_size m w go (fits m)

  abbrev pub with_phase : Controller K → Phase → Controller K
  with_phase c p = record { operation = c.operation; u = c.u; v = c.v; ticket = c.ticket; phase = p }

  abbrev pub with_controller : Memory K → ℕ → Controller K → List (Node K) → List ℕ → Memory K
  with_controller m w c ns ms = record { header = m.header; nodes = ns; controllers = slice_set m.controllers w c; marks = ms }

  -- ---- start

  abbrev pub begin : Memory K → ℕ → Operation → K → K → Memory K
  begin m w o u v = record {
    header = record { next_ticket = m.header.next_ticket + 1 };
    nodes = m.nodes;
    controllers = slice_set m.controllers w (record { operation = Some o; u = u; v = v; ticket = m.header.next_ticket; phase = first_phase o });
    marks = m.marks;
  }

  -- is the next ticket the last
  abbrev pub by_ticket : Memory K → ℕ → Operation → K → K → Bool → ResultOf (Unit {0}) K
  by_ticket m w o u v true = refused m WornOut
  by_ticket m w o u v false = (Ok tt, begin m w o u v)

  -- does the code ask for an operation
  abbrev pub by_operation : Memory K → ℕ → K → K → Option Operation → ResultOf (Unit {0}) K
  by_operation m w u v None = refused m Unknown
  by_operation m w u v (Some o) = by_ticket m w o u v (m.header.next_ticket == 4294967295)

  -- is the controller idle
  abbrev pub by_idle : Memory K → ℕ → ℕ → K → K → Bool → ResultOf (Unit {0}) K
  by_idle m w code u v false = refused m Busy
  by_idle m w code u v true = by_operation m w u v (operation_of code)

  unfoldable pub started : ℕ → ℕ → K → K → Memory K → ResultOf (Unit {0}) K
  started w code u v m = for_controller m w (λ c. by_idle m w code u v (is_idle c.phase))

  -- ---- step

  -- could the effect be written
  abbrev pub by_nodes : Memory K → ℕ → Controller K → Marking → Phase → Option (List (Node K)) → ResultOf StepOutcome K
  by_nodes m w c k p None = refused m Damage
  by_nodes m w c k p (Some ns) = (Ok (outcome_to p), with_controller m w (with_phase c p) ns (marked (length m.nodes) w k m.marks))

  -- what was decided, or damage
  abbrev pub by_decision : Memory K → ℕ → Controller K → Option (Decision K) → ResultOf StepOutcome K
  by_decision m w c None = refused m Damage
  by_decision m w c (Some Blocked) = (Ok Waiting, m)
  by_decision m w c (Some (Take e k p)) = by_nodes m w c k p (applied w m.header.next_ticket e m.nodes)

  -- does an operation run
  abbrev pub by_running : (K → K → Ordering) → Memory K → ℕ → Controller K → Bool → ResultOf StepOutcome K
  by_running order m w c false = refused m Resting
  by_running order m w c true = by_decision m w c (decide order m w c c.phase)

  unfoldable pub stepped : (K → K → Ordering) → ℕ → Memory K → ResultOf StepOutcome K
  stepped order w m = for_controller m w (λ c. by_running order m w c (is_running c.phase))

  -- ---- collect

  -- has an operation finished
  abbrev pub by_answer : Memory K → ℕ → Controller K → Option Answer → ResultOf Answer K
  by_answer m w c None = refused m Unfinished
  by_answer m w c (Some a) = (Ok a, with_controller m w (with_phase c Idle) m.nodes m.marks)

  unfoldable pub collected : ℕ → Memory K → ResultOf Answer K
  collected w m = for_controller m w (λ c. by_answer m w c (answer_of c.phase))

  -- ---- count

  -- the target of a committed wait must be a node number
  abbrev pub target_there : List (Node K) → Kind → Bool
  target_there ns Vacant = true
  target_there ns Sentinel = true
  target_there ns (Job g s r) = true
  target_there ns (Wait g t Tentative) = true
  target_there ns (Wait g t Committed) = nat_lt t (length ns)
  target_there ns (Wait g t Removed) = true

  abbrev pub targets_there : List (Node K) → List ℕ → Option Bool
  targets_there ns [] = Some true
  targets_there ns (i ∷ l) = node_at ns i >>= λ x. targets_there ns l >>= λ b. Some (target_there ns x.kind && b)

  -- how many waits that stand lead from the jobs us; none is damage
  abbrev pub count_waits : List (Node K) → List JobRef → List JobRef → Option ℕ
  count_waits ns js [] = Some 0
  count_waits ns js (u ∷ us) =
      chain_behind ns Waits u.sentinel >>= λ l. targets_there ns l >>= λ b. when b (count_waits ns js us >>= λ n.
      Some (length (edges Committed ns js u l) + n))

  abbrev pub count_all : Memory K → Option (ℕ × ℕ × ℕ)
  count_all m =
      chain_behind m.nodes Jobs 0 >>= λ l.
      count_waits m.nodes (refs m.nodes l) (refs m.nodes l) >>= λ n.
      Some (length (refs m.nodes l), n, reusable_count m.controllers m.nodes (length m.nodes))

  -- could all chains be counted
  abbrev pub by_count : Memory K → Option (ℕ × ℕ × ℕ) → ResultOf (ℕ × ℕ × ℕ) K
  by_count m None = refused m Damage
  by_count m (Some n) = (Ok n, m)

  -- are the sizes those of a board
  abbrev pub count_by_size : Memory K → Bool → ResultOf (ℕ × ℕ × ℕ) K
  count_by_size m false = refused m Misfit
  count_by_size m true = by_count m (count_all m)

  unfoldable pub counted : Memory K → ResultOf (ℕ × ℕ × ℕ) K
  counted m = count_by_size m (fits m)
