-- The law over runs: what is promised of every run, promise by promise. Stated; `docs/LAW.md` says what is proved of it.
-- A run is a list of calls on a board fresh from set-up: calls have the numbers 1, 2, 3, .., and 0 is set-up. Assumes nothing.
--     keys_of ns l            the keys of the nodes l
--     chain_kind i            the chain that hangs from the sentinel i: the jobs from node 0, waits from any other
--     runs_at, all_idle       an operation runs at a controller; every controller is idle
--     NoCircle ns             standing waits close no circle
--     KeysRise ns             node 0 is a sentinel in use; from each of these a chain goes to none, and keys rise along it
--     CountExact m            count gives N - 1 - 2 × jobs - waits free nodes
--     steps_since c s n       how many of the calls after s and up to n are steps taken at controller c
--     FinishesAlone w m a     controller w, stepped alone from m on, finishes, with the answer a
--     ByTable G f q a         a is the answer that the table gives to the request q, in the graph G with f nodes free
--     Law                     the promises, for one kind, board and list of calls
--     Lawful                  all of them, for a kind with its laws, every memory that fits, first ticket and list of calls
use Rattle.std.specs.Prelude.{◌≡◌, ℕ, zero, suc, ◌+◌, ◌*◌, ◌<◌, ◌≤◌, true, false, ◌⊎◌, List, [], ◌∷◌, length, Some, None, Ok, Err, ◌==◌, ◌≢◌, nat_le}
use Rattle.std.specs.List.{slice_get}
use Rattle.std.specs.declared.cmp.Ordering.{Ordering}
use Rattle.order.specs.Lists.{rising}
use Rattle.order.specs.Orders.{OrderLaws}
use Rattle.nodes.specs.declared.call.Call.{Call}
use Rattle.nodes.specs.declared.call.Call.TheVariants.{Step}
use Rattle.nodes.specs.declared.call.Outcome.TheVariants.{Stepped}
use Rattle.nodes.specs.declared.call.StepOutcome.TheVariants.{Moved, Waiting, Finished}
use Rattle.nodes.specs.declared.controller.Answer.{Answer}
use Rattle.nodes.specs.declared.controller.Answer.TheVariants.{Yes, No, Circle, Full}
use Rattle.nodes.specs.declared.controller.Controller.{Controller}
use Rattle.nodes.specs.declared.controller.JobRef.{JobRef}
use Rattle.nodes.specs.declared.controller.Operation.{Operation}
use Rattle.nodes.specs.declared.controller.Operation.TheVariants.{AddJob, RemoveJob, HasJob, AddWait, RemoveWait, HasWait}
use Rattle.nodes.specs.declared.node.Node.{Node}
use Rattle.nodes.specs.declared.node.Kind.TheVariants.{Sentinel}
use Rattle.nodes.specs.declared.node.WaitState.TheVariants.{Committed}
use Rattle.nodes.specs.declared.refusal.Refusal.TheVariants.{Damage}
use Rattle.nodes.specs.declared.traverse.Chain.{Chain}
use Rattle.nodes.specs.declared.traverse.Chain.TheVariants.{Jobs, Waits}
use Rattle.nodes.specs.Access.{node_at}
use Rattle.nodes.specs.Memory.{Memory, fits, fresh}
use Rattle.nodes.specs.Operations.{code_of}
use Rattle.nodes.specs.Reuse.{is_running}
use Rattle.rules.specs.Calls as calls
use Rattle.rules.specs.Calls.{is_idle}
use Rattle.rules.specs.Graph.{chain_behind, waits_in, free_nodes}
use Rattle.theory.specs.Lists.{In}
use Rattle.theory.specs.Ways.{Acyclic}
use Rattle.law.specs.History.{Graph, Request, Closes, Event, Run, Op, Entry, latest, Ends, Running, History, Behind}
use Rattle.law.specs.History.{Event.started, Event.stepped, Event.finished, Event.collected, Event.other}
use Rattle.law.specs.Readings.{graph_of, call_at, memory_at, outcome_at, run_of}

abbrev pub chain_kind : ℕ → Chain
chain_kind zero = Jobs
chain_kind (suc i) = Waits

-- has job and has wait
abbrev pub IsLookup : Operation → Type 0
IsLookup AddJob = ⊥
IsLookup RemoveJob = ⊥
IsLookup HasJob = Unit {0}
IsLookup AddWait = ⊥
IsLookup RemoveWait = ⊥
IsLookup HasWait = Unit {0}

module _ {K : Type 0} where
  -- ---- what holds of a board

  abbrev pub keys_of : List (Node K) → List ℕ → List K
  keys_of ns [] = []
  keys_of ns (i ∷ l) = elim (node_at ns i) [ None ↦ keys_of ns l | Some x ↦ x.key ∷ keys_of ns l ]

  abbrev pub runs_at : Memory K → ℕ → Type 0
  runs_at m w = (c : Controller K) × (slice_get m.controllers w ≡ Some c) × (is_running c.phase ≡ true)

  abbrev pub all_idle : Memory K → Type 0
  all_idle m = (w : ℕ) (c : Controller K) → slice_get m.controllers w ≡ Some c → is_idle c.phase ≡ true

  abbrev pub nothing_runs : Memory K → Type 0
  nothing_runs m = (w : ℕ) → runs_at m w → ⊥

  abbrev pub NoCircle : List (Node K) → Type 0
  NoCircle ns = Acyclic (λ (a : JobRef) b. In (a, b) (waits_in Committed ns))

  -- node 0 is a sentinel in use
  abbrev pub MainSentinel : List (Node K) → Type 0
  MainSentinel ns = (x : Node K) × (node_at ns 0 ≡ Some x) × (x.kind ≡ Sentinel) × (x.retired ≡ None)

  abbrev pub KeysRise : (K → K → Ordering) → List (Node K) → Type 0
  KeysRise order ns =
      MainSentinel ns × (
      (i : ℕ) (x : Node K) → node_at ns i ≡ Some x → x.kind ≡ Sentinel → x.retired ≡ None →
      (l : List ℕ) × (chain_behind ns (chain_kind i) i ≡ Some l) × (rising order (keys_of ns l) ≡ true))

  abbrev pub CountExact : Memory K → Type 0
  CountExact m = (jobs waits free : ℕ) × (calls.counted m ≡ (Ok (jobs, waits, free), m)) × (free + (1 + (2 * jobs + waits)) ≡ length m.nodes)

  -- ---- an operation alone

  -- steps of controller w that all move, the last of which finishes
  pub data FinishesAlone (order : K → K → Ordering) (w : ℕ) : Memory K → Answer → Type 0 where
    last : {m n o : Memory K} {a : Answer} → calls.stepped order w m ≡ (Ok Finished, n) → calls.collected w n ≡ (Ok a, o) → FinishesAlone order w m a
    more : {m n : Memory K} {a : Answer} → calls.stepped order w m ≡ (Ok Moved, n) → FinishesAlone order w n a → FinishesAlone order w m a

  abbrev pub ByTable : Graph K → ℕ → Request K → Answer → Type 0
  ByTable G free q a =
      let u = q.u in let v = q.v in
      let both = G.job u × G.job v in
      let missing = (G.job u → ⊥) ⊎ (G.job v → ⊥) in
      elim q.operation [
        | AddJob ↦ ((a ≡ Yes) × (G.job u ⊎ (2 ≤ free))) ⊎ ((a ≡ Full) × (G.job u → ⊥) × (free < 2))
        | RemoveJob ↦ ((a ≡ Yes) × G.job u) ⊎ ((a ≡ No) × (G.job u → ⊥))
        | HasJob ↦ ((a ≡ Yes) × G.job u) ⊎ ((a ≡ No) × (G.job u → ⊥))
        | AddWait ↦
            ((a ≡ No) × missing)
            ⊎ (((a ≡ Yes) × both × G.wait u v)
            ⊎ (((a ≡ Full) × both × (G.wait u v → ⊥) × (free < 1))
            ⊎ (((a ≡ Circle) × both × (G.wait u v → ⊥) × (1 ≤ free) × Closes G u v)
            ⊎ ((a ≡ Yes) × both × (G.wait u v → ⊥) × (1 ≤ free) × (Closes G u v → ⊥)))))
        | RemoveWait ↦ ((a ≡ Yes) × both) ⊎ ((a ≡ No) × missing)
        | HasWait ↦ ((a ≡ Yes) × G.wait u v) ⊎ ((a ≡ No) × (G.wait u v → ⊥))
      ]

  abbrev pub Alone : (K → K → Ordering) → Memory K → Type 0
  Alone order m =
      (w : ℕ) (o : Operation) (u v : K) (n : Memory K) → calls.started w (code_of o) u v m ≡ (Ok tt, n) →
      (a : Answer) × FinishesAlone order w n a × ByTable (graph_of m.nodes) (length (free_nodes m)) (record { operation = o; u = u; v = v }) a

  -- ---- own steps

  abbrev pub one_step : ℕ → Event K → ℕ
  one_step c (started d q) = 0
  one_step c (stepped d) = elim (c == d) [ true ↦ 1 | false ↦ 0 ]
  one_step c (finished d) = elim (c == d) [ true ↦ 1 | false ↦ 0 ]
  one_step c (collected d a) = 0
  one_step c other = 0

  abbrev pub steps_since : Run K → ℕ → ℕ → ℕ → ℕ
  steps_since r c s zero = 0
  steps_since r c s (suc n) = elim (nat_le (suc n) s) [ true ↦ 0 | false ↦ one_step c (r.event (suc n)) + steps_since r c s n ]

  -- ---- the promises

  pub record Promises (order : K → K → Ordering) (m : Memory K) (cs : List (Call K)) : Type 0 where
    -- soundness, after every call
    pub standing_waits_close_no_circle : (n : ℕ) → n ≤ length cs → NoCircle (memory_at order m cs n).nodes
    pub keys_rise_along_chains : (n : ℕ) → n ≤ length cs → KeysRise order (memory_at order m cs n).nodes
    pub no_outcome_is_damage : (n : ℕ) → n < length cs → outcome_at order m cs n ≢ Err Damage
    pub free_count_is_exact : (n : ℕ) → n ≤ length cs → nothing_runs (memory_at order m cs n) → CountExact (memory_at order m cs n)
    -- history
    pub history_explains_the_run : (h : List (Entry K)) × History (run_of order m cs) (length cs) h
    -- witness
    pub row_behind_each_circle :
        (o : Op K) (j : ℕ) → j ≤ length cs → Ends (run_of order m cs) o j → (run_of order m cs).handing j o.by ≡ Some Circle →
        (o.request.u ≢ o.request.v) → Behind (run_of order m cs) o.request o.by o.start j
    -- progress
    pub some_running_operation_would_not_wait :
        (n : ℕ) → n ≤ length cs → (w : ℕ) → runs_at (memory_at order m cs n) w →
        (v : ℕ) × runs_at (memory_at order m cs n) v × ((calls.stepped order v (memory_at order m cs n)).0 ≢ Ok Waiting)
    pub lookups_never_wait :
        (n w : ℕ) (o : Op K) → n < length cs → call_at cs n ≡ Step w → latest (run_of order m cs) w n ≡ Some o → IsLookup o.request.operation →
        outcome_at order m cs n ≢ Ok (Stepped Waiting)
    pub lookups_finish_in_time :
        (n : ℕ) (o : Op K) → n ≤ length cs → IsLookup o.request.operation →
        (Running (run_of order m cs) n o → steps_since (run_of order m cs) o.by o.start n < 3 * length m.nodes)
        × (Ends (run_of order m cs) o n → steps_since (run_of order m cs) o.by o.start n ≤ 3 * length m.nodes)
    -- alone
    pub alone_by_the_table : (n : ℕ) → n ≤ length cs → all_idle (memory_at order m cs n) → Alone order (memory_at order m cs n)

  abbrev pub Law : (K → K → Ordering) → ℕ → Memory K → List (Call K) → Type 0
  Law order first m cs = Promises order (fresh first m) cs

abbrev pub Lawful : {K : Type 0} → (K → K → Ordering) → Type 0
Lawful {K} order = OrderLaws order → (first : ℕ) (m : Memory K) (cs : List (Call K)) → 1 ≤ first → fits m ≡ true → Law order first m cs
