-- Find: a traversal without locks, for has job and has wait, and for the two jobs of a wait. Assumes nothing.
--     goal_chain l        the chain that is traversed
--     goal_key c l        the key that is looked for
--     found s w             the job at the second node s of a pair, if its key is w and it is not removed
--     on_job, on_first, on_second     how it goes on with the job that was found, or with none
--     gone j                whether a job that was found is removed by now
--     stands_at s v         the second node s of a pair is a committed wait to v
--     find c l at           a step for the goal l, standing on the node at
use Rattle.std.specs.Prelude.{ℕ, Bool, true, false, cond, not, ◌&&◌, List, Some, None, Option}
use Rattle.std.specs.declared.cmp.Ordering.{Ordering}
use Rattle.nodes.specs.declared.controller.Controller.{Controller}
use Rattle.nodes.specs.declared.controller.JobRef.{JobRef}
use Rattle.nodes.specs.declared.controller.Phase.{Phase}
use Rattle.nodes.specs.declared.node.Node.{Node}
use Rattle.std.specs.Ordering.{is_eq}
use Rattle.nodes.specs.declared.controller.Answer.TheVariants.{Yes, No}
use Rattle.nodes.specs.declared.controller.Edit.TheVariants.{AddWait, RemoveWait}
use Rattle.nodes.specs.declared.controller.Goal.{Goal}
use Rattle.nodes.specs.declared.controller.Goal.TheVariants.{HasJob, First, Second, HasWait}
use Rattle.nodes.specs.declared.controller.Phase.TheVariants.{Find, Locate, Finished}
use Rattle.nodes.specs.declared.controller.WaitAction.{WaitAction}
use Rattle.nodes.specs.declared.controller.WaitAction.TheVariants.{Add, Remove, Has}
use Rattle.nodes.specs.declared.node.Kind.{Kind}
use Rattle.nodes.specs.declared.node.Kind.TheVariants.{Vacant, Sentinel, Job, Wait}
use Rattle.nodes.specs.declared.node.WaitState.TheVariants.{Tentative, Committed, Removed}
use Rattle.nodes.specs.declared.traverse.Chain.{Chain}
use Rattle.nodes.specs.declared.traverse.Chain.TheVariants.{Jobs, Waits}
use Rattle.nodes.specs.declared.traverse.Traversed.TheVariants.{Stand, Arrive}
use Rattle.nodes.specs.Access.{◌>>=◌, node_at}
use Rattle.nodes.specs.Chains.{job_ref, is_removed, waits_for, traversed}
use Rattle.rules.specs.declared.decision.Decision.{Decision}
use Rattle.rules.specs.Write.{moves}

abbrev pub goal_chain : Goal → Chain
goal_chain HasJob = Jobs
goal_chain (First a) = Jobs
goal_chain (Second a u) = Jobs
goal_chain (HasWait u v) = Waits

abbrev pub goal_key : {K : Type 0} → Controller K → Goal → K
goal_key c HasJob = c.u
goal_key c (First a) = c.u
goal_key c (Second a u) = c.v
goal_key c (HasWait u v) = c.v

-- the two jobs are found: the wait is looked up, or located to be changed
abbrev pub on_wait : WaitAction → JobRef → JobRef → Phase
on_wait Add u v = Locate (AddWait u v) u.sentinel
on_wait Remove u v = Locate (RemoveWait u v) u.sentinel
on_wait Has u v = Find (HasWait u v) u.sentinel

abbrev pub on_job : Option JobRef → Phase
on_job None = Finished No
on_job (Some j) = Finished Yes

abbrev pub on_first : WaitAction → Option JobRef → Phase
on_first a None = Finished No
on_first a (Some u) = Find (Second a u) 0

abbrev pub on_second : WaitAction → JobRef → Option JobRef → Phase
on_second a u None = Finished No
on_second a u (Some v) = on_wait a u v

-- the job, unless it is removed
abbrev pub unremoved : ℕ → Kind → Option JobRef
unremoved i k = cond (is_removed k) None (job_ref i k)

abbrev pub is_committed : Kind → Bool
is_committed Vacant = false
is_committed Sentinel = false
is_committed (Job g s r) = false
is_committed (Wait g t Tentative) = false
is_committed (Wait g t Committed) = true
is_committed (Wait g t Removed) = false

module _ {K : Type 0} where
  abbrev pub gone : List (Node K) → JobRef → Option Bool
  gone ns j = node_at ns j.node >>= λ x. job_ref j.node x.kind >>= λ _. Some (is_removed x.kind)

  abbrev pub stands_at : List (Node K) → Option ℕ → JobRef → Option Bool
  stands_at ns None v = Some false
  stands_at ns (Some n) v = node_at ns n >>= λ y. Some (is_committed y.kind && waits_for v.node v.generation y.kind)

  abbrev pub has_wait : List (Node K) → JobRef → JobRef → Option ℕ → Option Phase
  has_wait ns u v s =
      gone ns u >>= λ a. gone ns v >>= λ b. stands_at ns s v >>= λ t.
      Some (Finished (cond (not a && (not b && t)) Yes No))

  module _ (order : K → K → Ordering) where
    abbrev pub is_key : List (Node K) → Option ℕ → K → Option Bool
    is_key ns None w = Some false
    is_key ns (Some n) w = node_at ns n >>= λ y. Some (is_eq (order y.key w))

    abbrev pub found : List (Node K) → Option ℕ → K → Option (Option JobRef)
    found ns None w = Some None
    found ns (Some n) w = node_at ns n >>= λ y. Some (cond (is_eq (order y.key w)) (unremoved n y.kind) None)

    -- what the arriving step finds at the second node of its pair
    abbrev pub arrived : List (Node K) → Controller K → Goal → Option ℕ → Option Phase
    arrived ns c HasJob s = found ns s c.u >>= λ o. Some (on_job o)
    arrived ns c (First a) s = found ns s c.u >>= λ o. Some (on_first a o)
    arrived ns c (Second a u) s = found ns s c.v >>= λ o. Some (on_second a u o)
    arrived ns c (HasWait u v) s = has_wait ns u v s

    unfoldable pub find : List (Node K) → Controller K → Goal → ℕ → Option (Decision K)
    find ns c l at =
        traversed order ns (goal_chain l) at (goal_key c l) >>= λ t.
        elim t [ Stand n ↦ moves (Find l n) | Arrive p ↦ arrived ns c l p.1 >>= λ q. moves q ]
