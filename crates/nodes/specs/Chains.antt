-- Kinds of node along chains, and one step of a traversal. Assumes nothing.
--     is_vacant, is_sentinel     what a node is
--     is_removed k        a job or a wait that is removed
--     in_chain c k        a node of the chain c, behind its sentinel
--     heads c k           a node of the chain c, or a sentinel
--     chain_of k          the chain in which a job or a wait stands
--     waits_for t g k     a wait to the node t and the generation g
--     job_ref i k         a job, by node, generation and sentinel
--     traversed c at w    what a step from the node at finds, where w is the key that is looked for
use Rattle.std.specs.Prelude.{ℕ, Bool, true, false, ◌&&◌, ◌||◌, List, Some, None, Option, ◌==◌}
use Rattle.std.specs.declared.cmp.Ordering.{Ordering}
use Rattle.std.specs.declared.cmp.Ordering.TheVariants.{Less, Equal, Greater}
use Rattle.nodes.specs.declared.controller.JobRef.{JobRef}
use Rattle.nodes.specs.declared.node.Node.{Node}
use Rattle.nodes.specs.declared.node.Kind.{Kind}
use Rattle.nodes.specs.declared.node.Kind.TheVariants.{Vacant, Sentinel, Job, Wait}
use Rattle.nodes.specs.declared.node.WaitState.{WaitState}
use Rattle.nodes.specs.declared.node.WaitState.TheVariants.{Tentative, Committed, Removed}
use Rattle.nodes.specs.declared.traverse.Chain.{Chain}
use Rattle.nodes.specs.declared.traverse.Chain.TheVariants.{Jobs, Waits}
use Rattle.nodes.specs.declared.traverse.Traversed.{Traversed}
use Rattle.nodes.specs.declared.traverse.Traversed.TheVariants.{Stand, Arrive}
use Rattle.nodes.specs.Access.{◌>>=◌, when, node_at}

abbrev pub is_vacant : Kind → Bool
is_vacant Vacant = true
is_vacant Sentinel = false
is_vacant (Job g s r) = false
is_vacant (Wait g t s) = false

abbrev pub is_sentinel : Kind → Bool
is_sentinel Vacant = false
is_sentinel Sentinel = true
is_sentinel (Job g s r) = false
is_sentinel (Wait g t s) = false

abbrev pub is_removed_state : WaitState → Bool
is_removed_state Tentative = false
is_removed_state Committed = false
is_removed_state Removed = true

abbrev pub is_removed : Kind → Bool
is_removed Vacant = false
is_removed Sentinel = false
is_removed (Job g s r) = r
is_removed (Wait g t s) = is_removed_state s

abbrev pub in_chain : Chain → Kind → Bool
in_chain c Vacant = false
in_chain c Sentinel = false
in_chain Jobs (Job g s r) = true
in_chain Waits (Job g s r) = false
in_chain Jobs (Wait g t s) = false
in_chain Waits (Wait g t s) = true

abbrev pub heads : Chain → Kind → Bool
heads c k = is_sentinel k || in_chain c k

abbrev pub chain_of : Kind → Option Chain
chain_of Vacant = None
chain_of Sentinel = None
chain_of (Job g s r) = Some Jobs
chain_of (Wait g t s) = Some Waits

abbrev pub waits_for : ℕ → ℕ → Kind → Bool
waits_for node generation Vacant = false
waits_for node generation Sentinel = false
waits_for node generation (Job g s r) = false
waits_for node generation (Wait g t s) = t == node && g == generation

abbrev pub job_ref : ℕ → Kind → Option JobRef
job_ref i Vacant = None
job_ref i Sentinel = None
job_ref i (Job g s r) = Some (record { node = i; generation = g; sentinel = s })
job_ref i (Wait g t s) = None

abbrev pub by_order : Ordering → ℕ → ℕ → Traversed
by_order Less at n = Stand n
by_order Equal at n = Arrive (at, Some n)
by_order Greater at n = Arrive (at, Some n)

module _ {K : Type 0} (order : K → K → Ordering) where
  abbrev pub onto : List (Node K) → Chain → ℕ → K → Option ℕ → Option Traversed
  onto ns c at wanted None = Some (Arrive (at, None))
  onto ns c at wanted (Some n) = node_at ns n >>= λ y. when (in_chain c y.kind) (Some (by_order (order y.key wanted) at n))

  abbrev pub traversed : List (Node K) → Chain → ℕ → K → Option Traversed
  traversed ns c at wanted = node_at ns at >>= λ x. when (heads c x.kind) (onto ns c at wanted x.next)
