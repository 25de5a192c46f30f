-- What the rules write to nodes. Each effect looks at the nodes that it names before it writes, and is
-- none where one is missing or of a wrong kind: that is damage. Assumes nothing.
--     lockable w l         a lock that is free, or held by w
--     lock w i             node i locked by controller w
--     try_lock w i         node i locked by w, or waiting where another holds it
--     unlock w p o         of the pair p and the other node o, those that w holds are unlocked
--     link_job p …         a new job and its sentinel, linked between the pair p
--     link_wait p …        a new tentative wait, locked by its maker, linked between the pair p
--     rewrite_kind f i     node i with what f makes of its kind
--     mark_removed i       the job or wait i is removed
--     commit i             the wait i is committed
--     unlink i j n         j, which follows i, leaves the chain with the retire number n
--     retire i n           the sentinel i leaves with the retire number n
--     written ns o         what a function over nodes answers, and the nodes after it
use Rattle.std.specs.Prelude.{ℕ, Bool, true, false, cond, ◌&&◌, List, length, Some, None, Ok, Err, Option, Result, ◌==◌, nat_lt, slice_set}
use Rattle.nodes.specs.declared.call.StepOutcome.{StepOutcome}
use Rattle.nodes.specs.declared.call.StepOutcome.TheVariants.{Moved, Waiting}
use Rattle.nodes.specs.declared.controller.JobRef.{JobRef}
use Rattle.nodes.specs.declared.node.Node.{Node}
use Rattle.nodes.specs.declared.node.Kind.{Kind}
use Rattle.nodes.specs.declared.node.Kind.TheVariants.{Vacant, Sentinel, Job, Wait}
use Rattle.nodes.specs.declared.node.WaitState.{WaitState}
use Rattle.nodes.specs.declared.node.WaitState.TheVariants.{Tentative, Committed, Removed}
use Rattle.nodes.specs.declared.refusal.Damage.{Damage}
use Rattle.nodes.specs.Access.{◌>>=◌, when, same_number, node_at, new_node, with_next, with_lock, with_kind, with_retired}
use Rattle.nodes.specs.Chains.{is_sentinel, heads, chain_of}

-- the kind of a wait in another state
abbrev pub with_state : WaitState → Kind → Option Kind
with_state state Vacant = None
with_state state Sentinel = None
with_state state (Job g s r) = None
with_state state (Wait g t s) = Some (Wait g t state)

abbrev pub removed_kind : Kind → Option Kind
removed_kind Vacant = None
removed_kind Sentinel = None
removed_kind (Job g s r) = Some (Job g s true)
removed_kind (Wait g t s) = Some (Wait g t Removed)

abbrev pub committed_kind : Kind → Option Kind
committed_kind kind = with_state Committed kind

abbrev pub lockable : ℕ → Option ℕ → Bool
lockable w None = true
lockable w (Some h) = h == w

module _ {K : Type 0} where
  abbrev pub written : List (Node K) → Option (List (Node K)) → Result (Unit {0}) Damage × List (Node K)
  written ns None = (Err (record {}), ns)
  written ns (Some ms) = (Ok tt, ms)

  abbrev pub lock : ℕ → ℕ → List (Node K) → Option (List (Node K))
  lock w i ns = node_at ns i >>= λ x. Some (slice_set ns i (with_lock x (Some w)))

  abbrev pub try_lock : ℕ → ℕ → List (Node K) → Result StepOutcome Damage × List (Node K)
  try_lock w i ns = elim (node_at ns i) [
    | None ↦ (Err (record {}), ns)
    | Some x ↦ cond (lockable w x.lock) (Ok Moved, slice_set ns i (with_lock x (Some w))) (Ok Waiting, ns)
  ]

  -- a number that is none, or below the number of nodes
  abbrev pub there : List (Node K) → Option ℕ → Bool
  there ns None = true
  there ns (Some i) = nat_lt i (length ns)

  abbrev pub unlock_one : ℕ → ℕ → List (Node K) → List (Node K)
  unlock_one w i ns = elim (node_at ns i) [ None ↦ ns | Some x ↦ cond (same_number x.lock (Some w)) (slice_set ns i (with_lock x None)) ns ]

  abbrev pub unlock_maybe : ℕ → Option ℕ → List (Node K) → List (Node K)
  unlock_maybe w None ns = ns
  unlock_maybe w (Some i) ns = unlock_one w i ns

  abbrev pub unlock : ℕ → ℕ × Option ℕ → Option ℕ → List (Node K) → Option (List (Node K))
  unlock w p o ns =
      when (there ns (Some p.0) && (there ns p.1 && there ns o)) (Some (unlock_maybe w o (unlock_maybe w p.1 (unlock_one w p.0 ns))))

  abbrev pub new_job : K → JobRef → Option ℕ → Node K
  new_job key j next = record { key = key; kind = Job j.generation j.sentinel false; next = next; lock = None; retired = None }

  abbrev pub new_sentinel : K → Node K
  new_sentinel key = new_node key Sentinel

  abbrev pub new_wait : K → ℕ → JobRef → Option ℕ → Node K
  new_wait key w v next = record { key = key; kind = Wait v.generation v.node Tentative; next = next; lock = Some w; retired = None }

  -- all three nodes must be there
  abbrev pub link_job : ℕ × Option ℕ → JobRef → K → List (Node K) → Option (List (Node K))
  link_job p j key ns =
      node_at ns p.0 >>= λ x. node_at ns j.node >>= λ _. node_at ns j.sentinel >>= λ _.
      Some (slice_set (slice_set (slice_set ns j.sentinel (new_sentinel key)) j.node (new_job key j p.1)) p.0 (with_next x (Some j.node)))

  abbrev pub link_wait : ℕ × Option ℕ → ℕ → K → ℕ → JobRef → List (Node K) → Option (List (Node K))
  link_wait p t key w v ns =
      node_at ns p.0 >>= λ x. node_at ns t >>= λ _.
      Some (slice_set (slice_set ns t (new_wait key w v p.1)) p.0 (with_next x (Some t)))

  abbrev pub rewrite_kind : (Kind → Option Kind) → ℕ → List (Node K) → Option (List (Node K))
  rewrite_kind becomes i ns = node_at ns i >>= λ x. becomes x.kind >>= λ k. Some (slice_set ns i (with_kind x k))

  abbrev pub mark_removed : ℕ → List (Node K) → Option (List (Node K))
  mark_removed i ns = rewrite_kind removed_kind i ns

  abbrev pub commit : ℕ → List (Node K) → Option (List (Node K))
  commit i ns = rewrite_kind committed_kind i ns

  abbrev pub unlink : ℕ → ℕ → ℕ → List (Node K) → Option (List (Node K))
  unlink i j n ns =
      node_at ns i >>= λ x. node_at ns j >>= λ y.
      chain_of y.kind >>= λ c. when (heads c x.kind) (Some (slice_set (slice_set ns i (with_next x y.next)) j (with_retired y n)))

  abbrev pub retire : ℕ → ℕ → List (Node K) → Option (List (Node K))
  retire i n ns = node_at ns i >>= λ x. when (is_sentinel x.kind) (Some (slice_set ns i (with_retired x n)))
