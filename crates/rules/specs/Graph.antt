-- The graph of a board: which jobs are in, which waits stand, and which are tentative. Assumes nothing.
--     chain c f o             the nodes from o on along a chain of the kind c, at most f of them; none is damage
--     chain_behind c i        the nodes behind the sentinel i
--     refs ns l               the jobs among the nodes l that are not removed
--     graph_jobs ns           the jobs that are in: in the job chain, and not removed
--     ref_at js t g           the one of the jobs js whose node is t and whose generation is g
--     edges st js u l         the waits among the nodes l in the state st to one of the jobs js, as pairs from u
--     waits_in st ns          all waits of the graph in the state st: those committed stand
--     key_at i                the key of a node
--     free_nodes m            the numbers of the nodes that may be used again, from the highest down
use Rattle.std.specs.Prelude.{ℕ, zero, suc, Bool, true, false, cond, ◌&&◌, List, [], ◌∷◌, ◌++◌, length, Some, None, Option, ◌==◌}
use Rattle.nodes.specs.declared.controller.Controller.{Controller}
use Rattle.nodes.specs.declared.controller.JobRef.{JobRef}
use Rattle.nodes.specs.declared.node.Node.{Node}
use Rattle.nodes.specs.declared.node.Kind.{Kind}
use Rattle.nodes.specs.declared.node.Kind.TheVariants.{Vacant, Sentinel, Job, Wait}
use Rattle.nodes.specs.declared.node.WaitState.{WaitState}
use Rattle.nodes.specs.declared.node.WaitState.TheVariants.{Tentative, Committed, Removed}
use Rattle.nodes.specs.declared.traverse.Chain.{Chain}
use Rattle.nodes.specs.declared.traverse.Chain.TheVariants.{Jobs, Waits}
use Rattle.nodes.specs.Access.{◌>>=◌, when, node_at}
use Rattle.nodes.specs.Chains.{is_sentinel, in_chain}
use Rattle.nodes.specs.Memory.{Memory}
use Rattle.nodes.specs.Reuse.{reusable_at}
use Rattle.rules.specs.Find.{unremoved}

abbrev pub same_state : WaitState → WaitState → Bool
same_state Tentative Tentative = true
same_state Tentative Committed = false
same_state Tentative Removed = false
same_state Committed Tentative = false
same_state Committed Committed = true
same_state Committed Removed = false
same_state Removed Tentative = false
same_state Removed Committed = false
same_state Removed Removed = true

abbrev pub or_empty : {A : Type 0} → Option (List A) → List A
or_empty None = []
or_empty (Some l) = l

abbrev pub is_ref : ℕ → ℕ → JobRef → Bool
is_ref t g j = j.node == t && j.generation == g

abbrev pub ref_at : List JobRef → ℕ → ℕ → Option JobRef
ref_at [] t g = None
ref_at (j ∷ js) t g = cond (is_ref t g j) (Some j) (ref_at js t g)

-- the pair of u and the target of a wait, if the wait is in the state st and its target among the jobs
abbrev pub edge : WaitState → List JobRef → JobRef → Kind → Option (JobRef × JobRef)
edge st js u Vacant = None
edge st js u Sentinel = None
edge st js u (Job g s r) = None
edge st js u (Wait g t s) = when (same_state s st) (ref_at js t g >>= λ v. Some (u, v))

module _ {K : Type 0} where
  abbrev pub chain : List (Node K) → Chain → ℕ → Option ℕ → Option (List ℕ)
  chain ns c f None = Some []
  chain ns c zero (Some i) = None
  chain ns c (suc f) (Some i) = node_at ns i >>= λ x. when (in_chain c x.kind) (chain ns c f x.next >>= λ l. Some (i ∷ l))

  abbrev pub chain_behind : List (Node K) → Chain → ℕ → Option (List ℕ)
  chain_behind ns c i = node_at ns i >>= λ x. when (is_sentinel x.kind) (chain ns c (length ns) x.next)

  abbrev pub ref_of : List (Node K) → ℕ → Option JobRef
  ref_of ns i = node_at ns i >>= λ x. unremoved i x.kind

  abbrev pub refs : List (Node K) → List ℕ → List JobRef
  refs ns [] = []
  refs ns (i ∷ l) = elim (ref_of ns i) [ None ↦ refs ns l | Some j ↦ j ∷ refs ns l ]

  abbrev pub graph_jobs : List (Node K) → List JobRef
  graph_jobs ns = refs ns (or_empty (chain_behind ns Jobs 0))

  abbrev pub edge_at : WaitState → List (Node K) → List JobRef → JobRef → ℕ → Option (JobRef × JobRef)
  edge_at st ns js u i = node_at ns i >>= λ x. edge st js u x.kind

  abbrev pub edges : WaitState → List (Node K) → List JobRef → JobRef → List ℕ → List (JobRef × JobRef)
  edges st ns js u [] = []
  edges st ns js u (i ∷ l) = elim (edge_at st ns js u i) [ None ↦ edges st ns js u l | Some e ↦ e ∷ edges st ns js u l ]

  abbrev pub edges_from : WaitState → List (Node K) → List JobRef → List JobRef → List (JobRef × JobRef)
  edges_from st ns js [] = []
  edges_from st ns js (u ∷ us) = edges st ns js u (or_empty (chain_behind ns Waits u.sentinel)) ++ edges_from st ns js us

  abbrev pub waits_in : WaitState → List (Node K) → List (JobRef × JobRef)
  waits_in st ns = edges_from st ns (graph_jobs ns) (graph_jobs ns)

  abbrev pub key_at : List (Node K) → ℕ → Option K
  key_at ns i = node_at ns i >>= λ x. Some x.key

  abbrev pub free_below : List (Controller K) → List (Node K) → ℕ → List ℕ
  free_below cs ns zero = []
  free_below cs ns (suc b) = cond (reusable_at cs ns b) (b ∷ free_below cs ns b) (free_below cs ns b)

  abbrev pub free_nodes : Memory K → List ℕ
  free_nodes m = free_below m.controllers m.nodes (length m.nodes)
