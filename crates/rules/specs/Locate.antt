-- Locate: a traversal to the pair of neighbours that is to be locked. Assumes nothing.
--     edit_chain e        the chain in which the pair stands
--     edit_key c e        the key around which it is located
--     home e              the sentinel at which the traversal begins, and begins again
--     locate c e at       a step of the edit e, standing on the node at
--     next_job j at       the step from one job to the next, while the waits to the job j are swept up
use Rattle.std.specs.Prelude.{ℕ, List, Some, None, Option}
use Rattle.std.specs.declared.cmp.Ordering.{Ordering}
use Rattle.nodes.specs.declared.controller.Controller.{Controller}
use Rattle.nodes.specs.declared.controller.JobRef.{JobRef}
use Rattle.nodes.specs.declared.node.Node.{Node}
use Rattle.nodes.specs.declared.controller.Answer.TheVariants.{Yes}
use Rattle.nodes.specs.declared.controller.Edit.{Edit}
use Rattle.nodes.specs.declared.controller.Edit.TheVariants.{AddJob, RemoveJob, AddWait, RemoveWait, Empty, Sweep}
use Rattle.nodes.specs.declared.controller.Phase.TheVariants.{Locate, LockFirst, NextJob, Finished}
use Rattle.nodes.specs.declared.traverse.Chain.{Chain}
use Rattle.nodes.specs.declared.traverse.Chain.TheVariants.{Jobs, Waits}
use Rattle.nodes.specs.declared.traverse.Traversed.TheVariants.{Stand, Arrive}
use Rattle.nodes.specs.Access.{◌>>=◌, when, node_at}
use Rattle.nodes.specs.Chains.{is_sentinel, in_chain, heads, job_ref, traversed}
use Rattle.rules.specs.declared.decision.Decision.{Decision}
use Rattle.rules.specs.declared.decision.Effect.TheVariants.{Retire}
use Rattle.rules.specs.Write.{moves, takes}

abbrev pub edit_chain : Edit → Chain
edit_chain AddJob = Jobs
edit_chain RemoveJob = Jobs
edit_chain (AddWait u v) = Waits
edit_chain (RemoveWait u v) = Waits
edit_chain (Empty j) = Waits
edit_chain (Sweep j at s) = Waits

abbrev pub edit_key : {K : Type 0} → Controller K → Edit → K
edit_key c AddJob = c.u
edit_key c RemoveJob = c.u
edit_key c (AddWait u v) = c.v
edit_key c (RemoveWait u v) = c.v
edit_key c (Empty j) = c.u
edit_key c (Sweep j at s) = c.u

abbrev pub home : Edit → ℕ
home AddJob = 0
home RemoveJob = 0
home (AddWait u v) = u.sentinel
home (RemoveWait u v) = u.sentinel
home (Empty j) = j.sentinel
home (Sweep j at s) = s

module _ {K : Type 0} where
  -- the first wait of a removed job, if there is one; else its sentinel retires
  abbrev pub first_wait : List (Node K) → JobRef → ℕ → Option ℕ → Option (Decision K)
  first_wait ns j at None = takes (Retire at) (NextJob j 0)
  first_wait ns j at (Some n) = node_at ns n >>= λ y. when (in_chain Waits y.kind) (moves (LockFirst (Empty j) (at, Some n)))

  abbrev pub locate_first : List (Node K) → JobRef → ℕ → Option (Decision K)
  locate_first ns j at = node_at ns at >>= λ x. when (is_sentinel x.kind) (first_wait ns j at x.next)

  -- the job that follows, if there is one; else the operation is over
  abbrev pub onto_job : List (Node K) → JobRef → Option ℕ → Option (Decision K)
  onto_job ns j None = moves (Finished Yes)
  onto_job ns j (Some n) = node_at ns n >>= λ y. job_ref n y.kind >>= λ r. moves (Locate (Sweep j n r.sentinel) r.sentinel)

  unfoldable pub next_job : List (Node K) → JobRef → ℕ → Option (Decision K)
  next_job ns j at = node_at ns at >>= λ x. when (heads Jobs x.kind) (onto_job ns j x.next)

  module _ (order : K → K → Ordering) where
    abbrev pub locate_key : List (Node K) → Controller K → Edit → ℕ → Option (Decision K)
    locate_key ns c e at =
        traversed order ns (edit_chain e) at (edit_key c e) >>= λ t.
        elim t [ Stand n ↦ moves (Locate e n) | Arrive p ↦ moves (LockFirst e p) ]

    unfoldable pub locate : List (Node K) → Controller K → Edit → ℕ → Option (Decision K)
    locate ns c AddJob at = locate_key ns c AddJob at
    locate ns c RemoveJob at = locate_key ns c RemoveJob at
    locate ns c (AddWait u v) at = locate_key ns c (AddWait u v) at
    locate ns c (RemoveWait u v) at = locate_key ns c (RemoveWait u v) at
    locate ns c (Empty j) at = locate_first ns j at
    locate ns c (Sweep j place s) at = locate_key ns c (Sweep j place s) at
