-- Lock: one step locks the first node of a pair, the next the second. Assumes nothing.
--     lock_then w i t p       node i is locked, if its kind passes t, and the phase is p; waiting where another holds it
--     lock_first w e p        the step that locks the first node of the pair p
--     lock_second w e p       the step that locks the second; it passes if there is none
use Rattle.std.specs.Prelude.{ℕ, Bool, true, false, List, Some, None, Option}
use Rattle.nodes.specs.declared.controller.Phase.{Phase}
use Rattle.nodes.specs.declared.node.Node.{Node}
use Rattle.nodes.specs.declared.controller.Edit.{Edit}
use Rattle.nodes.specs.declared.controller.Phase.TheVariants.{LockSecond, Validate}
use Rattle.nodes.specs.declared.node.Kind.{Kind}
use Rattle.nodes.specs.Access.{◌>>=◌, when, node_at}
use Rattle.nodes.specs.Chains.{in_chain, heads}
use Rattle.nodes.specs.Effects.{lockable}
use Rattle.rules.specs.declared.decision.Decision.{Decision}
use Rattle.rules.specs.declared.decision.Decision.TheVariants.{Blocked}
use Rattle.rules.specs.declared.decision.Effect.TheVariants.{Lock}
use Rattle.rules.specs.Locate.{edit_chain}
use Rattle.rules.specs.Write.{moves, takes}

module _ {K : Type 0} where
  abbrev pub lock_then : ℕ → List (Node K) → ℕ → (Kind → Bool) → Phase → Option (Decision K)
  lock_then w ns i t p = node_at ns i >>= λ x. when (t x.kind) (elim (lockable w x.lock) [ true ↦ takes (Lock i) p | false ↦ Some Blocked ])

  unfoldable pub lock_first : ℕ → List (Node K) → Edit → ℕ × Option ℕ → Option (Decision K)
  lock_first w ns e p = lock_then w ns p.0 (heads (edit_chain e)) (LockSecond e p)

  abbrev pub lock_next : ℕ → List (Node K) → Edit → ℕ × Option ℕ → Option ℕ → Option (Decision K)
  lock_next w ns e p None = moves (Validate e p)
  lock_next w ns e p (Some n) = lock_then w ns n (in_chain (edit_chain e)) (Validate e p)

  unfoldable pub lock_second : ℕ → List (Node K) → Edit → ℕ × Option ℕ → Option (Decision K)
  lock_second w ns e p = lock_next w ns e p p.1
