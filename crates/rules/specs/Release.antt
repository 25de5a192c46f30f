-- Unlink and unlock. Assumes nothing.
--     unlink_step p y t        the node y is taken out behind the first of the pair p
--     onward t                 where an operation goes on once it has unlocked its nodes
--     unlock_step p o t        of the pair p and the node o, the controller's locks are freed
use Rattle.std.specs.Prelude.{ℕ, Some, Option}
use Rattle.nodes.specs.declared.controller.Phase.{Phase}
use Rattle.nodes.specs.declared.controller.Phase.TheVariants.{Locate, Unlock, NextJob, Finished}
use Rattle.nodes.specs.declared.controller.Then.{Then}
use Rattle.nodes.specs.declared.controller.Then as thens
use Rattle.nodes.specs.declared.controller.Then.TheVariants.{Finish, Again}
use Rattle.rules.specs.declared.decision.Decision.{Decision}
use Rattle.rules.specs.declared.decision.Effect as effects
use Rattle.rules.specs.Locate.{home}
use Rattle.rules.specs.Write.{takes}

abbrev pub onward : Then → Phase
onward (Finish a) = Finished a
onward (Again e) = Locate e (home e)
onward (thens.TheVariants.NextJob j at) = NextJob j at

module _ {K : Type 0} where
  unfoldable pub unlink_step : ℕ × Option ℕ → ℕ → Then → Option (Decision K)
  unlink_step p y t = takes (effects.TheVariants.Unlink p.0 y) (Unlock p (Some y) t)

  unfoldable pub unlock_step : ℕ × Option ℕ → Option ℕ → Then → Option (Decision K)
  unlock_step p o t = takes (effects.TheVariants.Unlock p o) (onward t)
