-- What a step decides, by the phase of its controller. None is damage. Assumes nothing.
use Rattle.std.specs.Prelude.{ℕ, None, Option}
use Rattle.std.specs.declared.cmp.Ordering.{Ordering}
use Rattle.nodes.specs.declared.controller.Controller.{Controller}
use Rattle.nodes.specs.declared.controller.Phase.{Phase}
use Rattle.nodes.specs.declared.controller.Phase.TheVariants.{Idle, Find, Locate, LockFirst, LockSecond, Validate, Explore, Unlink, Unlock, NextJob, Finished}
use Rattle.nodes.specs.Memory.{Memory}
use Rattle.rules.specs.declared.decision.Decision.{Decision}
use Rattle.rules.specs.Explore.{explore}
use Rattle.rules.specs.Find.{find}
use Rattle.rules.specs.Locate.{locate, next_job}
use Rattle.rules.specs.Lock.{lock_first, lock_second}
use Rattle.rules.specs.Release.{unlink_step, unlock_step}
use Rattle.rules.specs.Validate.{validate}

module _ {K : Type 0} (order : K → K → Ordering) where
  abbrev pub decide : Memory K → ℕ → Controller K → Phase → Option (Decision K)
  decide m w c Idle = None
  decide m w c (Find l at) = find order m.nodes c l at
  decide m w c (Locate e at) = locate order m.nodes c e at
  decide m w c (LockFirst e p) = lock_first w m.nodes e p
  decide m w c (LockSecond e p) = lock_second w m.nodes e p
  decide m w c (Validate e p) = validate order m.controllers m.nodes c e p
  decide m w c (Explore u v p t at) = explore m.nodes m.marks w u v p t at
  decide m w c (Unlink p y t) = unlink_step p y t
  decide m w c (Unlock p o t) = unlock_step p o t
  decide m w c (NextJob j at) = next_job m.nodes j at
  decide m w c (Finished a) = None
