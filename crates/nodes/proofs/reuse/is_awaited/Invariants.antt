use Rattle.std.proofs.Common.{◌≡◌, drop}
use Rattle.nodes.specs.Reuse.{awaited}
use Rattle.nodes.proofs.reuse.is_awaited.Given as goal

-- the controllers passed do not decide
abbrev pub invariant-loop-c : goal.invariant-loop-c
invariant-loop-c g l = awaited (drop l.c-index l.controllers) l.number ≡ awaited l.controllers l.number
