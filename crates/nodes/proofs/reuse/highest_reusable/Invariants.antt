use Rattle.std.proofs.Common.{◌≡◌}
use Rattle.nodes.specs.Reuse.{highest}
use Rattle.nodes.proofs.reuse.highest_reusable.Given as goal

-- no node from n up to the bound may be used again
abbrev pub invariant-loop-n : goal.invariant-loop-n
invariant-loop-n g l = highest l.controllers l.nodes l.n ≡ highest l.controllers l.nodes l.bound
