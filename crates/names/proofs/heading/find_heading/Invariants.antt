use Rattle.std.proofs.Common.{◌≡◌, map, drop}
use Rattle.names.specs.Headings.{headed}
use Rattle.names.proofs.heading.find_heading.Given as goal

-- the lines passed have no word
abbrev pub invariant-loop-i : goal.invariant-loop-i
invariant-loop-i l = headed l.i (map (λ x. x.now) (drop l.i l.lines)) ≡ headed 0 (map (λ x. x.now) l.lines)
