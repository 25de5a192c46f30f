-- The bytes by which memory holds marks. Assumes nothing.
use Rattle.std.specs.Prelude.{ℕ}
use Rattle.rules.specs.declared.decision.Mark.{Mark}
use Rattle.rules.specs.declared.decision.Mark.TheVariants.{Unvisited, Frontier, Expanded}

abbrev pub mark_byte : Mark → ℕ
mark_byte Unvisited = 0
mark_byte Frontier = 1
mark_byte Expanded = 2
