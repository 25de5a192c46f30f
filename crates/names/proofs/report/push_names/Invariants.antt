use Rattle.std.proofs.Common.{◌≡◌, ◌+◌, ◌++◌, drop, None, string_bytes}
use Rattle.names.specs.Reports.{name_lines}
use Rattle.names.proofs.report.push_names.Given as goal

-- the lines written, and those for the keys that are left
abbrev pub invariant-loop-i : goal.invariant-loop-i
invariant-loop-i g l = let lines = name_lines g.K.Key.order g.K.Name.written in
    string_bytes l.out ++ lines l.previous (l.i + 1) (drop l.i l.keys) ≡ string_bytes l.initial.out ++ lines None 1 l.keys
