use Rattle.std.proofs.Common.{◌≡◌, ◌++◌, take, string_bytes}
use Rattle.names.specs.Reports.{fault_lines}
use Rattle.names.proofs.report.push_faults.Given as goal

-- the lines for the faults passed are written
abbrev pub invariant-loop-fault : goal.invariant-loop-fault
invariant-loop-fault l = string_bytes l.out ≡ string_bytes l.initial.out ++ fault_lines l.expected (take l.fault-index l.faults)
