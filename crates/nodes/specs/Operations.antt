-- The codes of the six operations. Assumes nothing.
--     code_of o          the code that asks for an operation
--     operation_of c     the operation that a code asks for; none outside 1 to 6
--     decoded c          the same as a function's answer; the error holds the code
use Rattle.std.specs.Prelude.{ℕ, cond, Some, None, Ok, Err, Option, Result, ◌==◌}
use Rattle.nodes.specs.declared.controller.Operation.{Operation}
use Rattle.nodes.specs.declared.controller.UnknownOperation.{UnknownOperation}
use Rattle.nodes.specs.declared.controller.Operation.TheVariants.{AddJob, RemoveJob, HasJob, AddWait, RemoveWait, HasWait}

abbrev pub code_of : Operation → ℕ
code_of AddJob = 1
code_of RemoveJob = 2
code_of HasJob = 3
code_of AddWait = 4
code_of RemoveWait = 5
code_of HasWait = 6

abbrev pub operation_of : ℕ → Option Operation
operation_of c =
    cond (c == 1) (Some AddJob)
    (cond (c == 2) (Some RemoveJob)
    (cond (c == 3) (Some HasJob)
    (cond (c == 4) (Some AddWait)
    (cond (c == 5) (Some RemoveWait)
    (cond (c == 6) (Some HasWait) None)))))

abbrev pub decoded : ℕ → Result Operation UnknownOperation
decoded c = elim (operation_of c) [ None ↦ Err (record { 0 = c }) | Some o ↦ Ok o ]
