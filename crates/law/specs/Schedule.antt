-- The history of a worked schedule: two controllers add waits that would together close a circle. Assumes nothing.
--     two_adding          job 5 and job 7 are added; then controllers 0 and 1 add the waits (5, 7) and (7, 5), stepping in turn
--     explained           its history: four entries with their points
--     ScheduleExplained   the entries are right, each ends with the answer that collect gives, there is a row behind each circle, and in
--                         the end the entries give the graph
use Rattle.std.specs.Prelude.{◌≡◌, ℕ, zero, suc, ◌≤◌, List, [], ◌∷◌, ◌++◌, replicate, Some}
use Rattle.std.specs.Ordering.{nat_cmp}
use Rattle.nodes.specs.declared.call.Call.{Call}
use Rattle.nodes.specs.declared.call.Call.TheVariants.{Start, Step, Collect}
use Rattle.nodes.specs.declared.controller.Answer.{Answer}
use Rattle.nodes.specs.declared.controller.Answer.TheVariants.{Yes, Circle}
use Rattle.nodes.specs.declared.controller.Operation.{Operation}
use Rattle.nodes.specs.declared.controller.Operation.TheVariants.{AddJob, AddWait}
use Rattle.rules.specs.Worked.{fresh8}
use Rattle.law.specs.History.{Same, empty, Run, Entry, replayed, Consistent, Began, Ends, Behind}
use Rattle.law.specs.Readings.{graph_of, memory_at, run_of}

abbrev pub in_turn : ℕ → List (Call ℕ)
in_turn zero = []
in_turn (suc n) = Step 0 ∷ Step 1 ∷ in_turn n

abbrev pub two_adding : List (Call ℕ)
two_adding =
    (Start 0 1 5 0 ∷ replicate 5 (Step 0)) ++ (Collect 0 ∷ Start 0 1 7 0 ∷ replicate 6 (Step 0))
    ++ (Collect 0 ∷ Start 0 4 5 7 ∷ Start 1 4 7 5 ∷ in_turn 12) ++ (Collect 0 ∷ Collect 1 ∷ [])

abbrev pub schedule_run : Run ℕ
schedule_run = run_of nat_cmp fresh8 two_adding

abbrev pub entry : ℕ → ℕ → Operation → ℕ → ℕ → Answer → ℕ → Entry ℕ
entry start by o u v a point = record { op = record { start = start; by = by; request = record { operation = o; u = u; v = v } }; answer = a; point = point }

abbrev pub add5 : Entry ℕ
add5 = entry 1 0 AddJob 5 0 Yes 5

abbrev pub add7 : Entry ℕ
add7 = entry 8 0 AddJob 7 0 Yes 13

abbrev pub wait57 : Entry ℕ
wait57 = entry 16 0 AddWait 5 7 Circle 30

abbrev pub wait75 : Entry ℕ
wait75 = entry 17 1 AddWait 7 5 Circle 31

abbrev pub explained : List (Entry ℕ)
explained = add5 ∷ add7 ∷ wait57 ∷ wait75 ∷ []

-- the operation of an entry is one of the run, ends at call j with its answer, and its point lies between
pub record EndsAt (e : Entry ℕ) (j : ℕ) : Type 0 where
  pub began : Began schedule_run j e.op
  pub ends : Ends schedule_run e.op j
  pub hands : schedule_run.handing j e.op.by ≡ Some e.answer
  pub from : e.op.start ≤ e.point
  pub to : e.point ≤ j

pub record ScheduleExplained : Type 0 where
  pub entries_are_right : Consistent schedule_run empty 0 explained
  pub add5_ends : EndsAt add5 6
  pub add7_ends : EndsAt add7 14
  pub wait57_ends : EndsAt wait57 40
  pub wait75_ends : EndsAt wait75 41
  pub row_behind_wait57 : Behind schedule_run wait57.op.request 0 16 40
  pub row_behind_wait75 : Behind schedule_run wait75.op.request 1 17 41
  pub graph_in_the_end : Same (replayed 43 empty explained) (graph_of (memory_at nat_cmp fresh8 two_adding 43).nodes)
