-- Further facts on the rules, by computation: refusals, and schedules of two controllers that a board with one
-- rule left out would not pass. Assumes nothing.
--     steps k w m          k steps of controller w
--     ends w m             controller w runs to its end
--     starts w c u v m     controller w is given the operation of the code c with the keys u and v
--     says r               the number of the refusal that a call gave
use Rattle.std.specs.Prelude.{◌≡◌, ℕ, zero, suc, replicate, Some, None, Ok, Err, Option, Result, slice_set}
use Rattle.std.specs.Result.{result_ok}
use Rattle.order.specs.declared.address.making.NoPlace.{NoPlace as Displaced}
use Rattle.order.specs.Addresses.{placed}
use Rattle.std.specs.Ordering.{nat_cmp}
use Rattle.nodes.specs.declared.call.StepOutcome.TheVariants.{Waiting}
use Rattle.nodes.specs.declared.controller.Answer.TheVariants.{Yes, No}
use Rattle.nodes.specs.declared.controller.Operation.TheVariants.{AddJob, AddWait}
use Rattle.nodes.specs.declared.node.Kind.TheVariants.{Sentinel}
use Rattle.nodes.specs.declared.refusal.Refusal.{Refusal}
use Rattle.nodes.specs.declared.refusal.Refusal.TheVariants.{NoPlace}
use Rattle.nodes.specs.Access.{◌>>=◌}
use Rattle.nodes.specs.Memory.{Memory, memory, set_up}
use Rattle.nodes.specs.Refusals.{refusal_number}
use Rattle.rules.specs.Calls.{started, stepped, collected, counted}
use Rattle.rules.specs.Worked.{board, vacant_node, idle_controller, ok, does, then, finish, counts, both_ended, fresh8, jobs57}

abbrev pub steps : ℕ → ℕ → Memory ℕ → Option (Memory ℕ)
steps zero w m = Some m
steps (suc k) w m = ok (stepped nat_cmp w m) >>= λ r. steps k w r.1

-- controller w runs to its end
abbrev pub ends : ℕ → Memory ℕ → Option (Memory ℕ)
ends w m = finish 60 m w 0 >>= λ f. Some f.1

abbrev pub starts : ℕ → ℕ → ℕ → ℕ → Memory ℕ → Option (Memory ℕ)
starts w code u v m = ok (started w code u v m) >>= λ s. Some s.1

abbrev pub says : {R : Type 0} → Result R Refusal × Memory ℕ → Option ℕ
says r = elim r.0 [ Ok x ↦ None | Err e ↦ Some (refusal_number e) ]

-- ---- schedules

-- Controller 0 adds the wait (5, 7) and explores; controller 1 removes job 7 until it has to wait; then
-- each runs to its end.
abbrev pub removed_while_exploring : Option (Memory ℕ)
removed_while_exploring =
    jobs57 >>= λ d. starts 0 4 5 7 d.after >>= λ a. steps 7 0 a >>= λ b. starts 1 2 7 0 b >>= λ c. steps 10 1 c >>= λ e.
    ends 0 e >>= λ f. ends 1 f

-- Jobs 3, 5 and 7. Controller 0 adds the wait (3, 5) and explores. Controller 1 adds (3, 7): it goes on to the
-- tentative wait, and its next step is to lock it.
abbrev pub behind_tentative : Option (Memory ℕ)
behind_tentative =
    then (then (does (board 12 2 1) 0 AddJob 3 0) 0 AddJob 5 0) 0 AddJob 7 0 >>= λ d. starts 0 4 3 5 d.after >>= λ a. steps 7 0 a >>= λ b.
    starts 1 4 3 7 b >>= λ c. steps 6 1 c

-- The wait (5, 7) stands. Controller 1 removes job 7, and has not yet come to the waits of 5; meanwhile controller 0
-- adds job 7 and the wait (5, 7) anew. Then controller 1 runs to its end.
abbrev pub added_again : Option (Memory ℕ)
added_again =
    then (then (does (board 12 2 1) 0 AddJob 5 0) 0 AddJob 7 0) 0 AddWait 5 7 >>= λ d. starts 1 2 7 0 d.after >>= λ a. steps 8 1 a >>= λ b.
    then (does b 0 AddJob 7 0) 0 AddWait 5 7 >>= λ e. ends 1 e.after

-- ---- refusals

-- the number of the refusal to make an address
abbrev pub refusal_of : {R : Type 0} → Result R Displaced → Option ℕ
refusal_of (Ok row) = None
refusal_of (Err e) = Some (refusal_number (NoPlace e))

-- a board whose node 0 leads to a node that is not there
abbrev pub broken : Memory ℕ
broken = memory fresh8.header (slice_set fresh8.nodes 0 (record { key = 0; kind = Sentinel; next = Some 9; lock = None; retired = None })) fresh8.controllers fresh8.marks

abbrev pub unfit : Memory ℕ
unfit = memory fresh8.header (replicate 8 vacant_node) (replicate 2 idle_controller) (replicate 15 0)

abbrev pub one_started : Option (Memory ℕ)
one_started = starts 0 3 5 0 (board 8 2 4294967294)

pub record FurtherStates : Type 0 where
  pub commit_looks_again : both_ended removed_while_exploring ≡ Some ((No, Yes), (1, 0, 5))
  pub tentative_is_locked : (behind_tentative >>= λ m. result_ok (stepped nat_cmp 1 m).0) ≡ Some Waiting
  pub generations_differ : (added_again >>= counts) ≡ Some (2, 1, 6)
  pub misfit : says (started 0 1 5 0 unfit) ≡ Some 1
  pub bad_first : says (set_up 0 fresh8) ≡ Some 2
  pub nobody : says (started 2 1 5 0 fresh8) ≡ Some 3
  pub busy : (starts 0 3 5 0 fresh8 >>= λ m. says (started 0 3 5 0 m)) ≡ Some 4
  pub unknown : says (started 0 7 5 0 fresh8) ≡ Some 5
  pub worn_out : (one_started >>= λ m. says (started 1 3 5 0 m)) ≡ Some 6
  pub resting : says (stepped nat_cmp 0 fresh8) ≡ Some 7
  pub unfinished : says (collected 0 fresh8) ≡ Some 8
  pub damage_in_step : (starts 0 3 5 0 broken >>= λ m. says (stepped nat_cmp 0 m)) ≡ Some 9
  pub damage_in_count : says (counted broken) ≡ Some 9
  pub no_place : refusal_of (placed 1 1 31) ≡ Some 10
