-- Worked states: small runs on job numbers, computed by the rules. Assumes nothing.
--     board n c f         a board fresh from set-up, of n nodes and c controllers, with the first ticket f
--     does m w o u v      an operation of controller w, alone: how many steps it took, its answer, and the memory
--                         after it was collected
--     then d w o u v      a further operation after that
--     counts m            what count gives
--     told d              steps, answer and count; ended d: answer and count
--     in_turn f m         controllers 0 and 1 step in turn until both have finished, at most f rounds
use Rattle.std.specs.Prelude.{◌≡◌, ℕ, zero, suc, ◌*◌, Bool, true, false, ◌||◌, replicate, Some, None, Option, Result}
use Rattle.std.specs.List.{slice_get}
use Rattle.std.specs.Result.{result_ok}
use Rattle.std.specs.Ordering.{nat_cmp}
use Rattle.nodes.specs.declared.call.StepOutcome.TheVariants.{Moved, Waiting, Finished}
use Rattle.nodes.specs.declared.controller.Answer.{Answer}
use Rattle.nodes.specs.declared.controller.Answer.TheVariants.{Yes, No, Circle, Full}
use Rattle.nodes.specs.declared.controller.Controller.{Controller}
use Rattle.nodes.specs.declared.controller.Operation.{Operation}
use Rattle.nodes.specs.declared.controller.Operation.TheVariants.{AddJob, RemoveJob, HasJob, AddWait}
use Rattle.nodes.specs.declared.controller.Phase.TheVariants.{Idle}
use Rattle.nodes.specs.declared.node.Node.{Node}
use Rattle.nodes.specs.declared.node.Kind.TheVariants.{Vacant}
use Rattle.nodes.specs.declared.refusal.Refusal.{Refusal}
use Rattle.nodes.specs.Access.{◌>>=◌}
use Rattle.nodes.specs.Memory.{Memory, memory, set_up}
use Rattle.nodes.specs.Operations.{code_of}
use Rattle.nodes.specs.Reuse.{is_running}
use Rattle.rules.specs.Calls.{started, stepped, collected, counted}

abbrev pub vacant_node : Node ℕ
vacant_node = record { key = 0; kind = Vacant; next = None; lock = None; retired = None }

abbrev pub idle_controller : Controller ℕ
idle_controller = record { operation = None; u = 0; v = 0; ticket = 0; phase = Idle }

abbrev pub board : ℕ → ℕ → ℕ → Memory ℕ
board n c first = (set_up first (memory (record { next_ticket = 0 }) (replicate n vacant_node) (replicate c idle_controller) (replicate (c * n) 0))).1

-- the memory after a call that was not refused
abbrev pub ok : {R : Type 0} → Result R Refusal × Memory ℕ → Option (R × Memory ℕ)
ok r = result_ok r.0 >>= λ x. Some (x, r.1)

pub record Done : Type 0 where
  pub steps : ℕ
  pub answer : Answer
  pub after : Memory ℕ

-- steps of controller w until it has finished, at most so many
abbrev pub finish : ℕ → Memory ℕ → ℕ → ℕ → Option (ℕ × Memory ℕ)
finish zero m w n = None
finish (suc f) m w n =
    ok (stepped nat_cmp w m) >>= λ r.
    elim r.0 [ Moved ↦ finish f r.1 w (suc n) | Waiting ↦ None | Finished ↦ Some (suc n, r.1) ]

abbrev pub does : Memory ℕ → ℕ → Operation → ℕ → ℕ → Option Done
does m w o u v =
    ok (started w (code_of o) u v m) >>= λ s. finish 60 s.1 w 0 >>= λ f. ok (collected w f.1) >>= λ c.
    Some (record { steps = f.0; answer = c.0; after = c.1 })

abbrev pub then : Option Done → ℕ → Operation → ℕ → ℕ → Option Done
then d w o u v = d >>= λ e. does e.after w o u v

abbrev pub counts : Memory ℕ → Option (ℕ × ℕ × ℕ)
counts m = result_ok (counted m).0

abbrev pub told : Option Done → Option ((ℕ × Answer) × (ℕ × ℕ × ℕ))
told d = d >>= λ e. counts e.after >>= λ n. Some ((e.steps, e.answer), n)

abbrev pub ended : Option Done → Option (Answer × (ℕ × ℕ × ℕ))
ended d = d >>= λ e. counts e.after >>= λ n. Some (e.answer, n)

-- ---- the states

abbrev pub fresh8 : Memory ℕ
fresh8 = board 8 2 1

abbrev pub job5 : Option Done
job5 = does fresh8 0 AddJob 5 0

abbrev pub jobs57 : Option Done
jobs57 = then job5 0 AddJob 7 0

abbrev pub wait57 : Option Done
wait57 = then jobs57 0 AddWait 5 7

abbrev pub circle75 : Option Done
circle75 = then wait57 0 AddWait 7 5

abbrev pub circle55 : Option Done
circle55 = then circle75 0 AddWait 5 5

abbrev pub missing59 : Option Done
missing59 = then circle55 0 AddWait 5 9

abbrev pub runs_at : Memory ℕ → ℕ → Bool
runs_at m w = elim (slice_get m.controllers w) [ None ↦ false | Some c ↦ is_running c.phase ]

-- a step of controller w, or nothing where it is refused
abbrev pub turn : ℕ → Memory ℕ → Memory ℕ
turn w m = (stepped nat_cmp w m).1

abbrev pub in_turn : ℕ → Memory ℕ → Memory ℕ
in_turn zero m = m
in_turn (suc f) m = elim (runs_at m 0 || runs_at m 1) [ true ↦ in_turn f (turn 1 (turn 0 m)) | false ↦ m ]

-- the answers of controllers 0 and 1, and the count after both
abbrev pub both_ended : Option (Memory ℕ) → Option ((Answer × Answer) × (ℕ × ℕ × ℕ))
both_ended o =
    o >>= λ m. ok (collected 0 m) >>= λ a. ok (collected 1 a.1) >>= λ b. counts b.1 >>= λ n.
    Some ((a.0, b.0), n)

-- controllers 0 and 1 add the waits (5, 7) and (7, 5)
abbrev pub two_waits : Option (Memory ℕ)
two_waits = jobs57 >>= λ d. ok (started 0 4 5 7 d.after) >>= λ s. ok (started 1 4 7 5 s.1) >>= λ t. Some (in_turn 60 t.1)

-- a lookup of 7 has taken one step; then controller 1 removes 5, and then 7
abbrev pub held : Option (Memory ℕ)
held =
    jobs57 >>= λ d. ok (started 0 3 7 0 d.after) >>= λ s. ok (stepped nat_cmp 0 s.1) >>= λ t.
    then (does t.1 1 RemoveJob 5 0) 1 RemoveJob 7 0 >>= λ e. Some e.after

abbrev pub released : Option (Answer × (ℕ × ℕ × ℕ))
released = held >>= λ m. finish 1 m 0 0 >>= λ f. ok (collected 0 f.1) >>= λ c. counts f.1 >>= λ n. Some (c.0, n)

abbrev pub four : Option Done
four = does (board 4 2 1) 0 AddJob 5 0

pub record WorkedStates : Type 0 where
  pub fresh : counts fresh8 ≡ Some (0, 0, 7)
  pub has_job_on_fresh : told (does fresh8 0 HasJob 5 0) ≡ Some ((1, No), (0, 0, 7))
  pub add_job : told job5 ≡ Some ((5, Yes), (1, 0, 5))
  pub add_job_again : ended (then job5 0 AddJob 5 0) ≡ Some (Yes, (1, 0, 5))
  pub add_wait : told wait57 ≡ Some ((11, Yes), (2, 1, 2))
  pub add_wait_back : told circle75 ≡ Some ((12, Circle), (2, 1, 2))
  pub add_wait_to_itself : ended circle55 ≡ Some (Circle, (2, 1, 2))
  pub add_wait_to_none : ended missing59 ≡ Some (No, (2, 1, 2))
  pub remove_job : ended (then missing59 0 RemoveJob 7 0) ≡ Some (Yes, (1, 0, 5))
  pub two_controllers : both_ended two_waits ≡ Some ((Circle, Circle), (2, 0, 3))
  pub lookup_holds_nodes : (held >>= λ m. counts m) ≡ Some (0, 0, 3)
  pub lookup_releases : released ≡ Some (No, (0, 0, 7))
  pub full : ended (then four 0 AddJob 6 0) ≡ Some (Full, (1, 0, 1))
  pub not_full_if_in : ended (then four 0 AddJob 5 0) ≡ Some (Yes, (1, 0, 1))
