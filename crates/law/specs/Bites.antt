-- Small runs that show that the statement of a history bites. Assumes nothing.
--     idle_worker a       call 1 starts to add job 5 and call 2 finishes with a; nothing is ever linked, and seven nodes are free
--     honest              call 1 starts to add job 5, and call 2 adds it and finishes with yes
--     Bites               the first has no history with yes, nor with full; the second has one; and a run of no calls has the empty one
use Rattle.std.specs.Prelude.{ℕ, zero, suc, [], Some}
use Rattle.std.specs.declared.cmp.Ordering.{Ordering}
use Rattle.nodes.specs.declared.controller.Answer.{Answer}
use Rattle.nodes.specs.declared.controller.Answer.TheVariants.{Yes, Full}
use Rattle.nodes.specs.declared.controller.Operation.TheVariants.{AddJob}
use Rattle.nodes.specs.Memory.{Memory, fresh}
use Rattle.law.specs.History.{Graph, empty, Request, changed, Run, Event, History, Linearizes}
use Rattle.law.specs.History.{Event.started, Event.finished, Event.other}
use Rattle.law.specs.Readings.{run_of}

abbrev pub add5 : Request ℕ
add5 = record { operation = AddJob; u = 5; v = 0 }

abbrev pub events : ℕ → Event ℕ
events zero = other
events (suc zero) = started 0 add5
events (suc (suc zero)) = finished 0
events (suc (suc (suc n))) = other

abbrev pub idle_worker : Answer → Run ℕ
idle_worker a = record { event = events; graph = λ i. empty; present = λ i x y. ⊥; keyed = λ i x k. ⊥; found = λ i c x y. ⊥; free = λ i. 7; handing = λ i c. Some a }

abbrev pub graphs : ℕ → Graph ℕ
graphs zero = empty
graphs (suc zero) = empty
graphs (suc (suc n)) = changed empty add5

abbrev pub honest : Run ℕ
honest = record { event = events; graph = graphs; present = λ i x y. ⊥; keyed = λ i x k. ⊥; found = λ i c x y. ⊥; free = λ i. 7; handing = λ i c. Some Yes }

pub record Bites {K : Type 0} (order : K → K → Ordering) : Type 0 where
  pub no_yes_without_a_link : Linearizes (idle_worker Yes) 2 → ⊥
  pub no_full_with_nodes_free : Linearizes (idle_worker Full) 2 → ⊥
  pub honest_is_met : (n : ℕ) → Linearizes honest n
  pub empty_list_is_met : (first : ℕ) (m : Memory K) → History (run_of order (fresh first m) []) 0 []
