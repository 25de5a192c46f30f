-- The history of the worked schedule, by computation.
use Rattle.std.proofs.Common.{◌≡◌, ℕ, ◌<◌, ◌≤◌, ◌⊎◌, Some, None, sym, refl, ap, ◌∙◌, inl, inr, arith}
use Rattle.std.specs.Ordering.{nat_cmp}
use Rattle.std.proofs.lemmas.Option.{same_Some}
use Rattle.nodes.specs.declared.controller.JobRef.{JobRef}
use Rattle.rules.specs.Graph.{key_at}
use Rattle.rules.specs.Machine.{machine}
use Rattle.rules.specs.Worked.{fresh8}
use Rattle.law.specs.History.{Same, empty, Entry, latest, replayed, Consistent, Behind}
use Rattle.law.specs.History.{Event.started, Event.finished}
use Rattle.theory.specs.Ways.{Leads.last}
use Rattle.law.specs.Readings.{JobIn, graph_of, memory_at}
use Rattle.law.specs.Schedule.{two_adding, schedule_run, explained, add5, add7, wait57, wait75, EndsAt, ScheduleExplained}
use Rattle.law.proofs.Graphs.{same_refl}

-- an entry of the run, whose numbers rise from its start to its end
ended : (e : Entry ℕ) (j : ℕ) → 0 < e.op.start → e.op.start ≤ e.point → e.point ≤ j → schedule_run.event e.op.start ≡ started e.op.by e.op.request →
    latest schedule_run e.op.by j ≡ Some e.op → schedule_run.event j ≡ finished e.op.by → schedule_run.handing j e.op.by ≡ Some e.answer → EndsAt e j
ended e j first from to begins runs finishes hands = record {
  began = record { first = first; by_then = omega arith; is = begins };
  ends = record { runs = runs; is = finishes };
  hands = hands;
  from = from;
  to = to;
}

-- a circle changes nothing
right : Consistent schedule_run empty 0 explained
unfolding machine
right = (
  omega arith,
  tt,
  λ _. (record { runs = refl; is = inl refl }, omega arith),
  (
    omega arith,
    tt,
    λ _. (record { runs = refl; is = inl refl }, omega arith),
    (
      omega arith,
      (inl (inr refl), inr refl, λ w. w),
      λ f. absurd (f (same_refl _)),
      (omega arith, (inr refl, inl (inr refl), λ w. w), λ f. absurd (f (same_refl _)), tt),
    ),
  ),
)

last_graph : Same (replayed 43 empty explained) (graph_of (memory_at nat_cmp fresh8 two_adding 43).nodes)
unfolding machine
last_graph = record { job = λ k. (to k, from k); wait = λ a b. (λ w. absurd w, λ x. absurd x.wait) }
  where
    to : (k : ℕ) → (⊥ ⊎ (k ≡ 5)) ⊎ (k ≡ 7) → JobIn (memory_at nat_cmp fresh8 two_adding 43).nodes k
    to k (inl (inl x)) = absurd x
    to k (inl (inr e)) = (_, inl refl, ap Some (sym e))
    to k (inr e) = (_, inr (inl refl), ap Some (sym e))

    from : (k : ℕ) → JobIn (memory_at nat_cmp fresh8 two_adding 43).nodes k → (⊥ ⊎ (k ≡ 5)) ⊎ (k ≡ 7)
    from k (j, inl p, e) = inl (inr (sym (same_Some 5 k (sym (ap (λ (x : JobRef). key_at (memory_at nat_cmp fresh8 two_adding 43).nodes x.node) p) ∙ e))))
    from k (j, inr (inl p), e) = inr (sym (same_Some 7 k (sym (ap (λ (x : JobRef). key_at (memory_at nat_cmp fresh8 two_adding 43).nodes x.node) p) ∙ e)))
    from k (j, inr (inr x), e) = absurd x

-- the two jobs
abbrev five : JobRef
five = record { node = 7; generation = 1; sentinel = 6 }

abbrev seven : JobRef
seven = record { node = 5; generation = 2; sentinel = 4 }

row57 : Behind schedule_run wait57.op.request 0 16 40
unfolding machine
row57 = record {
  u = five;
  v = seven;
  call = 30;
  from = omega arith;
  to = omega arith;
  found = record { controller = _; is = refl; pair = (6, None); tentative = 3; place = None; phase = refl };
  key_u = (inl refl, refl);
  key_v = (inr (inl refl), refl);
  row = last (31, omega arith, omega arith, inr (inr (inl refl)));
}

row75 : Behind schedule_run wait75.op.request 1 17 41
unfolding machine
row75 = record {
  u = seven;
  v = five;
  call = 31;
  from = omega arith;
  to = omega arith;
  found = record { controller = _; is = refl; pair = (4, None); tentative = 2; place = None; phase = refl };
  key_u = (inr (inl refl), refl);
  key_v = (inl refl, refl);
  row = last (31, omega arith, omega arith, inr (inl refl));
}

pub schedule_explained : ScheduleExplained
unfolding machine
schedule_explained = record {
  entries_are_right = right;
  add5_ends = ended add5 6 (omega arith) (omega arith) (omega arith) refl refl refl refl;
  add7_ends = ended add7 14 (omega arith) (omega arith) (omega arith) refl refl refl refl;
  wait57_ends = ended wait57 40 (omega arith) (omega arith) (omega arith) refl refl refl refl;
  wait75_ends = ended wait75 41 (omega arith) (omega arith) (omega arith) refl refl refl refl;
  row_behind_wait57 = row57;
  row_behind_wait75 = row75;
  graph_in_the_end = last_graph;
}
