-- What a call can have done: refused, with the memory as it was, or taken.
use Rattle.std.proofs.Common.{◌≡◌, ℕ, Bool, true, false, eqb, ◌⊎◌, List, Some, None, Ok, Err, Option, refl, ap, ◌∙◌, inl, inr}
use Rattle.std.specs.List.{slice_get}
use Rattle.std.specs.declared.cmp.Ordering.{Ordering}
use Rattle.nodes.specs.declared.call.StepOutcome.{StepOutcome}
use Rattle.nodes.specs.declared.call.StepOutcome.TheVariants.{Waiting}
use Rattle.nodes.specs.declared.controller.Answer.{Answer}
use Rattle.nodes.specs.declared.controller.Controller.{Controller}
use Rattle.nodes.specs.declared.controller.Operation.{Operation}
use Rattle.nodes.specs.declared.controller.Phase.{Phase}
use Rattle.nodes.specs.declared.controller.Phase.TheVariants.{Idle}
use Rattle.nodes.specs.declared.node.Node.{Node}
use Rattle.nodes.specs.declared.refusal.Refusal.{Refusal}
use Rattle.nodes.specs.declared.refusal.Refusal.TheVariants.{Misfit, Nobody, Busy, Unknown, WornOut, Resting, Unfinished, Damage}
use Rattle.nodes.specs.Memory.{Memory, fits}
use Rattle.nodes.specs.Operations.{operation_of}
use Rattle.nodes.specs.Reuse.{is_running}
use Rattle.rules.specs.declared.decision.Decision.{Decision}
use Rattle.rules.specs.declared.decision.Decision.TheVariants.{Blocked, Take}
use Rattle.rules.specs.declared.decision.Marking.{Marking}
use Rattle.theory.proofs.Fields.{nth_set_same, nth_set_other}
use Rattle.rules.specs.Calls.{ResultOf, answer_of, is_idle, by_controller, by_size, for_controller, with_phase, with_controller, begin, by_ticket, by_operation, by_idle, started, by_nodes, by_decision, by_running, stepped, by_answer, collected, by_count, count_by_size, count_all, counted}
use Rattle.rules.specs.Decide.{decide}
use Rattle.rules.specs.Write.{applied}

module _ {K : Type 0} (m : Memory K) where
  -- a call was refused, and the memory is as it was
  abbrev pub Refuses : {R : Type 0} → ResultOf R K → Type 0
  Refuses r = (e : Refusal) × (r ≡ (Err e, m))

  -- the checks that calls for a controller share
  for_view : {R : Type 0} (w : ℕ) (go : Controller K → ResultOf R K) → Refuses (for_controller m w go) ⊎ ((c : Controller K) × (slice_get m.controllers w ≡ Some c) × (for_controller m w go ≡ go c))
  for_view w go = sized (fits m) refl
    where
      at : (b : Option (Controller K)) → slice_get m.controllers w ≡ b → fits m ≡ true → Refuses (for_controller m w go) ⊎ ((c : Controller K) × (slice_get m.controllers w ≡ Some c) × (for_controller m w go ≡ go c))
      at None e f = inl (Nobody, ap (by_size m w go) f ∙ ap (by_controller m go) e)
      at (Some c) e f = inr (c, e, ap (by_size m w go) f ∙ ap (by_controller m go) e)

      sized : (b : Bool) → fits m ≡ b → Refuses (for_controller m w go) ⊎ ((c : Controller K) × (slice_get m.controllers w ≡ Some c) × (for_controller m w go ≡ go c))
      sized false f = inl (Misfit, ap (by_size m w go) f)
      sized true f = at (slice_get m.controllers w) refl f

  -- ---- start

  abbrev pub Starts : ℕ → ℕ → K → K → Type 0
  Starts w code u v = (o : Operation) × (c : Controller K) × (operation_of code ≡ Some o) × (slice_get m.controllers w ≡ Some c) × (started w code u v m ≡ (Ok tt, begin m w o u v))

  pub start_view : (w code : ℕ) (u v : K) → Refuses (started w code u v m) ⊎ Starts w code u v
  unfolding started
  start_view w code u v = from (for_view w (λ c. by_idle m w code u v (is_idle c.phase)))
    where
      ticket : (o : Operation) (c : Controller K) → operation_of code ≡ Some o → slice_get m.controllers w ≡ Some c → (e : started w code u v m ≡ by_ticket m w o u v (eqb m.header.next_ticket 4294967295)) → (b : Bool) → eqb m.header.next_ticket 4294967295 ≡ b → Refuses (started w code u v m) ⊎ Starts w code u v
      ticket o c p q e true f = inl (WornOut, e ∙ ap (by_ticket m w o u v) f)
      ticket o c p q e false f = inr (o, c, p, q, e ∙ ap (by_ticket m w o u v) f)

      coded : (c : Controller K) → slice_get m.controllers w ≡ Some c → (e : started w code u v m ≡ by_operation m w u v (operation_of code)) → (o : Option Operation) → operation_of code ≡ o → Refuses (started w code u v m) ⊎ Starts w code u v
      coded c q e None p = inl (Unknown, e ∙ ap (by_operation m w u v) p)
      coded c q e (Some o) p = ticket o c p q (e ∙ ap (by_operation m w u v) p) (eqb m.header.next_ticket 4294967295) refl

      idle : (c : Controller K) → slice_get m.controllers w ≡ Some c → (e : started w code u v m ≡ by_idle m w code u v (is_idle c.phase)) → (b : Bool) → is_idle c.phase ≡ b → Refuses (started w code u v m) ⊎ Starts w code u v
      idle c q e false f = inl (Busy, e ∙ ap (by_idle m w code u v) f)
      idle c q e true f = coded c q (e ∙ ap (by_idle m w code u v) f) (operation_of code) refl

      from : Refuses (started w code u v m) ⊎ ((c : Controller K) × (slice_get m.controllers w ≡ Some c) × (started w code u v m ≡ by_idle m w code u v (is_idle c.phase))) → Refuses (started w code u v m) ⊎ Starts w code u v
      from (inl r) = inl r
      from (inr (c, q, e)) = idle c q e (is_idle c.phase) refl

  -- ---- collect

  abbrev pub Collects : ℕ → Type 0
  Collects w = (a : Answer) × (c : Controller K) × (slice_get m.controllers w ≡ Some c) × (answer_of c.phase ≡ Some a) × (collected w m ≡ (Ok a, with_controller m w (with_phase c Idle) m.nodes m.marks))

  pub collect_view : (w : ℕ) → Refuses (collected w m) ⊎ Collects w
  unfolding collected
  collect_view w = from (for_view w (λ c. by_answer m w c (answer_of c.phase)))
    where
      answered : (c : Controller K) → slice_get m.controllers w ≡ Some c → (e : collected w m ≡ by_answer m w c (answer_of c.phase)) → (o : Option Answer) → answer_of c.phase ≡ o → Refuses (collected w m) ⊎ Collects w
      answered c q e None p = inl (Unfinished, e ∙ ap (by_answer m w c) p)
      answered c q e (Some a) p = inr (a, c, q, p, e ∙ ap (by_answer m w c) p)

      from : Refuses (collected w m) ⊎ ((c : Controller K) × (slice_get m.controllers w ≡ Some c) × (collected w m ≡ by_answer m w c (answer_of c.phase))) → Refuses (collected w m) ⊎ Collects w
      from (inl r) = inl r
      from (inr (c, q, e)) = answered c q e (answer_of c.phase) refl

  -- what collect hands over, where the sizes fit
  pub collect_gives : (w : ℕ) (c : Controller K) (a : Answer) → fits m ≡ true → slice_get m.controllers w ≡ Some c → answer_of c.phase ≡ Some a → collected w m ≡ (Ok a, with_controller m w (with_phase c Idle) m.nodes m.marks)
  unfolding collected
  collect_gives w c a f q p =
      ap (by_size m w (λ d. by_answer m w d (answer_of d.phase))) f ∙ ap (by_controller m (λ d. by_answer m w d (answer_of d.phase))) q ∙ ap (by_answer m w c) p

  -- ---- count

  pub count_keeps : (counted m).1 ≡ m
  unfolding counted
  count_keeps = sized (fits m) refl
    where
      done : (o : Option (ℕ × ℕ × ℕ)) → (by_count m o).1 ≡ m
      done None = refl
      done (Some n) = refl

      sized : (b : Bool) → fits m ≡ b → (count_by_size m (fits m)).1 ≡ m
      sized false f = ap (λ b. (count_by_size m b).1) f
      sized true f = ap (λ b. (count_by_size m b).1) f ∙ done (count_all m)

  -- ---- step

  -- a step was taken: the controller ran, and keeps its operation; the others are as they were
  pub record Took (w : ℕ) (n : Memory K) : Type 0 where
    pub before : Controller K
    pub was : slice_get m.controllers w ≡ Some before
    pub ran : is_running before.phase ≡ true
    pub after : Controller K
    pub is : slice_get n.controllers w ≡ Some after
    pub operation : after.operation ≡ before.operation
    pub others : (d : ℕ) → (d ≡ w → ⊥) → slice_get n.controllers d ≡ slice_get m.controllers d

  abbrev pub Steps : (K → K → Ordering) → ℕ → Type 0
  Steps order w = (s : StepOutcome) × (n : Memory K) × (stepped order w m ≡ (Ok s, n)) × Took w n

  pub step_view : (order : K → K → Ordering) (w : ℕ) → Refuses (stepped order w m) ⊎ Steps order w
  unfolding stepped
  step_view order w = from (for_view w (λ c. by_running order m w c (is_running c.phase)))
    where
      written : (c : Controller K) → slice_get m.controllers w ≡ Some c → is_running c.phase ≡ true → (k : Marking) (p : Phase) (o : Option (List (Node K))) → stepped order w m ≡ by_nodes m w c k p o → Refuses (stepped order w m) ⊎ Steps order w
      written c q r k p None e = inl (Damage, e)
      written c q r k p (Some ns) e = inr (
        _,
        _,
        e,
        record {
          before = c;
          was = q;
          ran = r;
          after = with_phase c p;
          is = nth_set_same m.controllers w (with_phase c p) c q;
          operation = refl;
          others = λ d ne. nth_set_other m.controllers w d (with_phase c p) ne;
        },
      )

      decided : (c : Controller K) → slice_get m.controllers w ≡ Some c → is_running c.phase ≡ true → (o : Option (Decision K)) → stepped order w m ≡ by_decision m w c o → Refuses (stepped order w m) ⊎ Steps order w
      decided c q r None e = inl (Damage, e)
      decided c q r (Some Blocked) e = inr (Waiting, m, e, record { before = c; was = q; ran = r; after = c; is = q; operation = refl; others = λ d ne. refl })
      decided c q r (Some (Take f k p)) e = written c q r k p (applied w m.header.next_ticket f m.nodes) e

      running : (c : Controller K) → slice_get m.controllers w ≡ Some c → (e : stepped order w m ≡ by_running order m w c (is_running c.phase)) → (b : Bool) → is_running c.phase ≡ b → Refuses (stepped order w m) ⊎ Steps order w
      running c q e false r = inl (Resting, e ∙ ap (by_running order m w c) r)
      running c q e true r = decided c q r (decide order m w c c.phase) (e ∙ ap (by_running order m w c) r)

      from : Refuses (stepped order w m) ⊎ ((c : Controller K) × (slice_get m.controllers w ≡ Some c) × (stepped order w m ≡ by_running order m w c (is_running c.phase))) → Refuses (stepped order w m) ⊎ Steps order w
      from (inl r) = inl r
      from (inr (c, q, e)) = running c q e (is_running c.phase) refl
