-- Graphs with the same jobs and waits: the same answers are right in them, and answers change them alike.
use Rattle.std.proofs.Common.{ℕ}
use Rattle.std.proofs.Math.Logic.{⊎_map}
use Rattle.std.proofs.Math.Logic.Iff.{rfl, symm, trans}
use Rattle.nodes.specs.declared.controller.Operation.{Operation}
use Rattle.nodes.specs.declared.controller.Operation.TheVariants.{AddJob, RemoveJob, HasJob, AddWait, RemoveWait, HasWait}
use Rattle.nodes.specs.declared.controller.Answer.{Answer}
use Rattle.nodes.specs.declared.controller.Answer.TheVariants.{Yes, No, Circle, Full}
use Rattle.law.specs.History.{Graph, Same, Closes, Right, changed, answered, Request, Entry, after}
use Rattle.theory.proofs.Ways.{leads_map}

module _ {K : Type 0} where
  pub same_refl : (G : Graph K) → Same G G
  same_refl G = record { job = λ k. rfl; wait = λ a b. rfl }

  pub same_sym : (G H : Graph K) → Same G H → Same H G
  same_sym G H s = record { job = λ k. symm (s.job k); wait = λ a b. symm (s.wait a b) }

  pub same_trans : (G H I : Graph K) → Same G H → Same H I → Same G I
  same_trans G H I s t = record { job = λ k. trans (s.job k) (t.job k); wait = λ a b. trans (s.wait a b) (t.wait a b) }

  changed_half : (G H : Graph K) → Same G H → (c : Operation) (u v : K) →
      let t : Request K = record { operation = c; u = u; v = v } in
      ((k : K) → (changed G t).job k → (changed H t).job k) × ((a b : K) → (changed G t).wait a b → (changed H t).wait a b)
  changed_half G H s AddJob u v = (λ k. ⊎_map (s.job k).0 (λ x. x), λ a b. (s.wait a b).0)
  changed_half G H s RemoveJob u v = (λ k x. ((s.job k).0 x.0, x.1), λ a b x. ((s.wait a b).0 x.0, x.1, x.2))
  changed_half G H s HasJob u v = (λ k. (s.job k).0, λ a b. (s.wait a b).0)
  changed_half G H s AddWait u v = (λ k. (s.job k).0, λ a b. ⊎_map (s.wait a b).0 (λ x. x))
  changed_half G H s RemoveWait u v = (λ k. (s.job k).0, λ a b x. ((s.wait a b).0 x.0, x.1))
  changed_half G H s HasWait u v = (λ k. (s.job k).0, λ a b. (s.wait a b).0)

  pub changed_same : (G H : Graph K) → Same G H → (t : Request K) → Same (changed G t) (changed H t)
  changed_same G H s t =
      let to = changed_half G H s t.operation t.u t.v in
      let back = changed_half H G (same_sym G H s) t.operation t.u t.v in
      record { job = λ k. (to.0 k, back.0 k); wait = λ a b. (to.1 a b, back.1 a b) }

  pub answered_same : (G H : Graph K) → Same G H → (t : Request K) (a : Answer) → Same (answered G t a) (answered H t a)
  answered_same G H s t Yes = changed_same G H s t
  answered_same G H s t No = s
  answered_same G H s t Circle = s
  answered_same G H s t Full = s

  pub after_same : (G H : Graph K) → Same G H → (e : Entry K) → Same (after G e) (after H e)
  after_same G H s e = answered_same G H s e.op.request e.answer

  right_by : (G H : Graph K) → Same G H → (f : ℕ) (c : Operation) (u v : K) (a : Answer) →
      Right G f (record { operation = c; u = u; v = v }) a → Right H f (record { operation = c; u = u; v = v }) a
  right_by G H s f AddJob u v Yes x = tt
  right_by G H s f AddJob u v No x = x
  right_by G H s f AddJob u v Circle x = x
  right_by G H s f AddJob u v Full x = (λ j. x.0 ((s.job u).1 j), x.1)
  right_by G H s f RemoveJob u v Yes x = (s.job u).0 x
  right_by G H s f RemoveJob u v No x = λ j. x ((s.job u).1 j)
  right_by G H s f RemoveJob u v Circle x = x
  right_by G H s f RemoveJob u v Full x = x
  right_by G H s f HasJob u v Yes x = (s.job u).0 x
  right_by G H s f HasJob u v No x = λ j. x ((s.job u).1 j)
  right_by G H s f HasJob u v Circle x = x
  right_by G H s f HasJob u v Full x = x
  right_by G H s f AddWait u v Yes x =
      let back : Closes H u v → Closes G u v = ⊎_map (λ e. e) (leads_map H.wait G.wait (λ a b. (s.wait a b).1) v u) in
      ((s.job u).0 x.0, (s.job v).0 x.1, ⊎_map (s.wait u v).0 (λ no_way l. no_way (back l)) x.2)
  right_by G H s f AddWait u v No x = ⊎_map (λ y j. y ((s.job u).1 j)) (λ y j. y ((s.job v).1 j)) x
  right_by G H s f AddWait u v Circle x = ((s.job u).0 x.0, (s.job v).0 x.1, λ w. x.2 ((s.wait u v).1 w))
  right_by G H s f AddWait u v Full x = ((s.job u).0 x.0, (s.job v).0 x.1, λ w. x.2 ((s.wait u v).1 w), x.3)
  right_by G H s f RemoveWait u v Yes x = ((s.job u).0 x.0, (s.job v).0 x.1)
  right_by G H s f RemoveWait u v No x = ⊎_map (λ y j. y ((s.job u).1 j)) (λ y j. y ((s.job v).1 j)) x
  right_by G H s f RemoveWait u v Circle x = x
  right_by G H s f RemoveWait u v Full x = x
  right_by G H s f HasWait u v Yes x = (s.wait u v).0 x
  right_by G H s f HasWait u v No x = λ w. x ((s.wait u v).1 w)
  right_by G H s f HasWait u v Circle x = x
  right_by G H s f HasWait u v Full x = x

  pub right_same : (G H : Graph K) → Same G H → (f : ℕ) (t : Request K) (a : Answer) → Right G f t a → Right H f t a
  right_same G H s f t a x = right_by G H s f t.operation t.u t.v a x
