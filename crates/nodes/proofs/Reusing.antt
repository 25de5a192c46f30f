-- How many nodes may be used again, by a chain over the nodes.
use Rattle.std.proofs.Common.{◌≡◌, ℕ, zero, suc, ◌+◌, Bool, true, false, cond, List, [], ◌∷◌, length, map, subst, Some, refl, sym, ap, ◌∙◌, arith, add-one, zero-add, add-zero}
use Rattle.std.proofs.Math.ListN.{length-append}
use Rattle.std.proofs.lemmas.List.{map-id}
use Rattle.std.proofs.lemmas.List.FromFn.{filter_of_map_range_with_len_more}
use Rattle.std.specs.List.{range_with_len, enumerate_from, filter, slice_get}
use Rattle.nodes.specs.declared.controller.Controller.{Controller}
use Rattle.nodes.specs.declared.node.Node.{Node}
use Rattle.nodes.specs.Reuse.{reusable_at, reusable_count}

module _ {K : Type 0} (cs : List (Controller K)) (ns : List (Node K)) where
  one_or_none : (t : Bool) (b : ℕ) → length (cond t (b ∷ []) []) ≡ cond t 1 0
  one_or_none true b = refl
  one_or_none false b = refl

  pub count_below : (b : ℕ) → length (filter (reusable_at cs ns) (range_with_len 0 b)) ≡ reusable_count cs ns b
  count_below zero = refl
  count_below (suc b) =
      let p : ℕ → Bool = reusable_at cs ns in
      let turned = ap (λ n. filter p (map (λ x. x) (range_with_len 0 n))) (add-one b) in
      let more = ap (filter p) (sym (map-id (range_with_len 0 (suc b)))) ∙ sym turned ∙ filter_of_map_range_with_len_more p (λ (x : ℕ). x) 0 b b (zero-add b) in
      omega (arith, ap length more, ap (λ l. length (filter p l)) (map-id (range_with_len 0 b)), length-append (filter p (map (λ x. x) (range_with_len 0 b))) (cond (p b) (b ∷ []) []), one_or_none (p b) b, count_below b)

-- the elements that meet a test q, by their places, are as many as the places that meet p, where q and p agree
pub counted_by_place : {A : Type 0} (p : ℕ → Bool) (q : ℕ → A → Bool) (n : ℕ) (xs : List A) → ((i : ℕ) (x : A) → slice_get xs i ≡ Some x → q (n + i) x ≡ p (n + i)) → length (filter (λ (e : ℕ × A). q e.0 e.1) (enumerate_from n xs)) ≡ length (filter p (range_with_len n (length xs)))
counted_by_place p q n [] agree = refl
counted_by_place p q n (x ∷ xs) agree =
    let here : q n x ≡ p n = subst (λ m. q m x ≡ p m) (add-zero n) (agree zero x refl) in
    let next = counted_by_place p q (n + 1) xs (λ i y e. subst (λ m. q m y ≡ p m) (omega arith) (agree (suc i) y e)) in
    rw here (one_more (n, x) n _ _ (p n) next)
  where
    one_more : {B C : Type 0} (a : B) (b : C) (l : List B) (m : List C) (t : Bool) → length l ≡ length m → length (cond t (a ∷ l) l) ≡ length (cond t (b ∷ m) m)
    one_more a b l m true e = ap suc e
    one_more a b l m false e = e
