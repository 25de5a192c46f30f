-- A list rises exactly if each of its neighbours do: from what the library tells of neighbours.
use Rattle.std.proofs.Common.{◌≡◌, ℕ, ◌+◌, ◌<◌, Bool, true, false, ◌&&◌, List, [], ◌∷◌, length, get_or, Some, suc, zero, sym, refl, subst, arith}
use Rattle.std.specs.List.{IsAllAdjacentAnswer}
use Rattle.std.specs.Ordering.{is_lt}
use Rattle.std.specs.declared.cmp.Ordering.{Ordering}
use Rattle.order.specs.Lists.{rises_after, rising}

module _ {K : Type 0} (order : K → K → Ordering) where
  abbrev pub below : K → K → Bool
  below x y = is_lt (order x y)

  -- what is told of the neighbours at a place, of those one place further on, the list without its first key
  shifted : {b : Bool} (x : K) (xs : List K) (k : ℕ) (d : K) → b ≡ below (get_or (x ∷ xs) (suc k) d) (get_or (x ∷ xs) (suc k + 1) d) → b ≡ below (get_or xs k d) (get_or xs (k + 1) d)
  shifted {b} x xs k d e = let one : suc k + 1 ≡ suc (k + 1) = omega arith in subst (λ n. b ≡ below (get_or xs k d) (get_or (x ∷ xs) n d)) one e

  rises_from : (x : K) (xs : List K) → ((k : ℕ) (d : K) → k + 1 < length (x ∷ xs) → true ≡ below (get_or (x ∷ xs) k d) (get_or (x ∷ xs) (k + 1) d)) → true ≡ rises_after order (Some x) xs
  rises_from x [] all = refl
  rises_from x (y ∷ ys) all = rw (sym (all zero x (omega arith))) (rises_from y ys (λ k d lt. shifted x (y ∷ ys) k d (all (suc k) d (omega arith))))

  stops_at : (x : K) (xs : List K) (k : ℕ) → k + 1 < length (x ∷ xs) → ((d : K) → false ≡ below (get_or (x ∷ xs) k d) (get_or (x ∷ xs) (k + 1) d)) → false ≡ rises_after order (Some x) xs
  stops_at x [] k lt one = absurd (omega arith)
  stops_at x (y ∷ ys) zero lt one = rw (sym (one x)) refl
  stops_at x (y ∷ ys) (suc k) lt one = rw (sym (stops_at y ys k (omega arith) (λ d. shifted x (y ∷ ys) k d (one d)))) (both (below x y))
    where
      both : (b : Bool) → false ≡ b && false
      both true = refl
      both false = refl

  pub rising_by_neighbours : (xs : List K) (r : Bool) → IsAllAdjacentAnswer (λ x y b. b ≡ below x y) xs r → r ≡ rising order xs
  rising_by_neighbours [] true all = refl
  rising_by_neighbours [] false one = absurd (omega arith)
  rising_by_neighbours (x ∷ xs) true all = rises_from x xs all
  rising_by_neighbours (x ∷ xs) false (k, lt, one) = stops_at x xs k lt one
