-- What the lines of a list give, read from the lines with their indexes.
use Rattle.std.proofs.Common.{◌≡◌, ℕ, ◌+◌, zero, suc, List, [], ◌∷◌, ◌++◌, map, drop, Result, sym, refl, ap, ◌∙◌, arith, zero-add, Bor}
use Rattle.std.specs.List.{enumerate_from, flat_map}
use Rattle.std.proofs.lemmas.List.Folds.{flat_map-map}
use Rattle.names.specs.declared.name.Fault.{Fault}
use Rattle.names.specs.Listings.{entry, name_of, fault_of, names, faults}

drop_enumerated : {X : Type 0} (n k : ℕ) (xs : List X) → drop n (enumerate_from k xs) ≡ enumerate_from (k + n) (drop n xs)
drop_enumerated zero k xs = ap (λ m. enumerate_from m xs) (omega arith)
drop_enumerated (suc n) k [] = refl
drop_enumerated (suc n) k (x ∷ xs) = drop_enumerated n (k + 1) xs ∙ ap (λ m. enumerate_from m (drop n xs)) (omega arith)

module _ {X Y A : Type 0} (v : X → Y) where
  without_index : (h : Y → List A) (k : ℕ) (xs : List X) → flat_map (λ p. h (v p.1)) (enumerate_from k xs) ≡ flat_map h (map v xs)
  without_index h k [] = refl
  without_index h k (x ∷ xs) = ap (λ l. h (v x) ++ l) (without_index h (k + 1) xs)

  index_by_one : (h : ℕ → Y → List A) (k : ℕ) (xs : List X) → flat_map (λ p. h (p.0 + 1) (v p.1)) (enumerate_from k xs) ≡ flat_map (λ p. h p.0 p.1) (enumerate_from (k + 1) (map v xs))
  index_by_one h k [] = refl
  index_by_one h k (x ∷ xs) = ap (λ l. h (k + 1) (v x) ++ l) (index_by_one h (k + 1) xs)

-- seen are the lines from n on, with their indexes
module _ {K : Type 0} (named : List ℕ → Result K Fault) (ls : List (Bor (List ℕ))) (n : ℕ) (seen : List (ℕ × Bor (Bor (List ℕ)))) (all : map (λ p. (p.0, p.1.now)) seen ≡ drop n (enumerate_from 0 ls)) where
  on_lines : {A : Type 0} (h : ℕ × Bor (List ℕ) → List A) → flat_map (λ p. h (p.0, p.1.now)) seen ≡ flat_map h (enumerate_from n (drop n ls))
  on_lines h =
      sym (flat_map-map h (λ p. (p.0, p.1.now)) seen) ∙ ap (flat_map h) (all ∙ drop_enumerated n 0 ls ∙ ap (λ m. enumerate_from m (drop n ls)) (zero-add n))

  pub names_read : flat_map (λ p. name_of (entry named p.1.now.now)) seen ≡ names named (map (λ x. x.now) (drop n ls))
  names_read = on_lines (λ p. name_of (entry named p.1.now)) ∙ without_index (λ x. x.now) (λ l. name_of (entry named l)) n (drop n ls)

  pub faults_read : flat_map (λ p. fault_of (p.0 + 1) (entry named p.1.now.now)) seen ≡ faults named (n + 1) (map (λ x. x.now) (drop n ls))
  faults_read = on_lines (λ p. fault_of (p.0 + 1) (entry named p.1.now)) ∙ index_by_one (λ x. x.now) (λ m l. fault_of m (entry named l)) n (drop n ls)
