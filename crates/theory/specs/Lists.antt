-- Members of a list, and how its elements stand to those that follow. Assumes nothing.
--     In x l            x is among l
--     Pairwise R l      each element of l stands in the relation R to all that follow it
--     Distinct l        no element is twice in l
--     spliced s p x l   the list l, which stands behind s, with x put in behind p, where p is s or among l
--     without y l       the list l without y
use Rattle.std.specs.Prelude.{◌≡◌, ℕ, cond, not, ◌⊎◌, List, [], ◌∷◌, filter, ◌==◌, ◌≢◌}
use Rattle.std.specs.List.{AllByRecursion}

module _ {A : Type 0} where
  abbrev pub In : A → List A → Type 0
  In x [] = ⊥
  In x (y ∷ l) = (x ≡ y) ⊎ In x l

  abbrev pub Pairwise : (A → A → Type 0) → List A → Type 0
  Pairwise R [] = Unit {0}
  Pairwise R (x ∷ l) = AllByRecursion (R x) l × Pairwise R l

  abbrev pub Distinct : List A → Type 0
  Distinct l = Pairwise (λ x y. x ≢ y) l

abbrev pub spliced : ℕ → ℕ → ℕ → List ℕ → List ℕ
spliced s p x [] = cond (s == p) (x ∷ []) []
spliced s p x (i ∷ l) = cond (s == p) (x ∷ i ∷ l) (i ∷ spliced i p x l)

abbrev pub without : ℕ → List ℕ → List ℕ
without y l = filter (λ i. not (i == y)) l
