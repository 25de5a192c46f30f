-- Lists as memory: one field of the elements, by their numbers, and writes. Assumes nothing.
--     of_element f d o     what f gives of an element that is there, and else d
--     field f d l i        what f gives of element i of l, and d past the end
--     writes l ws          the list after the writes ws, each a place and a value, one after the other
--     places ws            the places that are written
--     Rewrites f d l j w   the write w, if it is to j, leaves the field of j as it is
use Rattle.std.specs.Prelude.{◌≡◌, ℕ, List, [], ◌∷◌, map, Some, None, Option, slice_set}
use Rattle.std.specs.List.{slice_get}

abbrev pub of_element : {A B : Type 0} → (A → B) → B → Option A → B
of_element f d None = d
of_element f d (Some x) = f x

unfoldable pub field : {A B : Type 0} → (A → B) → B → List A → ℕ → B
field f d l i = of_element f d (slice_get l i)

module _ {A : Type 0} where
  abbrev pub writes : List A → List (ℕ × A) → List A
  writes l [] = l
  writes l (w ∷ ws) = writes (slice_set l w.0 w.1) ws

  abbrev pub places : List (ℕ × A) → List ℕ
  places ws = map (λ w. w.0) ws

abbrev pub Rewrites : {A B : Type 0} → (A → B) → B → List A → ℕ → ℕ × A → Type 0
Rewrites f d l j w = j ≡ w.0 → f w.1 ≡ field f d l j
