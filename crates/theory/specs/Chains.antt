-- Chains: a bare function `next` says which number follows a number, if one does. What a write does is told by the function before
-- and after it, at the numbers that meet a test `kept`; any other number may be written anew. Assumes nothing.
--     Linked next o l              from o on, next gives the list l and then none
--     AllKept kept l               every number of l is kept
--     Closed kept next             what follows a kept number is kept
--     OnlyAt kept next next' p     every kept number but p is followed by what followed it before
--     Links kept next next' p x    x is linked behind p: p is followed by x, x by what followed p, every other kept number by what followed it
--     Unlinks kept next next' p y  y is unlinked: it followed p, p is followed by what followed y, every other kept number by what followed it
use Rattle.std.specs.Prelude.{◌≡◌, ℕ, Bool, true, List, [], ◌∷◌, Some, None, Option, ◌≢◌}
use Rattle.std.specs.List.{AllByRecursion}

abbrev pub Linked : (ℕ → Option ℕ) → Option ℕ → List ℕ → Type 0
Linked next o [] = o ≡ None
Linked next o (i ∷ l) = (o ≡ Some i) × Linked next (next i) l

abbrev pub AllKept : (ℕ → Bool) → List ℕ → Type 0
AllKept kept l = AllByRecursion (λ i. kept i ≡ true) l

module _ (kept : ℕ → Bool) (next : ℕ → Option ℕ) where
  abbrev pub Closed : Type 0
  Closed = (i y : ℕ) → kept i ≡ true → next i ≡ Some y → kept y ≡ true

  abbrev pub OnlyAt : (ℕ → Option ℕ) → ℕ → Type 0
  OnlyAt next' p = (i : ℕ) → kept i ≡ true → (i ≢ p) → next' i ≡ next i

  pub record Links (next' : ℕ → Option ℕ) (p x : ℕ) : Type 0 where
    pub at : next' p ≡ Some x
    pub new : next' x ≡ next p
    pub else : OnlyAt next' p

  pub record Unlinks (next' : ℕ → Option ℕ) (p y : ℕ) : Type 0 where
    pub was : next p ≡ Some y
    pub at : next' p ≡ next y
    pub else : OnlyAt next' p
