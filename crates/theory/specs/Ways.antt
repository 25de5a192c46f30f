-- Ways over a relation of edges. Assumes nothing.
--     Leads edge a b           one edge or more lead from a to b
--     Way edge a b             a is b, or edges lead from a to b
--     Acyclic edge             nothing is led back to itself
--     With edge a b            the edges, and one more from a to b
--     Avoiding edge b          the edges that do not begin at b
--     Older edge s             the edges with stamps below s, where edge t x y is an edge with the stamp t
--     Stamped edge             the edges with any stamp
use Rattle.std.specs.Prelude.{◌≡◌, ℕ, ◌<◌, ◌⊎◌, ◌≢◌}

module _ {A : Type 0} where
  pub data Leads (edge : A → A → Type 0) : A → A → Type 0 where
    last : {a b : A} → edge a b → Leads edge a b
    more : {a b c : A} → edge a b → Leads edge b c → Leads edge a c

  abbrev pub Way : (A → A → Type 0) → A → A → Type 0
  Way edge a b = (a ≡ b) ⊎ Leads edge a b

  abbrev pub Acyclic : (A → A → Type 0) → Type 0
  Acyclic edge = (x : A) → Leads edge x x → ⊥

  abbrev pub With : (A → A → Type 0) → A → A → A → A → Type 0
  With edge a b x y = edge x y ⊎ ((x ≡ a) × (y ≡ b))

  abbrev pub Avoiding : (A → A → Type 0) → A → A → A → Type 0
  Avoiding edge b x y = edge x y × (x ≢ b)

  abbrev pub Older : (ℕ → A → A → Type 0) → ℕ → A → A → Type 0
  Older edge s x y = (t : ℕ) × (t < s) × edge t x y

  abbrev pub Stamped : (ℕ → A → A → Type 0) → A → A → Type 0
  Stamped edge x y = (t : ℕ) × edge t x y
