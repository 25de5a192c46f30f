-- Nodes by their number, and what one field of a node becomes. Assumes nothing.
--     node_at ns i        the node with the number i, if there is one
--     o >>= f             what f makes of a value that is there; none is damage
--     or_damage o         the same as a function's answer
--     new_node x k        a node with the key x and the kind k, and nothing else
--     with_next n x       the node n with another next node; and so for lock, kind and retire number
use Rattle.std.specs.Prelude.{ℕ, Bool, true, false, List, Some, None, Ok, Err, Option, Result, ◌==◌}
use Rattle.std.specs.List.{slice_get}
use Rattle.nodes.specs.declared.node.Node.{Node}
use Rattle.nodes.specs.declared.node.Kind.{Kind}
use Rattle.nodes.specs.declared.refusal.Damage.{Damage}

infixl 1 ◌>>=◌
abbrev pub ◌>>=◌ : {A B : Type 0} → Option A → (A → Option B) → Option B
None >>= f = None
Some x >>= f = f x

-- what a function answers where none is damage
abbrev pub or_damage : {A : Type 0} → Option A → Result A Damage
or_damage None = Err (record {})
or_damage (Some x) = Ok x

-- a value, where a test holds
abbrev pub when : {A : Type 0} → Bool → Option A → Option A
when true o = o
when false o = None

abbrev pub same_number : Option ℕ → Option ℕ → Bool
same_number None None = true
same_number None (Some j) = false
same_number (Some i) None = false
same_number (Some i) (Some j) = i == j

module _ {K : Type 0} where
  abbrev pub node_at : List (Node K) → ℕ → Option (Node K)
  node_at ns i = slice_get ns i

  abbrev pub new_node : K → Kind → Node K
  new_node key kind = record { key = key; kind = kind; next = None; lock = None; retired = None }

  abbrev pub with_next : Node K → Option ℕ → Node K
  with_next n x = record { key = n.key; kind = n.kind; next = x; lock = n.lock; retired = n.retired }

  abbrev pub with_lock : Node K → Option ℕ → Node K
  with_lock n x = record { key = n.key; kind = n.kind; next = n.next; lock = x; retired = n.retired }

  abbrev pub with_kind : Node K → Kind → Node K
  with_kind n x = record { key = n.key; kind = x; next = n.next; lock = n.lock; retired = n.retired }

  abbrev pub with_retired : Node K → ℕ → Node K
  with_retired n x = record { key = n.key; kind = n.kind; next = n.next; lock = n.lock; retired = Some x }
