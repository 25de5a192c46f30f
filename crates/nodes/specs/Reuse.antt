-- Which nodes may be used again. Assumes nothing.
--     is_running p        an operation runs: it is started, and not finished
--     precedes c n        a running operation with a ticket below n
--     awaited cs n        some controller has such an operation
--     reusable cs i n     the node n, whose number is i, may be used again
--     highest b           the highest number below b of such a node
--     reusable_count b    how many numbers below b there are of such nodes
use Rattle.std.specs.List.{list_any}
use Rattle.std.specs.Prelude.{ℕ, zero, suc, ◌+◌, Bool, true, false, cond, not, ◌&&◌, ◌||◌, List, Some, None, Option, ◌==◌, nat_lt}
use Rattle.nodes.specs.declared.controller.Controller.{Controller}
use Rattle.nodes.specs.declared.controller.Phase.{Phase}
use Rattle.nodes.specs.declared.controller.Phase.TheVariants.{Idle, Find, Locate, LockFirst, LockSecond, Validate, Explore, Unlink, Unlock, NextJob, Finished}
use Rattle.nodes.specs.declared.node.Node.{Node}
use Rattle.nodes.specs.Access.{node_at}
use Rattle.nodes.specs.Chains.{is_vacant}

abbrev pub is_running : Phase → Bool
is_running Idle = false
is_running (Find l at) = true
is_running (Locate e at) = true
is_running (LockFirst e p) = true
is_running (LockSecond e p) = true
is_running (Validate e p) = true
is_running (Explore u v p t at) = true
is_running (Unlink p t n) = true
is_running (Unlock p o n) = true
is_running (NextJob j at) = true
is_running (Finished a) = false

module _ {K : Type 0} where
  abbrev pub precedes : Controller K → ℕ → Bool
  precedes c n = is_running c.phase && nat_lt c.ticket n

  abbrev pub awaited : List (Controller K) → ℕ → Bool
  awaited cs n = list_any (λ c. precedes c n) cs

  abbrev pub retired_long : List (Controller K) → Option ℕ → Bool
  retired_long cs None = false
  retired_long cs (Some n) = not (awaited cs n)

  abbrev pub reusable : List (Controller K) → ℕ → Node K → Bool
  reusable cs i n = not (i == 0) && (is_vacant n.kind || retired_long cs n.retired)

  abbrev pub reusable_at : List (Controller K) → List (Node K) → ℕ → Bool
  reusable_at cs ns i = elim (node_at ns i) [ None ↦ false | Some n ↦ reusable cs i n ]

  abbrev pub highest : List (Controller K) → List (Node K) → ℕ → Option ℕ
  highest cs ns zero = None
  highest cs ns (suc b) = cond (reusable_at cs ns b) (Some b) (highest cs ns b)

  abbrev pub reusable_count : List (Controller K) → List (Node K) → ℕ → ℕ
  reusable_count cs ns zero = 0
  reusable_count cs ns (suc b) = cond (reusable_at cs ns b) 1 0 + reusable_count cs ns b
