-- The memory of a board, and what set-up makes of it. Assumes nothing.
--     Memory               header, nodes, controllers and marks
--     fits m               1 to 4096 nodes, 1 to 16 controllers, and for each of them a mark for each node
--     fresh_nodes ns       node 0 the main sentinel, the others vacant; keys stay, all else is none
--     fresh_controller c   idle; keys stay
--     lent b               what a board's references point to
--     set_up f m           what set-up with the first ticket f answers, and the memory after it
use Rattle.std.specs.Prelude.{ℕ, ◌*◌, Bool, true, false, ◌&&◌, List, [], ◌∷◌, map, length, None, Ok, Err, Result, ◌==◌, nat_le}
use Rattle.nodes.specs.declared.controller.Controller.{Controller}
use Rattle.nodes.specs.declared.controller.Phase.TheVariants.{Idle}
use Rattle.nodes.specs.declared.node.Node.{Node}
use Rattle.nodes.specs.declared.node.Kind.{Kind}
use Rattle.nodes.specs.declared.node.Kind.TheVariants.{Vacant, Sentinel}
use Rattle.nodes.specs.declared.refusal.Refusal.{Refusal}
use Rattle.nodes.specs.declared.refusal.Refusal.TheVariants.{Misfit, BadFirst}
use Rattle.nodes.specs.declared.setup.Board.{Board}
use Rattle.nodes.specs.declared.setup.Header.{Header}
use Rattle.nodes.specs.Access.{new_node}

pub record Memory (K : Type 0) : Type 0 where
  pub header : Header
  pub nodes : List (Node K)
  pub controllers : List (Controller K)
  pub marks : List ℕ

abbrev pub sizes_fit : ℕ → ℕ → ℕ → Bool
sizes_fit n c m = nat_le 1 n && (nat_le n 4096 && (nat_le 1 c && (nat_le c 16 && m == c * n)))

module _ {K : Type 0} where
  abbrev pub fits : Memory K → Bool
  fits m = sizes_fit (length m.nodes) (length m.controllers) (length m.marks)

  abbrev pub cleared : Kind → Node K → Node K
  cleared kind n = new_node n.key kind

  abbrev pub fresh_nodes : List (Node K) → List (Node K)
  fresh_nodes [] = []
  fresh_nodes (n ∷ ns) = cleared Sentinel n ∷ map (cleared Vacant) ns

  abbrev pub fresh_controller : Controller K → Controller K
  fresh_controller c = record { operation = None; u = c.u; v = c.v; ticket = 0; phase = Idle }

  abbrev pub fresh : ℕ → Memory K → Memory K
  fresh first m = record {
    header = record { next_ticket = first };
    nodes = fresh_nodes m.nodes;
    controllers = map fresh_controller m.controllers;
    marks = map (λ _. 0) m.marks;
  }

  abbrev pub set_up : ℕ → Memory K → Result (Unit {0}) Refusal × Memory K
  set_up first m = elim (fits m) [
    | false ↦ (Err Misfit, m)
    | true ↦ elim (first == 0) [ true ↦ (Err BadFirst, m) | false ↦ (Ok tt, fresh first m) ]
  ]

  abbrev pub memory : Header → List (Node K) → List (Controller K) → List ℕ → Memory K
  memory h ns cs ms = record { header = h; nodes = ns; controllers = cs; marks = ms }

  abbrev pub lent : Board K → Memory K
  lent b = memory b.header.now b.nodes.now b.controllers.now b.marks.now
