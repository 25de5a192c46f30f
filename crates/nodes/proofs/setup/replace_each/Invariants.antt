use Rattle.std.proofs.Common.{◌≡◌, ◌++◌, map, take, drop}
use Rattle.nodes.proofs.setup.replace_each.Given as goal

-- the elements passed are replaced
abbrev pub invariant-loop-item : goal.invariant-loop-item
invariant-loop-item g l =
    goal.F-IsAlwaysCallable g l.change
    × ((becomes : _) → ((x y : _) → goal.F-post g l.change x y → y ≡ becomes x) → l.items ≡ map becomes (take l.item-index l.initial.items) ++ drop l.item-index l.initial.items)
