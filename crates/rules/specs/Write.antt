-- What a decision writes: to nodes, to the controller's record and to its marks. Assumes nothing.
--     moves p              goes on to the phase p and writes nothing else
--     takes e p            writes the effect e and goes on to the phase p
--     applied w n e ns     the nodes after the effect e of controller w, where n is the next ticket; none is damage
--     mark_at n w i ms     the mark of controller w for node i, where there are n nodes
--     own n w ms           the marks of controller w
--     lowest_frontier ms   the lowest number that is marked as the frontier
--     marked n w k ms      the marks after the marking k of controller w
use Rattle.std.specs.Prelude.{ℕ, ◌+◌, ◌*◌, List, ◌++◌, take, drop, replicate, Some, Option, ◌==◌, nat_lt, slice_set}
use Rattle.std.specs.List.{slice_get, position}
use Rattle.nodes.specs.declared.controller.Phase.{Phase}
use Rattle.nodes.specs.declared.node.Node.{Node}
use Rattle.nodes.specs.Access.{when}
use Rattle.nodes.specs.Effects.{lock, unlock, link_job, link_wait, mark_removed, commit, unlink, retire}
use Rattle.rules.specs.declared.decision.Decision.{Decision}
use Rattle.rules.specs.declared.decision.Decision.TheVariants.{Take}
use Rattle.rules.specs.declared.decision.Effect.{Effect}
use Rattle.rules.specs.declared.decision.Effect.TheVariants.{Nothing, Lock, Unlock, LinkJob, LinkWait, MarkRemoved, Commit, Unlink, Retire}
use Rattle.rules.specs.declared.decision.Marking.{Marking}
use Rattle.rules.specs.declared.decision.Marking.TheVariants.{Keep, Begin, Set}
use Rattle.rules.specs.declared.decision.Mark.TheVariants.{Unvisited, Frontier}
use Rattle.rules.specs.Marks.{mark_byte}

module _ {K : Type 0} where
  abbrev pub moves : Phase → Option (Decision K)
  moves p = Some (Take Nothing Keep p)

  abbrev pub takes : Effect K → Phase → Option (Decision K)
  takes e p = Some (Take e Keep p)

  abbrev pub applied : ℕ → ℕ → Effect K → List (Node K) → Option (List (Node K))
  applied w n Nothing ns = Some ns
  applied w n (Lock i) ns = lock w i ns
  applied w n (Unlock p o) ns = unlock w p o ns
  applied w n (LinkJob p j key) ns = link_job p j key ns
  applied w n (LinkWait p t key v) ns = link_wait p t key w v ns
  applied w n (MarkRemoved i) ns = mark_removed i ns
  applied w n (Commit i) ns = commit i ns
  applied w n (Unlink i j) ns = unlink i j n ns
  applied w n (Retire i) ns = retire i n ns

abbrev pub mark_at : ℕ → ℕ → ℕ → List ℕ → Option ℕ
mark_at n w i ms = when (nat_lt i n) (slice_get ms (w * n + i))

abbrev pub own : ℕ → ℕ → List ℕ → List ℕ
own n w ms = take n (drop (w * n) ms)

abbrev pub lowest_frontier : List ℕ → Option ℕ
lowest_frontier ms = position (λ m. m == mark_byte Frontier) ms

abbrev pub unvisited : ℕ → ℕ → List ℕ → List ℕ
unvisited n w ms = take (w * n) ms ++ (replicate n (mark_byte Unvisited) ++ drop (w * n + n) ms)

abbrev pub marked : ℕ → ℕ → Marking → List ℕ → List ℕ
marked n w Keep ms = ms
marked n w (Begin i) ms = slice_set (unvisited n w ms) (w * n + i) (mark_byte Frontier)
marked n w (Set i m) ms = slice_set ms (w * n + i) (mark_byte m)
