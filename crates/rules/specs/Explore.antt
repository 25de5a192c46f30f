-- Explore: does a way over waits lead from v to u? Each step does the first that applies. Assumes nothing.
--     reject p t a          the tentative wait t is removed, and the answer will be a
--     follow w n            onto the next node n of a chain: an unvisited target of a wait there becomes frontier
--     expand w i            the frontier node i is expanded: its chain is followed from its sentinel
--     conclude u v p t        nothing is left to follow: the wait is committed, unless u or v is removed
--     explore …             the step
use Rattle.std.specs.Prelude.{ℕ, Bool, true, false, cond, not, ◌&&◌, ◌||◌, List, length, Some, None, Option, ◌==◌}
use Rattle.nodes.specs.declared.controller.JobRef.{JobRef}
use Rattle.nodes.specs.declared.node.Node.{Node}
use Rattle.nodes.specs.declared.controller.Answer.{Answer}
use Rattle.nodes.specs.declared.controller.Answer.TheVariants.{Yes, No, Circle}
use Rattle.nodes.specs.declared.controller.Phase.TheVariants.{Explore, Unlink, Unlock}
use Rattle.nodes.specs.declared.controller.Then.TheVariants.{Finish}
use Rattle.nodes.specs.declared.node.Kind.{Kind}
use Rattle.nodes.specs.declared.node.Kind.TheVariants.{Vacant, Sentinel, Job, Wait}
use Rattle.nodes.specs.declared.node.WaitState.TheVariants.{Tentative, Committed, Removed}
use Rattle.nodes.specs.declared.traverse.Chain.TheVariants.{Waits}
use Rattle.nodes.specs.Access.{◌>>=◌, when, node_at}
use Rattle.nodes.specs.Chains.{is_sentinel, in_chain, heads, job_ref}
use Rattle.rules.specs.declared.decision.Decision.{Decision}
use Rattle.rules.specs.declared.decision.Decision.TheVariants.{Take}
use Rattle.rules.specs.declared.decision.Effect.TheVariants.{Nothing, MarkRemoved, Commit}
use Rattle.rules.specs.declared.decision.Marking.{Marking}
use Rattle.rules.specs.declared.decision.Marking.TheVariants.{Keep, Set}
use Rattle.rules.specs.declared.decision.Mark.TheVariants.{Unvisited, Frontier, Expanded}
use Rattle.rules.specs.Find.{gone}
use Rattle.rules.specs.Marks.{mark_byte}
use Rattle.rules.specs.Write.{moves, takes, mark_at, own, lowest_frontier}

-- a job of that generation that is not removed
abbrev pub is_target : ℕ → Kind → Bool
is_target g Vacant = false
is_target g Sentinel = false
is_target g (Job h s r) = not r && h == g
is_target g (Wait h t s) = false

module _ {K : Type 0} where
  abbrev pub reject : List (Node K) → ℕ × Option ℕ → ℕ → Answer → Option (Decision K)
  reject ns p t a = node_at ns t >>= λ x. when (in_chain Waits x.kind) (takes (MarkRemoved t) (Unlink p t (Finish a)))

  -- the marking for the target of a wait that is not removed
  abbrev pub reach : List (Node K) → List ℕ → ℕ → ℕ → ℕ → Option Marking
  reach ns ms w g i =
      node_at ns i >>= λ x. mark_at (length ns) w i ms >>= λ m.
      Some (cond (is_target g x.kind && m == mark_byte Unvisited) (Set i Frontier) Keep)

  abbrev pub reach_by : List (Node K) → List ℕ → ℕ → Kind → Option Marking
  reach_by ns ms w Vacant = None
  reach_by ns ms w Sentinel = None
  reach_by ns ms w (Job g s r) = None
  reach_by ns ms w (Wait g t s) = elim s [ Tentative ↦ reach ns ms w g t | Committed ↦ reach ns ms w g t | Removed ↦ Some Keep ]

  unfoldable pub follow : List (Node K) → List ℕ → ℕ → JobRef → JobRef → ℕ × Option ℕ → ℕ → ℕ → Option (Decision K)
  follow ns ms w u v p t n =
      node_at ns n >>= λ y. reach_by ns ms w y.kind >>= λ k. Some (Take Nothing k (Explore u v p t (Some n)))

  unfoldable pub expand : List (Node K) → JobRef → JobRef → ℕ × Option ℕ → ℕ → ℕ → Option (Decision K)
  expand ns u v p t i =
      node_at ns i >>= λ x. job_ref i x.kind >>= λ j. node_at ns j.sentinel >>= λ s.
      when (is_sentinel s.kind) (Some (Take Nothing (Set i Expanded) (Explore u v p t (Some j.sentinel))))

  unfoldable pub conclude : List (Node K) → JobRef → JobRef → ℕ × Option ℕ → ℕ → Option (Decision K)
  conclude ns u v p t =
      gone ns u >>= λ a. gone ns v >>= λ b.
      elim (a || b) [ true ↦ reject ns p t No | false ↦ takes (Commit t) (Unlock p (Some t) (Finish Yes)) ]

  abbrev pub in_chain_at : List (Node K) → List ℕ → ℕ → JobRef → JobRef → ℕ × Option ℕ → ℕ → Option ℕ → Option (Decision K)
  in_chain_at ns ms w u v p t (Some n) = follow ns ms w u v p t n
  in_chain_at ns ms w u v p t None = moves (Explore u v p t None)

  abbrev pub by_place : List (Node K) → List ℕ → ℕ → JobRef → JobRef → ℕ × Option ℕ → ℕ → Option ℕ → Option (Decision K)
  by_place ns ms w u v p t (Some at) = node_at ns at >>= λ x. when (heads Waits x.kind) (in_chain_at ns ms w u v p t x.next)
  by_place ns ms w u v p t None = elim (lowest_frontier (own (length ns) w ms)) [ Some i ↦ expand ns u v p t i | None ↦ conclude ns u v p t ]

  unfoldable pub explore : List (Node K) → List ℕ → ℕ → JobRef → JobRef → ℕ × Option ℕ → ℕ → Option ℕ → Option (Decision K)
  explore ns ms w u v p t place =
      mark_at (length ns) w u.node ms >>= λ m.
      elim (m == mark_byte Unvisited) [ false ↦ reject ns p t Circle | true ↦ by_place ns ms w u v p t place ]
