-- What has to be shown of each call for the history to exist, in the words of the history. Assumes nothing.
--     Point o a n m      call m, from the start of o to call n, is one at which the answer a was right and would change nothing
--     Due n o a          by call n the answer a is settled for o: it has changed the graph and a is yes, or it has such a point
--     Changes n o        call n + 1, a step of o, makes the change of yes, and no other step of o did before
--     Call n             what call n + 1 may do
--     Assembly           a run all of whose calls are so has a history
use Rattle.std.specs.Prelude.{◌≡◌, ℕ, suc, ◌≤◌, ◌⊎◌, Some, ◌≢◌}
use Rattle.nodes.specs.declared.controller.Answer.{Answer}
use Rattle.nodes.specs.declared.controller.Answer.TheVariants.{Yes, Circle}
use Rattle.law.specs.History.{Same, empty, Right, changed, Run, Op, answered, Steps, Ends, HandsOver, Over, Changed, Behind, Linearizes}

-- what the rules must show of each call for a history to stand
module _ {K : Type 0} (r : Run K) where
  -- at call m the answer a of o was right, and it would change nothing there
  pub record Point (o : Op K) (a : Answer) (n m : ℕ) : Type 0 where
    pub from : o.start ≤ m
    pub to : m ≤ n
    pub right : Right (r.graph m) (r.free m) o.request a
    pub still : Same (r.graph m) (answered (r.graph m) o.request a)

  -- by call n the answer a is owed to o
  abbrev pub Due : ℕ → Op K → Answer → Type 0
  Due n o a = (Changed r n o × (a ≡ Yes)) ⊎ ((Changed r n o → ⊥) × ((m : ℕ) × Point o a n m))

  -- call suc n, a step of o, changes the graph as the table says for yes, where yes was right
  pub record Changes (n : ℕ) (o : Op K) : Type 0 where
    pub step : Steps r o (suc n)
    pub first : Changed r n o → ⊥
    pub right : Right (r.graph n) (r.free (suc n)) o.request Yes
    pub makes : Same (changed (r.graph n) o.request) (r.graph (suc n))
    pub differs : Same (r.graph n) (r.graph (suc n)) → ⊥

  pub record Call (n : ℕ) : Type 0 where
    pub alive : (o : Op K) → Steps r o (suc n) → Over r n o → ⊥
    pub turn : Same (r.graph n) (r.graph (suc n)) ⊎ ((o : Op K) × Changes n o)
    pub ends : (o : Op K) → Ends r o (suc n) → (a : Answer) × (r.handing (suc n) o.by ≡ Some a) × Due (suc n) o a
    pub hands : (o : Op K) (a : Answer) → HandsOver r o a (suc n) → (j : ℕ) × (j ≤ n) × Ends r o j × (r.handing j o.by ≡ Some a)
    pub behind : (o : Op K) → Ends r o (suc n) → r.handing (suc n) o.by ≡ Some Circle → (o.request.u ≢ o.request.v) → Behind r o.request o.by o.start (suc n)

abbrev pub Assembly : (K : Type 0) → Type 1
Assembly K = (r : Run K) → Same (r.graph 0) empty → ((n : ℕ) → Call r n) → (n : ℕ) → Linearizes r n
