-- What has to be shown of each call, in the form in which rules deliver it: by the stage of each controller. Assumes nothing.
--     Stage              rest; seek: nothing changed, no answer settled; bound: it has changed the graph, and will answer yes;
--                        owed: its answer is settled; done: it has finished
--     since n c          the call that started the operation of controller c
--     Settles, Sets      an answer settles without a change; call n + 1 makes the change of yes
--     Went n c s t       what a step of controller c, call n + 1, may do, from the stage s to the stage t
--     Move n e           what a call that did e does to the graph and the stages
--     Ledger             the run begins with an empty graph at rest, and every call makes such a move
use Rattle.std.specs.Prelude.{◌≡◌, ℕ, suc, ◌≤◌, Some, None, ◌≢◌}
use Rattle.nodes.specs.declared.controller.Answer.{Answer}
use Rattle.nodes.specs.declared.controller.Answer.TheVariants.{Yes, Circle}
use Rattle.law.specs.History.{Same, empty, Request, Right, changed, answered, Run, Event, latest, Behind}
use Rattle.law.specs.History.{Event.started, Event.stepped, Event.finished, Event.collected, Event.other}

-- how far a controller's operation is: it has changed nothing and owes no answer yet; it has changed the graph and will answer yes;
-- its answer is settled; it has finished
pub data Stage (K : Type 0) : Type 0 where
  rest : Stage K
  seek : Request K → Stage K
  bound : Request K → Stage K
  owed : Request K → Answer → Stage K
  done : Request K → Answer → Stage K

module _ {K : Type 0} (r : Run K) where
  -- the call that started the operation of controller c
  abbrev pub since : ℕ → ℕ → ℕ
  since n c = elim (latest r c n) [ None ↦ 0 | Some o ↦ o.start ]

  -- an answer without a change: at a call since the start it was right, and would have changed nothing
  pub record Settles (n c : ℕ) (t : Request K) (a : Answer) : Type 0 where
    pub point : ℕ
    pub from : since n c ≤ point
    pub to : point ≤ suc n
    pub right : Right (r.graph point) (r.free point) t a
    pub still : Same (r.graph point) (answered (r.graph point) t a)
    pub circle : a ≡ Circle → (t.u ≢ t.v) → Behind r t c (since n c) (suc n)

  -- call suc n makes the change of yes, where yes is right
  pub record Sets (n : ℕ) (t : Request K) : Type 0 where
    pub right : Right (r.graph n) (r.free (suc n)) t Yes
    pub makes : Same (changed (r.graph n) t) (r.graph (suc n))
    pub differs : Same (r.graph n) (r.graph (suc n)) → ⊥

  abbrev pub Unchanged : ℕ → Type 0
  Unchanged n = Same (r.graph n) (r.graph (suc n))

  -- what call suc n, a step of controller c, may do
  pub data Went (n c : ℕ) : Stage K → Stage K → Type 0 where
    seeks : {t : Request K} → Unchanged n → Went n c (seek t) (seek t)
    settles : {t : Request K} {a : Answer} → Unchanged n → Settles n c t a → Went n c (seek t) (owed t a)
    binds : {t : Request K} → Sets n t → Went n c (seek t) (bound t)
    sets : {t : Request K} → Sets n t → Went n c (seek t) (owed t Yes)
    goes_on : {t : Request K} → Unchanged n → Went n c (bound t) (bound t)
    ends_yes : {t : Request K} → Unchanged n → Went n c (bound t) (owed t Yes)
    owes : {t : Request K} {a : Answer} → Unchanged n → Went n c (owed t a) (owed t a)

  module _ (stage : ℕ → ℕ → Stage K) where
    abbrev pub Others : ℕ → ℕ → Type 0
    Others n c = (d : ℕ) → (d ≢ c) → stage (suc n) d ≡ stage n d

    -- what call suc n does to graph and stages
    abbrev pub Move : ℕ → Event K → Type 0
    Move n (started c t) = Unchanged n × Others n c × (stage (suc n) c ≡ seek t)
    Move n (stepped c) = Others n c × Went n c (stage n c) (stage (suc n) c)
    Move n (finished c) = Others n c × ((t : Request K) × (a : Answer) × Went n c (stage n c) (owed t a) × (stage (suc n) c ≡ done t a))
    Move n (collected c a) = Unchanged n × Others n c × ((t : Request K) × (stage n c ≡ done t a)) × (stage (suc n) c ≡ rest)
    Move n other = Unchanged n × ((d : ℕ) → stage (suc n) d ≡ stage n d)

    pub record Ledger : Type 0 where
      pub bare : Same (r.graph 0) empty
      pub resting : (c : ℕ) → stage 0 c ≡ rest
      pub hands : (n c : ℕ) (t : Request K) (a : Answer) → stage n c ≡ done t a → r.handing n c ≡ Some a
      pub moves : (n : ℕ) → Move n (r.event (suc n))
