-- Reachability along chains: it lasts from every kept number to every number that stays, under linking, unlinking and the reuse of numbers
-- that are not kept, for `Reach`, which counts the number itself, and for `Ahead`, which does not; a sentinel reaches all of its chain, itself, and
-- nothing else; a move along next keeps what is still ahead.
use Rattle.std.proofs.Common.{◌≡◌, ℕ, Bool, true, ◌⊎◌, List, [], ◌∷◌, Some, None, Option, sym, refl, ap, ◌∙◌, inl, inr}
use Rattle.std.proofs.lemmas.Bool.{cases_eq}
use Rattle.theory.specs.Chains.{Linked, Closed, Links, Unlinks}
use Rattle.theory.specs.Lists.{In}
use Rattle.theory.specs.Reach.{Reach, Ahead}
use Rattle.theory.specs.Reach.{Reach.here, Reach.onward}
use Rattle.theory.proofs.Chains.{linked_next}

module _ (next : ℕ → Option ℕ) where
  -- ---- itself, or ahead

  pub reach_cases : (x f : ℕ) → Reach next x f → (x ≡ f) ⊎ Ahead next x f
  reach_cases x f (here e) = inl e
  reach_cases x f (onward {y = y} q r) = inr (record { first = y; is = q; reach = r })

  pub ahead_reach : (x f : ℕ) → Ahead next x f → Reach next x f
  ahead_reach x f a = onward a.is a.reach

  -- a move along next keeps what is still ahead
  pub ahead_move : (x y f : ℕ) → next x ≡ Some y → Ahead next x f → (y ≡ f) ⊎ Ahead next y f
  ahead_move x y f e a = let same : y ≡ a.first = cc in reach_cases y f (rw same a.reach)

  -- nothing is ahead of the last number of a chain
  pub ahead_none : (x f : ℕ) → next x ≡ None → Ahead next x f → ⊥
  ahead_none x f e a = cc

  -- ---- along a chain

  -- what passes on from each number to the next holds of all that is reached
  pub reach_along : (P : ℕ → Type 0) → ((x y : ℕ) → P x → next x ≡ Some y → P y) → (x f : ℕ) → P x → Reach next x f → P f
  reach_along P step x f p (here q) = rw (sym q) p
  reach_along P step x f p (onward {y = y} q r) = reach_along P step y f (step x y p q) r

  -- a transitive relation of each kept number to the next one holds of all that is ahead
  pub ahead_relates : (kept : ℕ → Bool) → Closed kept next → (R : ℕ → ℕ → Type 0) → ((x y z : ℕ) → R x y → R y z → R x z) →
      ((x y : ℕ) → kept x ≡ true → next x ≡ Some y → R x y) → (x f : ℕ) → kept x ≡ true → Ahead next x f → R x f
  ahead_relates kept closed R tr step x f k a = from x k a.first a.is a.reach
    where
      from : (x : ℕ) → kept x ≡ true → (y : ℕ) → next x ≡ Some y → Reach next y f → R x f
      from x k y e (here q) = rw (sym q) (step x y k e)
      from x k y e (onward {y = z} q r) = tr x y f (step x y k e) (from y (closed x y k e) z q r)

  -- a sentinel reaches all of its chain
  pub ahead_chain : (s : ℕ) (l : List ℕ) → Linked next (next s) l → (i : ℕ) → In i l → Ahead next s i
  ahead_chain s [] h i m = absurd m
  ahead_chain s (j ∷ l) h i (inl e) = record { first = j; is = h.0; reach = here (sym e) }
  ahead_chain s (j ∷ l) h i (inr m) = record { first = j; is = h.0; reach = ahead_reach j i (ahead_chain j l h.1 i m) }

  -- and itself, and nothing else
  pub reach_in_chain : (s : ℕ) (l : List ℕ) → Linked next (next s) l → (f : ℕ) → Reach next s f → In f (s ∷ l)
  reach_in_chain s l h f r = reach_along (λ i. In i (s ∷ l)) (λ x y m q. inr (linked_next next s l h x y q m)) s f (inl refl) r

-- ---- before and after a write

module _ (kept : ℕ → Bool) (next next' : ℕ → Option ℕ) (closed : Closed kept next) where
  -- after the write, f is ahead of a number if it is reached from the one that followed before
  abbrev Steps : ℕ → Type 0
  Steps f = (z n : ℕ) → kept z ≡ true → next z ≡ Some n → Reach next' n f → Ahead next' z f

  reach_by_steps : (f : ℕ) → Steps f → (z : ℕ) → kept z ≡ true → Reach next z f → Reach next' z f
  reach_by_steps f step z k (here q) = here q
  reach_by_steps f step z k (onward {y = n} q r) = ahead_reach next' z f (step z n k q (reach_by_steps f step n (closed z n k q) r))

  ahead_by_steps : (f : ℕ) → Steps f → (z : ℕ) → kept z ≡ true → Ahead next z f → Ahead next' z f
  ahead_by_steps f step z k a = step z a.first k a.is (reach_by_steps f step a.first (closed z a.first k a.is) a.reach)

  -- numbers that are not kept are used anew
  module _ (same : (i : ℕ) → kept i ≡ true → next' i ≡ next i) where
    reuse_step : (f : ℕ) → Steps f
    reuse_step f z n k e r = record { first = n; is = same z k ∙ e; reach = r }

    pub reach_reuse : (z f : ℕ) → kept z ≡ true → Reach next z f → Reach next' z f
    reach_reuse z f = reach_by_steps f (reuse_step f) z

    pub ahead_reuse : (z f : ℕ) → kept z ≡ true → Ahead next z f → Ahead next' z f
    ahead_reuse z f = ahead_by_steps f (reuse_step f) z

  -- x is linked behind p
  module _ (p x : ℕ) (w : Links kept next next' p x) where
    link_step : (f : ℕ) → Steps f
    link_step f z n k e r = elim (cases_eq z p) [
      | inl q ↦ record { first = x; is = cc; reach = onward (cc) r }
      | inr ne ↦ record { first = n; is = w.else z k ne ∙ e; reach = r }
    ]

    pub reach_link : (z f : ℕ) → kept z ≡ true → Reach next z f → Reach next' z f
    reach_link z f = reach_by_steps f (link_step f) z

    pub ahead_link : (z f : ℕ) → kept z ≡ true → Ahead next z f → Ahead next' z f
    ahead_link z f = ahead_by_steps f (link_step f) z

  -- y, which follows p, is unlinked, and f is another number
  module _ (p y : ℕ) (w : Unlinks kept next next' p y) where
    unlink_step : (f : ℕ) → (y ≡ f → ⊥) → Steps f
    unlink_step f stays z n k e r = go (cases_eq z p) (cases_eq y p)
      where
        -- z is p: it is followed by what follows y, which is n
        past : z ≡ p → (y ≡ p → ⊥) → n ≡ y → (n ≡ f) ⊎ Ahead next' n f → Ahead next' z f
        past q d m (inl u) = absurd (stays (sym m ∙ u))
        past q d m (inr a) =
            let ky : kept y ≡ true = closed z y k (e ∙ ap Some m) in
            record { first = a.first; is = cc (w.else y ky d); reach = a.reach }

        go : (z ≡ p) ⊎ (z ≡ p → ⊥) → (y ≡ p) ⊎ (y ≡ p → ⊥) → Ahead next' z f
        go (inr ne) d = record { first = n; is = w.else z k ne ∙ e; reach = r }
        go (inl q) (inl d) = record { first = n; is = cc; reach = r }
        go (inl q) (inr d) = past q d (cc) (reach_cases next' n f r)

    pub reach_unlink : (z f : ℕ) → (y ≡ f → ⊥) → kept z ≡ true → Reach next z f → Reach next' z f
    reach_unlink z f stays = reach_by_steps f (unlink_step f stays) z

    pub ahead_unlink : (z f : ℕ) → (y ≡ f → ⊥) → kept z ≡ true → Ahead next z f → Ahead next' z f
    ahead_unlink z f stays = ahead_by_steps f (unlink_step f stays) z
