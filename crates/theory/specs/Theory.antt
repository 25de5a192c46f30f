-- The central facts of this crate, as the contract of `theory_holds` names them. Sets and relations are given by tests here, since a contract
-- speaks in the lowest universe; the lemmas on lists, relations and ways in proofs/ hold of any. Assumes nothing.
--     ChainFacts            chains as lists, and what linking and unlinking make of them
--     ReachFacts            reachability along chains
--     Passes test           the edges given by a test
--     WayFacts A            ways over edges between elements of A
--     CountFacts A          how many numbers meet a test; lists of those; joined lists of numbers, and of elements of A
--     FieldFacts A B        a field of type B of a list of elements of A, past its end and after writes
--     KeyFacts order A      keys along chains; the greatest key of elements of A
--     Examples              the definitions at work on small lists, and on the chains three, four and three_again
use Rattle.std.specs.Prelude.{◌≡◌, ℕ, zero, suc, ◌<◌, ◌≤◌, Bool, true, false, ◌⊎◌, ◌↔◌, List, [], ◌∷◌, ◌++◌, map, length, Some, None, sum_by, Option, ◌≢◌, nat_lt}
use Rattle.std.specs.List.{flat_map, AllByRecursion}
use Rattle.std.specs.declared.cmp.Ordering.{Ordering}
use Rattle.order.specs.Lists.{rising}
use Rattle.std.specs.Ordering.{nat_cmp}
use Rattle.theory.specs.Chains.{Linked, AllKept, Closed, OnlyAt, Links, Unlinks}
use Rattle.theory.specs.Counts.{Meets, count}
use Rattle.theory.specs.Fields.{field, writes, places, Rewrites}
use Rattle.theory.specs.Keys.{KeyBefore, Rises, Greatest, Arrives}
use Rattle.theory.specs.Lists.{In, Distinct, spliced, without}
use Rattle.theory.specs.Reach.{Reach, Ahead}
use Rattle.theory.specs.Ways.{Leads, Way, Acyclic, With, Avoiding, Older, Stamped}

pub record ChainFacts : Type 0 where
  pub list_is_unique : (next : ℕ → Option ℕ) (o : Option ℕ) (l m : List ℕ) → Linked next o l → Linked next o m → l ≡ m
  pub no_number_twice : (next : ℕ → Option ℕ) (o : Option ℕ) (l : List ℕ) → Linked next o l → Distinct l
  pub write_elsewhere_keeps :
      (kept : ℕ → Bool) (next next' : ℕ → Option ℕ) (p : ℕ) → OnlyAt kept next next' p →
      (s : ℕ) (l : List ℕ) → AllKept kept (s ∷ l) → (In p (s ∷ l) → ⊥) → Linked next (next s) l → Linked next' (next' s) l
  pub link_splices_in :
      (kept : ℕ → Bool) (next next' : ℕ → Option ℕ) (p x : ℕ) → Links kept next next' p x →
      (s : ℕ) (l : List ℕ) → AllKept kept (s ∷ l) → In p (s ∷ l) → Linked next (next s) l → Linked next' (next' s) (spliced s p x l)
  pub link_stays_closed :
      (kept : ℕ → Bool) (next next' : ℕ → Option ℕ) → Closed kept next → (p x : ℕ) → Links kept next next' p x → kept p ≡ true →
      (kept' : ℕ → Bool) → kept' x ≡ true → ((i : ℕ) → kept i ≡ true → kept' i ≡ true) →
      ((i : ℕ) → kept' i ≡ true → (kept i ≡ true) ⊎ ((i ≡ x) ⊎ (next' i ≡ None))) → Closed kept' next'
  pub unlink_stays_closed :
      (kept : ℕ → Bool) (next next' : ℕ → Option ℕ) → Closed kept next → (p y : ℕ) → Unlinks kept next next' p y → kept p ≡ true → Closed kept next'
  pub unlink_takes_out :
      (kept : ℕ → Bool) (next next' : ℕ → Option ℕ) (p y : ℕ) → Unlinks kept next next' p y →
      (s : ℕ) (l : List ℕ) → AllKept kept (s ∷ l) → In p (s ∷ l) → Linked next (next s) l → Linked next' (next' s) (without y l)

pub record ReachFacts : Type 0 where
  pub reuse_keeps :
      (kept : ℕ → Bool) (next next' : ℕ → Option ℕ) → Closed kept next → ((i : ℕ) → kept i ≡ true → next' i ≡ next i) →
      (z f : ℕ) → kept z ≡ true → Reach next z f → Reach next' z f
  pub link_keeps :
      (kept : ℕ → Bool) (next next' : ℕ → Option ℕ) → Closed kept next → (p x : ℕ) → Links kept next next' p x →
      (z f : ℕ) → kept z ≡ true → Reach next z f → Reach next' z f
  pub unlink_keeps_the_others :
      (kept : ℕ → Bool) (next next' : ℕ → Option ℕ) → Closed kept next → (p y : ℕ) → Unlinks kept next next' p y →
      (z f : ℕ) → (y ≢ f) → kept z ≡ true → Reach next z f → Reach next' z f
  pub sentinel_reaches_its_chain : (next : ℕ → Option ℕ) (s : ℕ) (l : List ℕ) → Linked next (next s) l → (i : ℕ) → In i l → Ahead next s i
  pub sentinel_reaches_nothing_else : (next : ℕ → Option ℕ) (s : ℕ) (l : List ℕ) → Linked next (next s) l → (f : ℕ) → Reach next s f → In f (s ∷ l)
  pub move_keeps_what_is_ahead : (next : ℕ → Option ℕ) (x y f : ℕ) → next x ≡ Some y → Ahead next x f → (y ≡ f) ⊎ Ahead next y f

abbrev pub Passes : {A : Type 0} → (A → A → Bool) → A → A → Type 0
Passes test x y = test x y ≡ true

pub record WayFacts (A : Type 0) : Type 0 where
  pub edge_without_way_back_closes_none :
      (edge : A → A → Bool) (a b : A) → Acyclic (Passes edge) → (Way (Passes edge) b a → ⊥) → Acyclic (With (Passes edge) a b)
  pub closed_set_rules_out :
      (edge : A → A → Bool) (test : A → Bool) → ((x y : A) → test x ≡ true → edge x y ≡ true → test y ≡ true) →
      (a b : A) → test b ≡ true → test a ≡ false → Way (Passes edge) b a → ⊥
  pub graded_edges_close_none :
      (edge : ℕ → A → A → Bool) → ((s : ℕ) (x y u v : A) → edge s x y ≡ true → edge s u v ≡ true → (x ≡ u) × (y ≡ v)) →
      ((s : ℕ) (x y : A) → edge s x y ≡ true → Way (Older (λ t. Passes (edge t)) s) y x → ⊥) → Acyclic (Stamped (λ t. Passes (edge t)))
  pub way_up_to_first_visit :
      (edge : A → A → Bool) (a b : A) → ((x : A) → (x ≡ b) ⊎ (x ≢ b)) → (a ≢ b) → Leads (Passes edge) a b → Leads (Avoiding (Passes edge) b) a b

pub record CountFacts (A : Type 0) : Type 0 where
  pub grows_with_the_test : (f g : ℕ → Bool) (n : ℕ) → ((i : ℕ) → Meets f n i → g i ≡ true) → count f n ≤ count g n
  pub one_more :
      (f g : ℕ → Bool) (k : ℕ) → f k ≡ false → g k ≡ true →
      (n : ℕ) → k < n → ((i : ℕ) → i < n → (i ≢ k) → g i ≡ f i) → count g n ≡ suc (count f n)
  pub at_least_one_more :
      (f g : ℕ → Bool) (k : ℕ) → f k ≡ false → g k ≡ true →
      (n : ℕ) → k < n → ((i : ℕ) → Meets f n i → g i ≡ true) → count f n < count g n
  pub list_is_as_long : (f : ℕ → Bool) (n : ℕ) (l : List ℕ) → Distinct l → ((i : ℕ) → In i l ↔ Meets f n i) → length l ≡ count f n
  pub distinct_below : (n : ℕ) (l : List ℕ) → Distinct l → ((i : ℕ) → In i l → i < n) → length l ≤ n
  pub joined_is_the_sum : (f : ℕ → List ℕ) (l : List ℕ) → length (flat_map f l) ≡ sum_by (λ x. length (f x)) l
  pub joined_is_distinct :
      (f : ℕ → List ℕ) (l : List ℕ) → Distinct l → ((x : ℕ) → In x l → Distinct (f x)) →
      ((x z y : ℕ) → In x l → In z l → (x ≢ z) → In y (f x) → In y (f z) → ⊥) → Distinct (flat_map f l)
  pub joined_by_elements_is_the_sum : (f : A → List A) (l : List A) → length (flat_map f l) ≡ sum_by (λ x. length (f x)) l
  pub joined_by_elements_is_distinct :
      (f : A → List A) (l : List A) → Distinct l → ((x : A) → In x l → Distinct (f x)) →
      ((x z y : A) → In x l → In z l → (x ≢ z) → In y (f x) → In y (f z) → ⊥) → Distinct (flat_map f l)

pub record FieldFacts (A B : Type 0) : Type 0 where
  pub default_past_the_end : (f : A → B) (d : B) (l : List A) (ws : List (ℕ × A)) (i : ℕ) → length l ≤ i → field f d (writes l ws) i ≡ d
  pub written_where_written :
      (f : A → B) (d : B) (l : List A) (ws : List (ℕ × A)) → Distinct (places ws) →
      (w : ℕ × A) → In w ws → w.0 < length l → field f d (writes l ws) w.0 ≡ f w.1
  pub last_write_counts :
      (f : A → B) (d : B) (l : List A) (before : List (ℕ × A)) (w : ℕ × A) (after : List (ℕ × A)) → (In w.0 (places after) → ⊥) →
      w.0 < length l → field f d (writes l (before ++ w ∷ after)) w.0 ≡ f w.1
  pub same_elsewhere :
      (f : A → B) (d : B) (l : List A) (ws : List (ℕ × A)) (j : ℕ) → (In j (places ws) → ⊥) → field f d (writes l ws) j ≡ field f d l j
  pub same_where_rewritten :
      (f : A → B) (d : B) (l : List A) (ws : List (ℕ × A)) (j : ℕ) → AllByRecursion (Rewrites f d l j) ws → field f d (writes l ws) j ≡ field f d l j

pub record KeyFacts {K : Type 0} (order : K → K → Ordering) (A : Type 0) : Type 0 where
  pub rising_from_neighbours :
      (key : ℕ → K) (next : ℕ → Option ℕ) (o : Option ℕ) (l : List ℕ) → Linked next o l →
      ((x y : ℕ) → In x l → next x ≡ Some y → KeyBefore order key x y) → Rises order key l × (rising order (map key l) ≡ true)
  pub neighbours_from_rising :
      (key : ℕ → K) (next : ℕ → Option ℕ) (o : Option ℕ) (l : List ℕ) → Linked next o l → Rises order key l →
      (x y : ℕ) → In x l → next x ≡ Some y → KeyBefore order key x y
  pub rising_is_distinct : (key : ℕ → K) (l : List ℕ) → Rises order key l → Distinct l
  pub key_stands_where_a_traversal_arrives :
      (key : ℕ → K) (next : ℕ → Option ℕ) (w : K) (s : ℕ) (l : List ℕ) (p : ℕ) (q : Option ℕ) → Linked next (next s) l → Rises order key l →
      Arrives order key next s l w p q → (i : ℕ) → In i l → key i ≡ w → q ≡ Some i
  pub traversal_arrives_in_the_chain :
      (key : ℕ → K) (next : ℕ → Option ℕ) (w : K) (s : ℕ) (l : List ℕ) (p : ℕ) (q : Option ℕ) → Linked next (next s) l →
      Arrives order key next s l w p q → (y : ℕ) → q ≡ Some y → In y l
  pub greatest_key : (key : A → K) (x : A) (l : List A) → (g : A) × Greatest order key g (x ∷ l)

-- ---- the definitions at work

-- 0 → 1 → 2; then 3 is linked behind 1; then 3 is unlinked, and is still followed by 2
abbrev pub three : ℕ → Option ℕ
three zero = Some 1
three (suc zero) = Some 2
three (suc (suc n)) = None

abbrev pub four : ℕ → Option ℕ
four zero = Some 1
four (suc zero) = Some 3
four (suc (suc zero)) = None
four (suc (suc (suc zero))) = Some 2
four (suc (suc (suc (suc n)))) = None

abbrev pub three_again : ℕ → Option ℕ
three_again zero = Some 1
three_again (suc zero) = Some 2
three_again (suc (suc zero)) = None
three_again (suc (suc (suc zero))) = Some 2
three_again (suc (suc (suc (suc n)))) = None

pub record Examples : Type 0 where
  pub spliced_first : spliced 0 0 9 (5 ∷ 7 ∷ []) ≡ 9 ∷ 5 ∷ 7 ∷ []
  pub spliced_inside : spliced 0 5 9 (5 ∷ 7 ∷ []) ≡ 5 ∷ 9 ∷ 7 ∷ []
  pub spliced_last : spliced 0 7 9 (5 ∷ 7 ∷ []) ≡ 5 ∷ 7 ∷ 9 ∷ []
  pub spliced_nowhere : spliced 0 4 9 (5 ∷ 7 ∷ []) ≡ 5 ∷ 7 ∷ []
  pub taken_out : without 5 (3 ∷ 5 ∷ 7 ∷ []) ≡ 3 ∷ 7 ∷ []
  pub counted : count (nat_lt 2) 6 ≡ 3
  pub field_inside : field suc 0 (4 ∷ 6 ∷ []) 1 ≡ 7
  pub field_past_the_end : field suc 0 (4 ∷ 6 ∷ []) 2 ≡ 0
  pub two_written : writes {A = ℕ} (4 ∷ 5 ∷ 6 ∷ []) ((0, 7) ∷ (2, 8) ∷ []) ≡ 7 ∷ 5 ∷ 8 ∷ []
  pub written_twice : writes {A = ℕ} (4 ∷ 5 ∷ []) ((0, 7) ∷ (0, 9) ∷ []) ≡ 9 ∷ 5 ∷ []
  pub chain_before : Linked three (three 0) (1 ∷ 2 ∷ [])
  pub is_linked : Links (λ i. nat_lt i 3) three four 1 3
  pub chain_between : Linked four (four 0) (1 ∷ 3 ∷ 2 ∷ [])
  pub is_unlinked : Unlinks (λ i. nat_lt i 4) four three_again 1 3
  pub chain_after : Linked three_again (three_again 0) (1 ∷ 2 ∷ [])
  pub last_is_ahead : Ahead four 0 2
  pub last_is_not_ahead_of_itself : Ahead four 2 2 → ⊥
  pub arrives_behind_one : Arrives nat_cmp (λ i. i) three 0 (1 ∷ 2 ∷ []) 2 1 (Some 2)
  pub one_way_only : Leads (λ x y. three x ≡ Some y) 0 2 × (Leads (λ x y. three x ≡ Some y) 2 0 → ⊥)
