-- How many numbers below a bound meet a test: at most the bound, and the rest do not meet it; the count grows with the test, and is one more
-- where one more meets it; a list without doubles of just those that meet it is as long; so distinct numbers below a bound are at most as many.
use Rattle.std.proofs.Common.{◌≡◌, ℕ, zero, suc, ◌+◌, ◌<◌, ◌≤◌, Bool, true, false, not, ◌||◌, eqb, ◌↔◌, List, [], ◌∷◌, length, sym, refl, ◌∙◌, inl, inr, arith}
use Rattle.std.proofs.lemmas.Bool.{cases_eq, cases_Bool, eq-eqb, ne_eqb, eqb-true, or_cases, or_left, or_right, both_ways}
use Rattle.std.proofs.Math.Bool.{or-false}
use Rattle.std.proofs.Math.Logic.{⊎_map}
use Rattle.std.specs.List.{list_any}
use Rattle.theory.specs.Counts.{Meets, count}
use Rattle.theory.specs.Lists.{In, Distinct, without}
use Rattle.theory.proofs.Lists.{in_without_cases, in_without, distinct_without, length_without, without_none}

pub count_yes : (f : ℕ → Bool) (n : ℕ) → f n ≡ true → count f (suc n) ≡ suc (count f n)
count_yes f n e = grind arith

pub count_no : (f : ℕ → Bool) (n : ℕ) → f n ≡ false → count f (suc n) ≡ count f n
count_no f n e = grind arith

pub count_le : (f : ℕ → Bool) (n : ℕ) → count f n ≤ n
count_le f zero = omega arith
count_le f (suc n) = let ih = count_le f n in grind arith

pub count_not : (f : ℕ → Bool) (n : ℕ) → count f n + count (λ i. not (f i)) n ≡ n
count_not f zero = refl
count_not f (suc n) = let ih = count_not f n in grind arith

-- ---- two tests

-- the count grows with the test
pub count_grows : (f g : ℕ → Bool) (n : ℕ) → ((i : ℕ) → Meets f n i → g i ≡ true) → count f n ≤ count g n
count_grows f g zero h = omega arith
count_grows f g (suc n) h =
    let here : f n ≡ true → g n ≡ true = λ e. h n (omega arith, e) in
    let below = count_grows f g n (λ i m. h i (let lt : i < n = m.0 in omega arith, m.1)) in
    grind arith

pub count_same : (f g : ℕ → Bool) (n : ℕ) → ((i : ℕ) → i < n → f i ≡ g i) → count f n ≡ count g n
count_same f g n h =
    let le = count_grows f g n (λ i m. sym (h i m.0) ∙ m.1) in
    let ge = count_grows g f n (λ i m. h i m.0 ∙ m.1) in
    omega arith

-- one more where one more meets it
module _ (f g : ℕ → Bool) (k : ℕ) (out : f k ≡ false) (met : g k ≡ true) where
  pub count_one_more : (n : ℕ) → k < n → ((i : ℕ) → i < n → (i ≡ k → ⊥) → g i ≡ f i) → count g n ≡ suc (count f n)
  count_one_more zero lt h = absurd (omega arith)
  count_one_more (suc n) lt h = elim (cases_eq k n) [
    | inl e ↦
        let below : count g n ≡ count f n = count_same g f n (λ i l. h i (omega arith) (λ q. omega arith)) in
        let more = count_yes g n (rw (sym e) met) in
        let none = count_no f n (rw (sym e) out) in
        omega arith
    | inr ne ↦
        let below : count g n ≡ suc (count f n) = count_one_more n (omega arith) (λ i l. h i (omega arith)) in
        let here : g n ≡ f n = h n (omega arith) (λ e. ne (sym e)) in
        grind arith
  ]

-- at least one more where one more meets it, and all that did still do
pub count_gains : (f g : ℕ → Bool) (k : ℕ) → f k ≡ false → g k ≡ true → (n : ℕ) → k < n → ((i : ℕ) → Meets f n i → g i ≡ true) → count f n < count g n
count_gains f g k out met n lt h =
    let t : ℕ → Bool = λ i. f i || eqb i k in
    let tk : t k ≡ true = or_right (f k) (eqb k k) (eq-eqb k k refl) in
    let more : count t n ≡ suc (count f n) = count_one_more f t k out tk n lt (λ i l ne. rw (ne_eqb i k ne) (or-false (f i))) in
    let le : count t n ≤ count g n = count_grows t g n into in
    omega arith
  where
    into : (i : ℕ) → Meets (λ i. f i || eqb i k) n i → g i ≡ true
    into i m = elim (or_cases (f i) (eqb i k) m.1) [ inl y ↦ h i (m.0, y) | inr y ↦ rw (eqb-true i k y) met ]

-- ---- lists of those that meet a test

module _ (f : ℕ → Bool) where
  abbrev Listed : ℕ → List ℕ → Type 0
  Listed n l = (i : ℕ) → In i l ↔ Meets f n i

  -- without n, the list is one for the numbers below n
  listed_below : (n : ℕ) (l : List ℕ) → Listed (suc n) l → Listed n (without n l)
  listed_below n l h i = (to, from)
    where
      to : In i (without n l) → Meets f n i
      to m =
          let w = in_without_cases i n l m in
          let ne : i ≡ n → ⊥ = w.1 in
          let lt : i < suc n = ((h i).0 w.0).0 in
          (omega arith, ((h i).0 w.0).1)

      from : Meets f n i → In i (without n l)
      from m = let lt : i < n = m.0 in in_without i n l ((h i).1 (omega arith, m.1)) (λ e. omega arith)

  -- a list without doubles of just the numbers below n that meet the test is as long
  pub count_listed : (n : ℕ) (l : List ℕ) → Distinct l → Listed n l → length l ≡ count f n
  count_listed zero [] d h = refl
  count_listed zero (i ∷ l) d h = absurd (let lt : i < 0 = ((h i).0 (inl refl)).0 in omega arith)
  count_listed (suc n) l d h =
      let ih = count_listed n (without n l) (distinct_without n l d) (listed_below n l h) in
      elim (cases_Bool (f n)) [
        | inl e ↦ cc (length_without n l d ((h n).1 (omega arith, e)), count_yes f n e)
        | inr e ↦ cc (without_none n l (λ m. both_ways (f n) e ((h n).0 m).1), count_no f n e)
      ]

-- the test whether a number is in a list
abbrev among : List ℕ → ℕ → Bool
among l i = list_any (eqb i) l

among_in : (l : List ℕ) (i : ℕ) → among l i ≡ true → In i l
among_in [] i e = absurd (both_ways false refl e)
among_in (j ∷ l) i e = ⊎_map (eqb-true i j) (among_in l i) (or_cases (eqb i j) (among l i) e)

in_among : (l : List ℕ) (i : ℕ) → In i l → among l i ≡ true
in_among [] i m = absurd m
in_among (j ∷ l) i (inl e) = or_left (eqb i j) (among l i) (eq-eqb i j e)
in_among (j ∷ l) i (inr m) = or_right (eqb i j) (among l i) (in_among l i m)

-- distinct numbers below n that meet the test are at most as many
pub length_count : (f : ℕ → Bool) (n : ℕ) (l : List ℕ) → Distinct l → ((i : ℕ) → In i l → Meets f n i) → length l ≤ count f n
length_count f n l d h =
    let e : length l ≡ count (among l) n = count_listed (among l) n l d (λ i. (λ m. ((h i m).0, in_among l i m), λ m. among_in l i m.1)) in
    let le = count_grows (among l) f n (λ i m. (h i (among_in l i m.1)).1) in
    omega arith

-- distinct numbers below n are at most n
pub length_below : (n : ℕ) (l : List ℕ) → Distinct l → ((i : ℕ) → In i l → i < n) → length l ≤ n
length_below n l d h =
    let le = length_count (λ _. true) n l d (λ i m. (h i m, refl)) in
    let all = count_le (λ _. true) n in
    omega arith
