-- A word that is read as a number, digit by digit, by `try_fold`.
use Rattle.std.proofs.Common.{◌≡◌, ℕ, List, [], ◌∷◌, length, Some, None, Option, sym, refl, ap, ◌∙◌, arith, Bor, Iter}
use Rattle.std.specs.List.{FoldsTo}
use Rattle.std.specs.Option.{MatchOption}
use Rattle.std.specs.Iterator.{YieldsThen}
use Rattle.std.proofs.iter.Yields.{fronts}
use Rattle.names.specs.Text.{with_digit, read_on, number}

at_end : (n : ℕ) (bs : List ℕ) → length bs ≡ 0 → read_on n bs ≡ Some n
at_end n [] none = refl
at_end n (b ∷ bs) none = absurd (omega arith)

on_digit : (n : ℕ) (b : ℕ) (bs : List ℕ) (o : Option ℕ) → with_digit n b ≡ o → read_on n (b ∷ bs) ≡ elim o [ None ↦ None | Some m ↦ read_on m bs ]
on_digit n b bs o e = ap (λ v. elim v [ None ↦ None | Some m ↦ read_on m bs ]) e

-- Step takes a digit more into the number; the bytes that were read led to q, and the byte o stopped the reading, if there is one
module _ {P : Type 0} (Step : P × ℕ → Bor ℕ → P × ℕ → Type 0) (reads : (p : P × ℕ) (b : Bor ℕ) (q : P × ℕ) → Step p b q → with_digit p.1 b.now ≡ Some q.1) (q : P × ℕ) (r : Option ℕ) (Stop : Bor ℕ → Type 0) (stops : (b : Bor ℕ) → Stop b → (with_digit q.1 b.now ≡ None) × (r ≡ None)) where
  pub word_read : (bs : List (Bor ℕ)) (o : Option (Bor ℕ)) (s u : Iter ℕ) (p : P × ℕ) → YieldsThen fronts s bs o u → FoldsTo Step p bs q → MatchOption o (r ≡ Some q.1) Stop → r ≡ read_on p.1 s.rest.now
  word_read [] None s u p e steps is = is ∙ sym (ap (λ v. read_on v.1 s.rest.now) steps ∙ ap (λ i. read_on q.1 i.rest.now) e.1 ∙ at_end q.1 e.0.rest.now e.2.0)
  word_read [] (Some b) s u p e steps is =
      let stop = stops b is in
      stop.1 ∙ sym (ap (λ v. read_on v.1 s.rest.now) steps ∙ ap (λ i. read_on q.1 i.rest.now) e.1 ∙ ap (read_on q.1) e.2 ∙ on_digit q.1 b.now u.rest.now None stop.0)
  word_read (b ∷ bs) o s u p e steps is =
      let next = e.1.0 in
      word_read bs o next u steps.0 (e.0, e.1.2, e.2) steps.2 is ∙ sym (ap (read_on p.1) e.1.1 ∙ on_digit p.1 b.now next.rest.now (Some steps.0.1) (reads p b steps.0 steps.1))

pub by_length : (word : List ℕ) → (length word ≡ 0 → ⊥) → number word ≡ read_on 0 word
by_length [] some = absurd (some refl)
by_length (b ∷ bs) some = refl
