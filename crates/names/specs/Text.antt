-- The bytes of a text as lines, words and numbers. Assumes nothing.
--     texts rs            the bytes that references point to
--     lines bs            what stands between the line feeds of bs, in order
--     blank b             the byte b is a blank, a tab or a carriage return
--     words bs            the runs of bytes between blanks
--     with_digit n b      n with the decimal digit b behind it, if b is one and 32 bits are enough
--     read_on n bs        n with the digits bs behind it, likewise
--     number bs           the number that bs, at least one digit, writes
--     numbers ws          the numbers that the words write, if each writes one
use Rattle.std.specs.Borrow.{Bor}
use Rattle.std.specs.Prelude.{ℕ, ◌+◌, ◌-◌, ◌*◌, ◌^◌, Bool, true, false, not, ◌&&◌, ◌||◌, List, [], ◌∷◌, filter, map, length, Some, None, Option, ◌==◌, nat_le, nat_lt}
use Rattle.std.specs.List.{slice_split}
use Rattle.std.specs.Option.{option_map, option_zip}

abbrev pub texts : List (Bor (List ℕ)) → List (List ℕ)
texts rs = map (λ r. r.now) rs

abbrev pub lines : List ℕ → List (List ℕ)
lines bs = slice_split (λ b. b == 10) bs

abbrev pub blank : ℕ → Bool
blank b = b == 32 || (b == 9 || b == 13)

abbrev pub words : List ℕ → List (List ℕ)
words bs = filter (λ w. not (length w == 0)) (slice_split blank bs)

abbrev pub with_digit : ℕ → ℕ → Option ℕ
with_digit n b = elim (nat_le 48 b && (nat_le b 57 && nat_lt (n * 10 + (b - 48)) (2 ^ 32))) [ true ↦ Some (n * 10 + (b - 48)) | false ↦ None ]

abbrev pub read_on : ℕ → List ℕ → Option ℕ
read_on n [] = Some n
read_on n (b ∷ bs) = elim (with_digit n b) [ None ↦ None | Some m ↦ read_on m bs ]

abbrev pub number : List ℕ → Option ℕ
number [] = None
number (b ∷ bs) = read_on 0 (b ∷ bs)

abbrev pub numbers : List (List ℕ) → Option (List ℕ)
numbers [] = Some []
numbers (w ∷ ws) = option_map (λ both. both.0 ∷ both.1) (option_zip (number w) (numbers ws))
