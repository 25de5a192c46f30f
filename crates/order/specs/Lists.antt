-- Lists of keys under an order. Assumes nothing.
--     follows p x            x is after p, where there is a p
--     rises_after p xs       each key of xs follows the one in front of it, the first one p
--     rising xs              each key of xs is before the next
--     times k xs             how often k is among xs
--     Arranged xs ys         ys has the keys of xs, each as often, and none is before its predecessor
use Rattle.std.specs.Prelude.{◌≡◌, ℕ, ◌+◌, ◌<◌, Bool, true, cond, ◌&&◌, sum_by, List, [], ◌∷◌, length, Some, None, Option, ◌≢◌, slice_index_or}
use Rattle.std.specs.Ordering.{is_lt, is_eq}
use Rattle.std.specs.declared.cmp.Ordering.{Ordering}
use Rattle.std.specs.declared.cmp.Ordering.TheVariants.{Less}

module _ {K : Type 0} (order : K → K → Ordering) where
  abbrev pub follows : Option K → K → Bool
  follows None x = true
  follows (Some p) x = is_lt (order p x)

  abbrev pub rises_after : Option K → List K → Bool
  rises_after p [] = true
  rises_after p (x ∷ xs) = follows p x && rises_after (Some x) xs

  abbrev pub rising : List K → Bool
  rising xs = rises_after None xs

  abbrev pub times : K → List K → ℕ
  times k xs = sum_by (λ x. cond (is_eq (order k x)) 1 0) xs

  pub record Arranged (xs ys : List K) : Type 0 where
    pub often : (k : K) → times k ys ≡ times k xs
    pub climbs : (i : ℕ) (d : K) → i + 1 < length ys → order (slice_index_or ys (i + 1) d) (slice_index_or ys i d) ≢ Less
