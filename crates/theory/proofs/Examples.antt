-- The definitions at work on small lists and chains.
use Rattle.std.proofs.Common.{◌≡◌, ℕ, zero, suc, ltb, Some, refl, inl, inr, arith}
use Rattle.std.proofs.lemmas.Bool.{ltb-true}
use Rattle.std.specs.declared.cmp.Ordering.TheVariants.{Less}
use Rattle.std.specs.Ordering.{nat_cmp}
use Rattle.theory.specs.Chains.{OnlyAt}
use Rattle.theory.specs.Fields.{field}
use Rattle.theory.specs.Reach.{Reach.here, Reach.onward}
use Rattle.theory.specs.Theory.{three, four, three_again, Examples}
use Rattle.theory.specs.Ways.{Leads}
use Rattle.theory.specs.Ways.{Leads.last, Leads.more}
use Rattle.theory.proofs.Reach.{ahead_none}

-- the writes change what follows 1 alone
linked_else : OnlyAt (λ i. ltb i 3) three four 1
linked_else zero k ne = refl
linked_else (suc zero) k ne = absurd (ne refl)
linked_else (suc (suc zero)) k ne = refl
linked_else (suc (suc (suc n))) k ne = absurd (omega (arith, ltb-true (suc (suc (suc n))) 3 k))

unlinked_else : OnlyAt (λ i. ltb i 4) four three_again 1
unlinked_else zero k ne = refl
unlinked_else (suc zero) k ne = absurd (ne refl)
unlinked_else (suc (suc zero)) k ne = refl
unlinked_else (suc (suc (suc zero))) k ne = refl
unlinked_else (suc (suc (suc (suc n)))) k ne = refl

stops_at_two : (y : ℕ) → Some 2 ≡ Some y → nat_cmp y 2 ≡ Less → ⊥
stops_at_two y e b = cc

-- nothing follows 2
no_way_from_two : (a b : ℕ) → a ≡ 2 → Leads (λ x y. three x ≡ Some y) a b → ⊥
no_way_from_two a b q (last e) = cc
no_way_from_two a b q (more e l) = cc

pub examples : Examples
unfolding field
examples = record {
  spliced_first = refl;
  spliced_inside = refl;
  spliced_last = refl;
  spliced_nowhere = refl;
  taken_out = refl;
  counted = refl;
  field_inside = refl;
  field_past_the_end = refl;
  two_written = refl;
  written_twice = refl;
  chain_before = (refl, (refl, refl));
  is_linked = record { at = refl; new = refl; else = linked_else };
  chain_between = (refl, (refl, (refl, refl)));
  is_unlinked = record { was = refl; at = refl; else = unlinked_else };
  chain_after = (refl, (refl, refl));
  last_is_ahead = record { first = 1; is = refl; reach = onward refl (onward refl (here refl)) };
  last_is_not_ahead_of_itself = ahead_none four 2 2 refl;
  arrives_behind_one = record { stands = inr (inl refl, refl); follows = refl; stops = stops_at_two };
  one_way_only = (more refl (last refl), no_way_from_two 2 0 refl);
}
