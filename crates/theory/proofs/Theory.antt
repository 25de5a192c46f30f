-- The central facts, each from its lemma.
use Rattle.std.proofs.Common.{◌≡◌, true}
use Rattle.std.proofs.lemmas.Bool.{both_ways}
use Rattle.std.proofs.lemmas.List.Concat.{length-flat_map}
use Rattle.std.specs.declared.cmp.Ordering.{Ordering}
use Rattle.order.specs.Orders.{OrderLaws}
use Rattle.theory.specs.Keys.{KeyBefore}
use Rattle.theory.specs.Theory.{Passes, ChainFacts, ReachFacts, WayFacts, CountFacts, FieldFacts, KeyFacts}
use Rattle.theory.proofs.Chains.{linked_unique, linked_distinct, linked_elsewhere, linked_link, linked_unlink, closed_link, closed_unlink}
use Rattle.theory.proofs.Counts.{count_grows, count_one_more, count_gains, count_listed, length_below}
use Rattle.theory.proofs.Fields.{field_writes_past, field_writes_last, field_writes_at, field_writes_else, field_writes_equal}
use Rattle.theory.proofs.Joined.{distinct_joined}
use Rattle.theory.proofs.Keys.{pairwise_from_next, next_from_pairwise, rises_distinct, rising_keys, arrives_at, arrives_in, greatest}
use Rattle.theory.proofs.Reach.{reach_reuse, reach_link, reach_unlink, ahead_chain, reach_in_chain, ahead_move}
use Rattle.theory.proofs.Ways.{acyclic_with, closed_no_way, acyclic_stamped, first_visit}

pub chain_facts : ChainFacts
chain_facts = record {
  list_is_unique = linked_unique;
  no_number_twice = linked_distinct;
  write_elsewhere_keeps = linked_elsewhere;
  link_splices_in = linked_link;
  link_stays_closed = closed_link;
  unlink_stays_closed = closed_unlink;
  unlink_takes_out = linked_unlink;
}

pub reach_facts : ReachFacts
reach_facts = record {
  reuse_keeps = reach_reuse;
  link_keeps = reach_link;
  unlink_keeps_the_others = reach_unlink;
  sentinel_reaches_its_chain = ahead_chain;
  sentinel_reaches_nothing_else = reach_in_chain;
  move_keeps_what_is_ahead = ahead_move;
}

pub way_facts : {A : Type 0} → WayFacts A
way_facts = record {
  edge_without_way_back_closes_none = λ edge. acyclic_with (Passes edge);
  closed_set_rules_out = λ edge test closed a b holds lacks. closed_no_way (Passes edge) (λ x. test x ≡ true) closed a b holds (both_ways (test a) lacks);
  graded_edges_close_none = λ edge. acyclic_stamped (λ t. Passes (edge t));
  way_up_to_first_visit = λ edge a b same. first_visit (Passes edge) b same a;
}

pub count_facts : {A : Type 0} → CountFacts A
count_facts = record {
  grows_with_the_test = count_grows;
  one_more = count_one_more;
  at_least_one_more = count_gains;
  list_is_as_long = count_listed;
  distinct_below = length_below;
  joined_is_the_sum = length-flat_map;
  joined_is_distinct = distinct_joined;
  joined_by_elements_is_the_sum = length-flat_map;
  joined_by_elements_is_distinct = distinct_joined;
}

pub field_facts : {A B : Type 0} → FieldFacts A B
field_facts = record {
  default_past_the_end = field_writes_past;
  written_where_written = field_writes_at;
  last_write_counts = field_writes_last;
  same_elsewhere = field_writes_else;
  same_where_rewritten = field_writes_equal;
}

pub key_facts : {K : Type 0} (order : K → K → Ordering) → OrderLaws order → {A : Type 0} → KeyFacts order A
key_facts order laws = record {
  rising_from_neighbours = λ key next o l h near.
      let rises = pairwise_from_next next (KeyBefore order key) (λ x y z. laws.carries (key x) (key y) (key z)) o l h near in
      (rises, rising_keys order key l rises);
  neighbours_from_rising = λ key next. next_from_pairwise next (KeyBefore order key);
  rising_is_distinct = rises_distinct order laws;
  key_stands_where_a_traversal_arrives = λ key next w s l p q h rises a. arrives_at order laws key next w s l p q h a rises;
  traversal_arrives_in_the_chain = λ key next w s l p q h a. arrives_in order laws key next w s l p q h a;
  greatest_key = greatest order laws;
}
