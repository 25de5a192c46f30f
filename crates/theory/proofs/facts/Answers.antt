use Rattle.theory.proofs.Examples.{examples}
use Rattle.theory.proofs.Theory.{chain_facts, reach_facts, way_facts, count_facts, field_facts, key_facts}
use Rattle.theory.proofs.facts.Goals as goal

pub returns : goal.returns
returns g c = record {
  chains = chain_facts;
  reachability = reach_facts;
  ways = way_facts;
  counts = count_facts;
  fields = field_facts;
  keys = key_facts g.K.Key.order g.met.K.Key.laws;
  examples = examples;
}
