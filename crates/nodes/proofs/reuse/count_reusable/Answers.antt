use Rattle.std.proofs.Common.{length, ◌∙◌, rules, tests}
use Rattle.std.proofs.lemmas.Iterator.{YieldsList-from_slice}
use Rattle.std.proofs.lemmas.Iterator.Consumers.{count_from_yields_List, YieldsList-from_enumerate, YieldsList-from_filter}
use Rattle.nodes.specs.Reuse.{reusable, reusable_at}
use Rattle.nodes.proofs.Reusing.{counted_by_place, count_below}
use Rattle.nodes.proofs.reuse.count_reusable.Goals as goal

pub returns : goal.returns
returns g c =
    let cs = c.args.controllers.now in
    let ns = c.args.nodes.now in
    count_from_yields_List c.filter.result c.count.result c.count.ensures.ran (YieldsList-from_filter _ (λ e. reusable cs e.0 e.1) (YieldsList-from_enumerate (YieldsList-from_slice ns (cc)) (cc)) c.filter.ensures.closure (λ x r q k. search (rules, tests)))
    ∙ counted_by_place (reusable_at cs ns) (reusable cs) 0 ns (λ i x e. search rules)
    ∙ count_below cs ns (length ns)
