use Rattle.std.proofs.Common.{rules}
use Rattle.std.proofs.lemmas.Fn.{always_returns_same}
use Rattle.order.proofs.Rising.{below, rising_by_neighbours}
use Rattle.order.proofs.lists.rises.Goals as goal

pub returns : goal.returns
returns g c = rising_by_neighbours g.K.Key.order c.args.keys.now _ (c.is_sorted_by.ensures.cases (below g.K.Key.order) (always_returns_same _ _ _ (λ a r f' k. search rules)))
