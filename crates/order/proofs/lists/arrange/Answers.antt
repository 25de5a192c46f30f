use Rattle.std.proofs.Common.{rules}
use Rattle.order.proofs.Arranging.{arranged_by_closure}
use Rattle.order.proofs.lists.arrange.Goals as goal

pub returns : goal.returns
returns g c = arranged_by_closure g.met.K.Key.laws c.args.keys.now c.sort_by.new.self.items (search rules) c.in_ok-sort_by.ensures.sorted (λ a r f' k. search rules)
