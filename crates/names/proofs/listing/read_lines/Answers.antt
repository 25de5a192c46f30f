use Rattle.std.proofs.Common.{◌∙◌}
use Rattle.std.proofs.lemmas.Iterator.{YieldsList-from_slice}
use Rattle.std.proofs.lemmas.Iterator.Adapters.{YieldsList-from_skip}
use Rattle.std.proofs.lemmas.Iterator.Consumers.{YieldsList-at, YieldsList-from_enumerate, YieldsList-end}
use Rattle.names.proofs.Listings.{names_read, faults_read}
use Rattle.names.proofs.listing.read_lines.Goals as goal

pub returns : goal.returns
returns g c =
    let ls = c.args.lines.now in
    let n = c.args.from in
    let walk = YieldsList-at c.into_iter-i-iterator.ensures.into_iter_gives (YieldsList-from_skip n (YieldsList-at c.skip-i-items.ensures.source (YieldsList-from_enumerate (YieldsList-at c.enumerate.ensures.source (YieldsList-from_slice ls c.iter.ensures.rest)) c.enumerate.ensures.count)) c.skip-i-items.ensures.count) in
    let all = (YieldsList-end walk c.loop-i.yielded c.loop-i.i-iterator c.loop-i.yielded_by c.next.result c.next.new.self c.in-None.is c.next.ensures.steps).0 in
    record {
      names = c.loop-i.invariant.names ∙ names_read g.K.Name.named ls n c.loop-i.yielded all;
      faults = c.loop-i.invariant.faults ∙ faults_read g.K.Name.named ls n c.loop-i.yielded all;
    }
