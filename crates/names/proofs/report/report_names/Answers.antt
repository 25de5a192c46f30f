use Rattle.std.proofs.Common.{◌≡◌, string_bytes, vec_items, rules}
use Rattle.std.proofs.lemmas.List.{drop-map}
use Rattle.std.proofs.lemmas.Result.{IfOk-weaker}
use Rattle.names.specs.Reports.{told}
use Rattle.names.proofs.report.report_names.Goals as goal

pub returns : goal.returns
returns g c =
    let same = drop-map (λ x. x.now) c.args.from c.args.lines.now in
    IfOk-weaker c.tell.result (λ s. string_bytes s ≡ told g.K.Key.order g.K.Name.written g.K.Name.expected c.deref-2.result.now c.deref-3.result.now) _ (λ s e. record { keys = vec_items c.in_ok-keys.keys; arranged = search rules; is = search rules }) c.tell.ensures
