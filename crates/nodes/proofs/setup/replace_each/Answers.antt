use Rattle.std.proofs.Common.{sym, ap, ◌∙◌, get_or, slice_set}
use Rattle.std.proofs.lemmas.List.Edits.{map_over_more}
use Rattle.nodes.proofs.setup.replace_each.Goals as goal

pub loop-item-preserved : goal.loop-item-preserved
loop-item-preserved g c =
    let i = c.loop-item.item-index in
    let here = c.loop-item.items in
    let x = c.item-item.result in (
      c.loop-item.invariant.0,
      λ becomes known.
          ap (slice_set here i) (known (get_or here i x) c.change.result c.change.ensures)
          ∙ ap (λ y. slice_set here i (becomes y)) (sym c.item-item.is)
          ∙ map_over_more becomes c.args.items.now here i x c.loop-item-test.true (c.loop-item.invariant.1 becomes known) c.item-item.is,
    )
