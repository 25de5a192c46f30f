use Rattle.std.proofs.Common.{◌∙◌, rules, refl}
use Rattle.std.proofs.lemmas.Simd.{splat_is_map}
use Rattle.nodes.proofs.setup.set_up_marks.Goals as goal

pub returns : goal.returns
returns c = c.fill.ensures.after (λ y k. search rules) ∙ splat_is_map c.args.marks.now _ 0 refl
