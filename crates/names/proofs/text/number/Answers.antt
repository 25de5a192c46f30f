use Rattle.std.proofs.Common.{sym, ap, ◌∙◌, rules, tests}
use Rattle.names.specs.Text.{read_on}
use Rattle.names.proofs.Digits.{word_read, by_length}
use Rattle.names.proofs.text.number.Goals as goal

pub returns : goal.returns
returns c =
    let h = c.try_fold.ensures.ran in
    word_read _ (λ p b q k. search (rules, tests)) (h.2, h.3) c.try_fold.result _ (λ b e. (search (rules, tests), e.5)) h.0 h.1 c.iter.result _ (tt, 0) h.4 h.5 h.6
    ∙ ap (read_on 0) c.iter.ensures.rest
    ∙ sym (by_length c.args.word.now (search (rules, tests)))
