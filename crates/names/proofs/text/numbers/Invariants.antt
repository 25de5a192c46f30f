use Rattle.std.proofs.Common.{◌≡◌, ◌++◌, map, drop, vec_items}
use Rattle.std.specs.Option.{option_map}
use Rattle.names.specs.Text.{numbers}
use Rattle.names.proofs.text.numbers.Given as goal

-- the numbers so far, before those that the words left write, if each writes one
abbrev pub invariant-loop-word : goal.invariant-loop-word
invariant-loop-word l = option_map (λ ns. vec_items l.numbers ++ ns) (numbers (map (λ x. x.now) (drop l.word-index l.words))) ≡ numbers (map (λ x. x.now) l.words)
