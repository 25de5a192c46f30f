use Rattle.std.proofs.Common.{codes, sym, ap, arith, rules}
use Rattle.std.proofs.lemmas.Slice.Eq.{text_from_reads}
use Rattle.names.specs.Headings.{heading_word}
use Rattle.names.proofs.heading.read_word.Goals as goal

pub returns-in-numbers : goal.returns-in-numbers
returns-in-numbers c = sym (ap heading_word (text_from_reads c.args.word.now (codes "numbers") (omega arith) (search rules)))

pub returns-in-addresses : goal.returns-in-addresses
returns-in-addresses c = sym (ap heading_word (text_from_reads c.args.word.now (codes "addresses") (omega arith) (search rules)))
