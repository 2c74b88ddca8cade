use Rattle.commands.proofs.Numerals.{whole_read}
use Rattle.commands.proofs.numbers.whole.Goals as goal

pub returns : goal.returns
returns c = whole_read c.args.word.now c.plain.result c.plain.ensures.plus (λ n. let h = c.plain.ensures.read n in (h.0, h.1.0, h.2))
