use Rattle.std.proofs.Common.{None, sym, ◌∙◌, lit<}
use Rattle.std.proofs.lemmas.Str.Pattern.{strip_prefix_char}
use Rattle.tables.proofs.Reading.{signed_plain}
use Rattle.tables.proofs.numbers.signed.Goals as goal

pub returns-in-None : goal.returns-in-None
returns-in-None c =
    c.whole-in-None.ensures ∙ sym (signed_plain c.args.word.now (strip_prefix_char 45 c.args.word.now None c.in-None.ensures.cases (lit< tt)))
