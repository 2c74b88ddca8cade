use Rattle.std.proofs.Common.{◌∙◌}
use Rattle.console.proofs.Front.{first_space}
use Rattle.console.proofs.words.word_length.Goals as goal

pub returns-clause-value : goal.returns-clause-value
returns-clause-value c = c.unwrap_or.ensures ∙ first_space c.args.text.now c.find.result c.find.ensures.cases
