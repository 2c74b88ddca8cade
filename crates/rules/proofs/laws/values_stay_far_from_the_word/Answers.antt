use Rattle.rules.proofs.Words.{far_from_the_word}
use Rattle.rules.proofs.laws.values_stay_far_from_the_word.Goals as goal

pub returns-clause-far : goal.returns-clause-far
returns-clause-far c = far_from_the_word
