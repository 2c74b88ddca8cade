use Rattle.rules.proofs.Lively.{lively}
use Rattle.rules.proofs.laws.law_is_lively.Goals as goal

pub returns-clause-lively : goal.returns-clause-lively
returns-clause-lively c = lively
