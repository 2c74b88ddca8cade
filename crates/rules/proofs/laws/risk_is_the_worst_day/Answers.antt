use Rattle.rules.proofs.Law.{risk_is_the_worst}
use Rattle.rules.proofs.laws.risk_is_the_worst_day.Goals as goal

pub returns-clause-worst : goal.returns-clause-worst
returns-clause-worst c = risk_is_the_worst
