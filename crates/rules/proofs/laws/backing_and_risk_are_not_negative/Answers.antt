use Rattle.rules.proofs.Signs.{backing_and_risk_not_negative}
use Rattle.rules.proofs.laws.backing_and_risk_are_not_negative.Goals as goal

pub returns-clause-signs : goal.returns-clause-signs
returns-clause-signs c = backing_and_risk_not_negative
