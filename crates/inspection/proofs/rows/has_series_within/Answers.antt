use Rattle.std.proofs.Common.{refl, rules, tests}
use Rattle.inspection.specs.Causes.{series_within}
use Rattle.inspection.proofs.Everies.{all_is}
use Rattle.inspection.proofs.rows.has_series_within.Goals as goal

pub returns : goal.returns
unfolding series_within
returns c = all_is _ _ _ _ _ _ refl c.scenario_count.ensures c.all.ensures.ran (λ x b q k. search (rules, tests))
