use Rattle.std.proofs.Common.{◌≡◌, refl, arith, rules, tests}
use Rattle.std.proofs.lemmas.Bool.Decides.{nat_tests}
use Rattle.layout.specs.Fields.{contracts, series_shock}
use Rattle.inspection.specs.Tests.{every, within}
use Rattle.inspection.specs.Causes.{unmoved_first}
use Rattle.inspection.proofs.Everies.{all_is}
use Rattle.inspection.proofs.rows.starts_unmoved.Goals as goal

pub returns-in-Ok-Series : goal.returns-in-Ok-Series
unfolding unmoved_first
returns-in-Ok-Series c =
    let b = c.args.file.now in
    let still : c.all.result ≡ every (contracts b) (λ j. within 0 (series_shock b j 0)) = all_is _ _ _ _ _ _ refl c.contract_count.ensures c.all.ensures.ran (λ x b q k. search (rules, tests)) in
    grind (arith, nat_tests)
