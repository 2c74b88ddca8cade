use Rattle.std.proofs.Common.{◌≡◌, refl, rules, tests, arith}
use Rattle.layout.specs.Fields.{contracts, scenarios}
use Rattle.inspection.specs.Tests.{every}
use Rattle.inspection.specs.Causes.{right_record, factors_within}
use Rattle.inspection.proofs.Everies.{all_is}
use Rattle.inspection.proofs.rows.has_right_factors.Goals as goal

pub returns-then-all : goal.returns-then-all
returns-then-all c =
    let records : c.all.result ≡ every (contracts c.args.file.now) (right_record c.args.file.now) = all_is _ _ _ _ _ _ refl c.contract_count.ensures c.all.ensures.ran (λ x b q k. search (rules, tests)) in
    let rows : c.all-then-all.result ≡ every (scenarios c.args.file.now) (factors_within c.args.file.now 10000) = all_is _ _ _ _ _ _ refl c.scenario_count.ensures c.all-then-all.ensures.ran (λ x b q k. search (rules, tests)) in
    grind arith

pub returns-else-all : goal.returns-else-all
returns-else-all c =
    let records : c.all.result ≡ every (contracts c.args.file.now) (right_record c.args.file.now) = all_is _ _ _ _ _ _ refl c.contract_count.ensures c.all.ensures.ran (λ x b q k. search (rules, tests)) in
    grind arith
