use Rattle.std.proofs.Common.{◌≡◌, refl, arith, rules, tests}
use Rattle.std.proofs.lemmas.Bool.Decides.{nat_tests}
use Rattle.layout.specs.Fields.{factors, exposure}
use Rattle.inspection.specs.Tests.{every, within}
use Rattle.inspection.specs.Causes.{right_record}
use Rattle.inspection.proofs.Everies.{all_is}
use Rattle.inspection.proofs.rows.is_right_record.Goals as goal

pub returns-then-second_at-le-MOST_MULTIPLIER : goal.returns-then-second_at-le-MOST_MULTIPLIER
unfolding right_record
returns-then-second_at-le-MOST_MULTIPLIER c =
    let small : c.all.result ≡ every (factors c.args.file.now) (λ f. within 12500000 (exposure c.args.file.now c.args.j f)) = all_is _ _ _ _ _ _ refl c.factor_count.ensures c.all.ensures.ran (λ x b q k. search (rules, tests)) in
    grind (arith, nat_tests)
