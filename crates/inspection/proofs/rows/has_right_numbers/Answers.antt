use Rattle.std.proofs.Common.{◌≡◌, ◌+◌, ◌-◌, leb, ltb, refl, arith, rules, tests}
use Rattle.layout.specs.Fields.{contracts, number}
use Rattle.inspection.specs.Tests.{every}
use Rattle.inspection.specs.Causes.{right_numbers}
use Rattle.inspection.proofs.Everies.{all_is}
use Rattle.inspection.proofs.rows.has_right_numbers.Goals as goal

pub returns-then-all : goal.returns-then-all
unfolding right_numbers
returns-then-all c =
    let b = c.args.file.now in
    let small : c.all.result ≡ every (contracts b) (λ j. leb (number b j) 255) = all_is _ _ _ _ _ _ refl c.contract_count-count.ensures c.all.ensures.ran (λ x b q k. search (rules, tests)) in
    let rising : c.all-then-all.result ≡ every (contracts b - 1) (λ j. ltb (number b j) (number b (j + 1))) = all_is _ _ _ _ _ _ refl (omega arith) c.all-then-all.ensures.ran (λ x b q k. search (rules, tests)) in
    grind arith

pub returns-else-all : goal.returns-else-all
unfolding right_numbers
returns-else-all c =
    let b = c.args.file.now in
    let small : c.all.result ≡ every (contracts b) (λ j. leb (number b j) 255) = all_is _ _ _ _ _ _ refl c.contract_count-count.ensures c.all.ensures.ran (λ x b q k. search (rules, tests)) in
    grind arith
