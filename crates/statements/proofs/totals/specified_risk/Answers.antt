use Rattle.std.proofs.Common.{◌≡◌, ◌≤◌, length, Some, None, sym, refl, subst, ap, ◌∙◌, arith}
use Rattle.std.specs.Option.{IsSome}
use Rattle.std.proofs.lemmas.Bool.{cond-true}
use Rattle.cells.specs.Listed.{listed}
use Rattle.cells.proofs.Rowed.{length_listed}
use Rattle.deficits.specs.Summed.{amounts, summable}
use Rattle.figures.specs.Sums.{total_greatest}
use Rattle.statements.proofs.Lacks.{lacks, lacks_summable}
use Rattle.statements.proofs.totals.specified_risk.Goals as goal
use Rattle.statements.proofs.totals.specified_risk.Goals.{After-sum_of_greatest}

amounts_are : (c : After-sum_of_greatest) → amounts c.as_slice.result.now ≡ lacks (listed c.args.clients.now)
amounts_are c = ap amounts c.as_slice.ensures.value ∙ c.deficits_of-deficits.ensures

pub unwrap-requires : goal.unwrap-requires
unwrap-requires c =
    let ds = c.as_slice.result.now in
    let few : length (listed c.args.clients.now) ≤ 128 = omega (arith, length_listed c.args.clients.now, c.args.clients.now.within) in
    let fits = lacks_summable ds (listed c.args.clients.now) few (amounts_are (goal.at.unwrap-requires c).After-sum_of_greatest) in
    subst IsSome (sym (c.sum_of_greatest.ensures.value ∙ cond-true (summable ds) (Some (total_greatest c.from.result (amounts ds))) None fits)) refl
