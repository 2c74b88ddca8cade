use Rattle.std.proofs.Common.{◌≤◌, ◌∙◌, arith}
use Rattle.figures.specs.Losses.{lost_alone, loses_in}
use Rattle.figures.specs.Markets.{market}
use Rattle.figures.specs.Positions.{position_of}
use Rattle.figures.proofs.Adding.{total_next}
use Rattle.figures.proofs.Sizes.{added, added_small}
use Rattle.figures.proofs.markets.Market.loss_in.Goals as goal

pub loop-position-preserved : goal.loop-position-preserved
loop-position-preserved g c =
    let m = g.M.ScenarioModel.table c.args.self.now.model.now in
    let μ = market c.args.self.now.prices.now in
    let xs = c.in_ok-few.few.all.now in
    let l = c.loop-position in
    let i = l.position-index in
    let x = c.position-item.result in
    let v = c.loss_of-sum.result in
    let few : i ≤ 1024 = omega (arith, c.in_ok-few.few.few) in
    let e = added v l.sum-is l.invariant.0 c.loss_of-sum.ensures.small (omega arith) (omega arith) in
    let small = added_small v l.sum-is l.invariant.0 c.loss_of-sum.ensures.small (omega arith) (omega arith) in (
      omega (arith, small),
      e ∙ total_next position_of (loses_in m μ lost_alone c.args.k c.args.scenario) xs i x _ v c.loop-position-test.true c.position-item.is l.invariant.1 c.loss_of-sum.ensures.value,
    )
