use Rattle.std.proofs.Common.{◌*◌, ◌≤◌, [], get_or, refl, ◌∙◌, arith}
use Rattle.figures.specs.Figures.{mark}
use Rattle.figures.specs.Losses.{loses_in, losses_in}
use Rattle.figures.specs.Markets.{market}
use Rattle.figures.specs.Positions.{position_of}
use Rattle.figures.proofs.Adding.{total_next}
use Rattle.figures.proofs.Sizes.{added, added_small, most_more}
use Rattle.figures.proofs.Summing.{holds_blank, holds_more, holds_same}
use Rattle.figures.proofs.markets.Market.tally_of.Goals as goal

pub loop-position-init : goal.loop-position-init
loop-position-init g c =
    let m = g.M.ScenarioModel.table c.args.self.now.model.now in (
      omega arith,
      refl,
      λ k. holds_same _ (m.scenarios k) _ (losses_in m (market c.args.self.now.prices.now) g.C.Counting.lost [] k) 0 _ (holds_blank 8 64 k (m.scenarios k)) (λ s. refl) (omega arith),
    )

pub loop-position-preserved : goal.loop-position-preserved
loop-position-preserved g c =
    let m = g.M.ScenarioModel.table c.args.self.now.model.now in
    let μ = market c.args.self.now.prices.now in
    let most = g.C.Counting.most in
    let xs = c.args.positions.all.now in
    let l = c.loop-position in
    let i = l.position-index in
    let x = c.position-item.result in
    let v = c.count-gained.result in
    let few : i ≤ 1024 = omega (arith, c.args.positions.few) in
    let e = added v l.gained-is l.invariant.0 c.count-gained.ensures.small (omega arith) (omega arith) in
    let small = added_small v l.gained-is l.invariant.0 c.count-gained.ensures.small (omega arith) (omega arith) in (
      omega (arith, small),
      e ∙ total_next position_of (mark m μ) xs i x _ v c.loop-position-test.true c.position-item.is l.invariant.1 c.count-gained.ensures.value,
      λ k. holds_more (get_or l.rows k []) _ (m.scenarios k) _ (λ s. loses_in m μ g.C.Counting.lost k s (position_of x)) _ (most * i) most _ (l.invariant.2 k) (c.count-gained.ensures.losses k) (λ s. total_next position_of (loses_in m μ g.C.Counting.lost k s) xs i x _ _ c.loop-position-test.true c.position-item.is refl refl) (most_more most i),
    )
