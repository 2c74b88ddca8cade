use Rattle.std.proofs.Common.{sym, refl, ◌∙◌, arith}
use Rattle.figures.specs.Losses.{lost_alone}
use Rattle.figures.specs.Markets.{market}
use Rattle.figures.specs.Positions.{position_of}
use Rattle.figures.proofs.Placing.{loses_there, loses_none}
use Rattle.figures.proofs.Sizes.{kept64}
use Rattle.figures.proofs.markets.Market.loss_of.Goals as goal

pub returns-then-not-lies_in-clause-value : goal.returns-then-not-lies_in-clause-value
returns-then-not-lies_in-clause-value g c =
    let m = g.M.ScenarioModel.table c.args.self.now.model.now in
    let μ = market c.args.self.now.prices.now in
    sym (loses_none m (position_of c.args.position.now) μ lost_alone c.args.k (sym c.lies_in.ensures ∙ c.if-not-lies_in.true) c.args.scenario)

pub returns-clause-value : goal.returns-clause-value
returns-clause-value g c =
    let m = g.M.ScenarioModel.table c.args.self.now.model.now in
    let μ = market c.args.self.now.prices.now in
    let mark = kept64 c.mark_at.result (omega (arith, c.mark_at.ensures.small)) ∙ c.mark_at.ensures.value in
    let moved = kept64 c.moves.result (omega (arith, c.moves.ensures.small)) ∙ c.moves.ensures.value in
    kept64 c.lost.result (omega (arith, c.lost.ensures.small))
    ∙ c.lost.ensures.value
    ∙ (λ i. lost_alone (mark i) (moved i))
    ∙ loses_there m (position_of c.args.position.now) μ lost_alone c.args.k _ (sym c.lies_in.ensures ∙ c.if-not-lies_in.false) refl c.args.scenario
