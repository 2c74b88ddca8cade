use Rattle.std.proofs.Common.{List, sym, ap, ◌∙◌, subst, arith}
use Rattle.figures.specs.declared.position.Position.{Position as Kept}
use Rattle.figures.specs.Figures.{losers_in, open_risk}
use Rattle.figures.specs.Markets.{market}
use Rattle.figures.specs.Positions.{positions_of}
use Rattle.figures.specs.Worst.{Worst}
use Rattle.figures.proofs.Meanings.{worst_is}
use Rattle.figures.proofs.Sizes.{kept64}
use Rattle.figures.proofs.markets.Market.open_risk.Goals as goal

pub returns-clause-worst : goal.returns-clause-worst
returns-clause-worst g c =
    let m = g.M.ScenarioModel.table c.args.self.now.model.now in
    let law = g.met.M.ScenarioModel.lawful c.args.self.now.model.now in
    let μ = market c.args.self.now.prices.now in
    let f = losers_in m μ (positions_of c.args.positions.now) in
    let e = kept64 c.open_risk_of.result (omega (arith, c.open_risk_of.ensures.small)) in
    let same = ap (λ (xs : List Kept). open_risk m μ (positions_of xs)) c.in_ok-answerable.ensures.1 in
    subst (Worst m f (λ x. x)) (sym (e ∙ c.open_risk_of.ensures.value ∙ same)) (worst_is m law f (λ x. x) (λ x y l. l))
