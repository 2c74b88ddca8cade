use Rattle.std.proofs.Common.{◌≡◌, ap, ◌∙◌, arith}
use Rattle.figures.specs.Figures.{open_risk}
use Rattle.figures.specs.Positions.{positions_of}
use Rattle.figures.specs.Priced.{priced}
use Rattle.figures.proofs.Sizes.{kept64}
use Rattle.rules.specs.Limits.{open_trades}
use Rattle.book.specs.Ledgers.{ledger_in}
use Rattle.statements.proofs.days.Day.unspecified_risk.Goals as goal

pub returns : goal.returns
returns g c =
    let table = g.M.ScenarioModel.table in
    let l = ledger_in c.args.self.now.book.now in
    let is : positions_of c.of.result.all.now ≡ open_trades l c.args.trader = ap positions_of c.of.ensures ∙ c.collect-found.ensures in
    let e = kept64 c.open_risk_of.result (omega (arith, c.open_risk_of.ensures.small)) in
    record {
      value = e ∙ c.open_risk_of.ensures.value ∙ (λ i. open_risk (table (c.market.ensures.model i)) (priced (c.market.ensures.prices i)) (is i));
      small = rw e c.open_risk_of.ensures.small;
    }
