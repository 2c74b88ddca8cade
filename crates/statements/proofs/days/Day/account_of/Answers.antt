use Rattle.std.proofs.Common.{◌≡◌, true, map, ap, ◌∙◌}
use Rattle.figures.specs.Figures.{margin, need as need-for}
use Rattle.figures.specs.Positions.{positions_of}
use Rattle.figures.specs.Priced.{priced}
use Rattle.figures.specs.Sums.{those_below}
use Rattle.rules.specs.Limits.{held}
use Rattle.book.specs.Ledgers.{ledger_in}
use Rattle.statements.proofs.days.Day.account_of.Goals as goal

pub returns : goal.returns
returns g c =
    let table = g.M.ScenarioModel.table in
    let model = c.market.ensures.model in
    let l = ledger_in c.args.self.now.book.now in
    let is : positions_of c.of.result.all.now ≡ held l c.args.number = ap positions_of c.of.ensures ∙ c.collect-found.ensures in
    record {
      margins = c.account.ensures.margins ∙ (λ i. map (margin (table (model i)) (is i)) (those_below (table (model i)).subportfolios (λ _. true)));
      need = c.account.ensures.need ∙ (λ i. need-for (table (model i)) (priced (c.market.ensures.prices i)) (is i) c.args.client.cash.amount);
      small = c.account.ensures.small;
    }
