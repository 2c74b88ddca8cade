use Rattle.std.proofs.Common.{◌≡◌, map, ◌+ℤ◌, ◌-ℤ◌, nat_abs, ap, ◌∙◌, w64, to_z, of_z}
use Rattle.std.proofs.lemmas.Int.{to_z-of_z}
use Rattle.cells.specs.Listed.{listed}
use Rattle.figures.specs.Figures.{utilisation}
use Rattle.figures.specs.Sums.{total_greatest}
use Rattle.rules.specs.Answers.{ClientFigures}
use Rattle.rules.specs.Ledger.{Trader, trader_of}
use Rattle.rules.specs.Limits.{clients_of, deficit_of, specified_risk, unspecified_risk, risk}
use Rattle.book.specs.Ledgers.{ledger_in}
use Rattle.book.specs.Means.{trader_in}
use Rattle.statements.proofs.Lacks.{lacks, lacks_meant, lacking_of}
use Rattle.statements.proofs.days.Day.statement_of.Given as given
use Rattle.statements.proofs.days.Day.statement_of.Goals as goal
use Rattle.statements.proofs.days.Day.statement_of.Goals.{After-risk_of-risk}

specified_is : (g : given.Over) (c : After-risk_of-risk g) → to_z w64 (of_z w64 c.specified_risk-specified.result) ≡ specified_risk (g.M.ScenarioModel.table c.args.self.now.model.now) (ledger_in c.args.self.now.book.now) c.args.number
specified_is g c =
    let m = g.M.ScenarioModel.table c.args.self.now.model.now in
    let l = ledger_in c.args.self.now.book.now in
    let cs = clients_of l c.args.number in
    let xs = listed c.all_figures-clients.result in
    let is : trader_in c.args.trader ≡ trader_of l c.args.number = c.requires in
    let all : lacks xs ≡ map (deficit_of m l) cs = lacks_meant xs ∙ ap (map (λ (f : ClientFigures). f.lacking)) c.all_figures-clients.ensures ∙ lacking_of m l cs in
    to_z-of_z w64 c.specified_risk-specified.result (record { sfits = c.specified_risk-specified.type_inv }) ∙ c.specified_risk-specified.ensures.value ∙ (λ i. total_greatest (is i).defaults (all i))

unspecified_is : (g : given.Over) (c : After-risk_of-risk g) → to_z w64 (of_z w64 c.unspecified_risk-unspecified.result) ≡ unspecified_risk (g.M.ScenarioModel.table c.args.self.now.model.now) (ledger_in c.args.self.now.book.now) c.args.number
unspecified_is g c = to_z-of_z w64 c.unspecified_risk-unspecified.result (record { sfits = c.unspecified_risk-unspecified.type_inv }) ∙ c.unspecified_risk-unspecified.ensures.value

risk_is : (g : given.Over) (c : After-risk_of-risk g) → to_z w64 (of_z w64 c.risk_of-risk.result) ≡ risk (g.M.ScenarioModel.table c.args.self.now.model.now) (ledger_in c.args.self.now.book.now) c.args.number
risk_is g c = to_z-of_z w64 c.risk_of-risk.result (record { sfits = c.risk_of-risk.type_inv }) ∙ c.risk_of-risk.ensures.value ∙ (λ i. specified_is g c i +ℤ unspecified_is g c i)

pub returns : goal.returns
returns g c =
    let m = g.M.ScenarioModel.table c.args.self.now.model.now in
    let l = ledger_in c.args.self.now.book.now in
    let w = (goal.at.returns g c).After-risk_of-risk in
    let is : trader_in c.args.trader ≡ trader_of l c.args.number = c.requires in
    let behind = to_z-of_z w64 c.backing_of-backing.result (record { sfits = c.backing_of-backing.type_inv }) ∙ c.backing_of-backing.ensures.value ∙ ap (λ (x : Trader). x.intraday +ℤ x.own +ℤ x.favour) is in
    let left = to_z-of_z w64 c.left_of.result (record { sfits = c.left_of.type_inv }) ∙ c.left_of.ensures ∙ (λ i. behind i -ℤ risk_is g w i) in
    let used = c.used.ensures ∙ (λ i. utilisation ((c.unsigned_abs.ensures.value ∙ ap nat_abs behind) i) ((c.unsigned_abs-2.ensures.value ∙ ap nat_abs (risk_is g w)) i)) in
    λ i. record { clients = c.all_figures-clients.ensures i; specified = specified_is g w i; unspecified = unspecified_is g w i; at_risk = risk_is g w i; behind = behind i; left = left i; used = used i }
