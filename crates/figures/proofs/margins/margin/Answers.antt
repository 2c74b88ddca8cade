use Rattle.std.proofs.Common.{◌≡◌, List, ℤ, pos, ◌≤ℤ◌, sym, ap, ◌∙◌, subst, arith}
use Rattle.figures.specs.Figures.{loss_in, margin}
use Rattle.figures.specs.declared.position.Position.{Position as Kept}
use Rattle.figures.specs.Positions.{positions_of}
use Rattle.figures.specs.Worst.{Greatest}
use Rattle.figures.proofs.Meanings.{greatest_is, margins_not_negative}
use Rattle.figures.proofs.Sizes.{kept64}
use Rattle.figures.proofs.margins.margin.Goals as goal

pub returns-clause-greatest : goal.returns-clause-greatest
returns-clause-greatest g c =
    let m = g.M.ScenarioModel.table c.args.model.now in
    let law = g.met.M.ScenarioModel.lawful c.args.model.now in
    let ts = positions_of c.args.positions.now in
    let k = c.args.k in
    let same : c.in_ok-new.field-0.all.now ≡ c.args.positions.now = c.in_ok-new.ensures in
    let is = kept64 c.margin_of.result (omega (arith, c.margin_of.ensures.small)) ∙ c.margin_of.ensures.value ∙ ap (λ (xs : List Kept). margin m (positions_of xs) k) same in
    λ l. subst (Greatest (m.scenarios k) (loss_in m ts k)) (sym is) (greatest_is (m.scenarios k) (loss_in m ts k) (law.some_scenario k l))

pub returns-clause-floor : goal.returns-clause-floor
returns-clause-floor g c =
    let m = g.M.ScenarioModel.table c.args.model.now in
    let law = g.met.M.ScenarioModel.lawful c.args.model.now in
    let is = kept64 c.margin_of.result (omega (arith, c.margin_of.ensures.small)) ∙ c.margin_of.ensures.value in
    subst (λ (x : ℤ). pos 0 ≤ℤ x) (sym is) (margins_not_negative m law (positions_of c.in_ok-new.field-0.all.now) c.args.k)
