use Rattle.std.proofs.Common.{◌≡◌, true, ◌&&◌, List, ℤ, pos, ◌-ℤ◌, ◌≤ℤ◌, Some, None, sym, ap, ◌∙◌, subst, arith, w64, to_z, of_z, rules}
use Rattle.std.proofs.lemmas.Bool.{and_from, cond-true}
use Rattle.std.proofs.lemmas.Int.{ints, clamps, to_z-of_z}
use Rattle.figures.specs.declared.position.Position.{Position as Kept}
use Rattle.figures.specs.Figures.{mark, loss_in, need as need_for}
use Rattle.figures.specs.Markets.{market, answerable, fair_cash}
use Rattle.figures.specs.Positions.{positions_of}
use Rattle.figures.specs.Sums.{floored, smaller, total}
use Rattle.figures.specs.Worst.{Worst}
use Rattle.figures.proofs.Meanings.{worst_is}
use Rattle.figures.proofs.Pricing.{figure_some}
use Rattle.figures.proofs.Sizes.{kept64}
use Rattle.figures.proofs.markets.Market.need.Goals as goal

rises : (a b x y : ℤ) → x ≤ℤ y → floored (x -ℤ a -ℤ b) ≤ℤ floored (y -ℤ a -ℤ b)
rises a b x y l = omega (arith, ints, clamps)

pub returns : goal.returns
returns g c =
    let m = g.M.ScenarioModel.table c.args.self.now.model.now in
    let law = g.met.M.ScenarioModel.lawful c.args.self.now.model.now in
    let μ = market c.args.self.now.prices.now in
    let ts = positions_of c.args.positions.now in
    let whole : ℤ → ℤ = λ x. floored (x -ℤ total (mark m μ) ts -ℤ smaller (pos 0) c.args.cash) in
    let found = c.in_ok-few.ensures in
    let paid = to_z-of_z w64 c.args.cash c.ranges.cash in
    let fair = figure_some (fair_cash (to_z w64 (of_z w64 c.args.cash))) c.in_ok-new.field-0.amount (to_z w64 (of_z w64 c.args.cash)) c.in_ok-new.ensures in
    let given : (answerable c.args.self.now.prices.now ts && fair_cash c.args.cash) ≡ true = and_from _ _ found.0 (ap fair_cash (sym paid) ∙ fair.0) in
    let e = kept64 c.account.result.need (omega (arith, c.account.ensures.small)) ∙ c.account.ensures.need ∙ ap (λ (xs : List Kept). need_for m μ (positions_of xs) c.in_ok-new.field-0.amount) found.1 ∙ ap (need_for m μ ts) (fair.1 ∙ paid) in
    record {
      value = ap Some e ∙ sym (cond-true _ (Some (need_for m μ ts c.args.cash)) None given);
      worst = subst (Worst m (loss_in m ts) whole) (sym e) (worst_is m law (loss_in m ts) whole (rises (total (mark m μ) ts) (smaller (pos 0) c.args.cash)));
      small = search rules;
    }
