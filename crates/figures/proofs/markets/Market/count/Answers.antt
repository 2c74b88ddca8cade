use Rattle.std.proofs.Common.{◌≡◌, ℕ, [], length, get_or, sym, subst, arith, w64, to_z, of_z, rules}
use Rattle.figures.specs.Figures.{mark, moves}
use Rattle.figures.specs.Losses.{Added}
use Rattle.figures.specs.Markets.{market}
use Rattle.figures.specs.Positions.{position_of}
use Rattle.figures.proofs.Placing.{added_row, added_no_row}
use Rattle.figures.proofs.markets.Market.count.Goals as goal

pub returns-in_default-clause-losses : goal.returns-in_default-clause-losses
returns-in_default-clause-losses g c =
    let m = g.M.ScenarioModel.table c.args.self.now.model.now in
    let μ = market c.args.self.now.prices.now in
    added_no_row m (position_of c.args.position.now) μ g.C.Counting.lost c.args.rows.now g.C.Counting.most (sym c.in_default.ensures)

pub returns-clause-losses : goal.returns-clause-losses
returns-clause-losses g c =
    let m = g.M.ScenarioModel.table c.args.self.now.model.now in
    let μ = market c.args.self.now.prices.now in
    let law = g.met.M.ScenarioModel.lawful c.args.self.now.model.now in
    let t = position_of c.args.position.now in
    let k = c.in-Some.k in
    let rows = c.args.rows.now in
    let z = to_z w64 (of_z w64 c.gained-mark.result) in
    let placed = law.placed_within c.args.position.now.contract k c.in-Some.multiplier (sym c.in-Some.ensures) in
    let long : length rows ≡ 8 = search rules in
    let v : z ≡ mark m μ t = search rules in
    let counted = subst (λ (j : ℕ). Added (get_or rows j []) c.add_losses.new.row (m.scenarios k) (λ s. g.C.Counting.lost z (moves m s t)) g.C.Counting.most) c.from.ensures c.add_losses.ensures in
    rw c.from.ensures (added_row m t μ g.C.Counting.lost rows k c.in-Some.multiplier c.add_losses.new.row z g.C.Counting.most (sym c.in-Some.ensures) (omega (arith, law.few_subportfolios, placed, long)) v counted)
