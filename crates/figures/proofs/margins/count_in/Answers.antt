use Rattle.std.proofs.Common.{length, sym, ◌∙◌}
use Rattle.figures.specs.Losses.{lost_together}
use Rattle.figures.specs.Positions.{position_of}
use Rattle.figures.proofs.Placing.{together_there, loses_none}
use Rattle.figures.proofs.Summing.{added_same, added_zero}
use Rattle.figures.proofs.margins.count_in.Goals as goal

pub returns-then-lies_in : goal.returns-then-lies_in
returns-then-lies_in g c =
    let m = g.M.ScenarioModel.table c.args.model.now in
    let t = position_of c.args.position.now in
    added_same c.args.sums.now c.add_each.new.sums (length c.args.sums.now) _ _ 1000000000000 (together_there m t (λ _. 0) c.args.k (sym c.lies_in.ensures ∙ c.if-lies_in.true)) c.add_each.ensures

pub returns-else-lies_in : goal.returns-else-lies_in
returns-else-lies_in g c =
    let m = g.M.ScenarioModel.table c.args.model.now in
    let t = position_of c.args.position.now in
    added_zero c.args.sums.now (length c.args.sums.now) _ 1000000000000 (loses_none m t (λ _. 0) lost_together c.args.k (sym c.lies_in.ensures ∙ c.if-lies_in.false))
