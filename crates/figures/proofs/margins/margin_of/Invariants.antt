use Rattle.std.proofs.Common.{◌≡◌, ◌*◌, ◌≤◌, length, take}
use Rattle.figures.specs.Losses.{lost_together, losses_in, Holds}
use Rattle.figures.specs.Positions.{positions_of}
use Rattle.figures.proofs.margins.margin_of.Given as goal

abbrev pub invariant-loop-position : goal.invariant-loop-position
invariant-loop-position g l =
    (length l.sums ≡ (g.M.ScenarioModel.table l.model).scenarios l.k)
    × (l.position-index ≤ length l.position-items)
    × Holds l.sums ((g.M.ScenarioModel.table l.model).scenarios l.k) (losses_in (g.M.ScenarioModel.table l.model) (λ _. 0) lost_together (positions_of (take l.position-index l.position-items)) l.k) (1000000000000 * l.position-index)
