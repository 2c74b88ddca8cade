use Rattle.std.proofs.Common.{◌≡◌, ◌*◌, ◌≤◌, take, nat_abs}
use Rattle.figures.specs.Losses.{lost_alone, losses_in}
use Rattle.figures.specs.Markets.{market}
use Rattle.figures.specs.Positions.{positions_of}
use Rattle.figures.proofs.markets.Market.loss_in.Given as goal

abbrev pub invariant-loop-position : goal.invariant-loop-position
invariant-loop-position g l =
    (nat_abs l.sum ≤ 11000000000000 * l.position-index)
    × (l.sum ≡ losses_in (g.M.ScenarioModel.table l.self.model.now) (market l.self.prices.now) lost_alone (positions_of (take l.position-index l.position-items)) l.k l.scenario)
