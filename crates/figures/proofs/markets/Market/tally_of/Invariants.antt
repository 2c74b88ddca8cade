use Rattle.std.proofs.Common.{◌≡◌, ℕ, ◌*◌, ◌≤◌, [], get_or, take, nat_abs}
use Rattle.figures.specs.Figures.{mark}
use Rattle.figures.specs.Losses.{losses_in, Holds}
use Rattle.figures.specs.Markets.{market}
use Rattle.figures.specs.Positions.{positions_of}
use Rattle.figures.specs.Sums.{total}
use Rattle.figures.proofs.markets.Market.tally_of.Given as goal

abbrev pub invariant-loop-position : goal.invariant-loop-position
invariant-loop-position g l =
    (nat_abs l.gained ≤ 10000000000000 * l.position-index)
    × (l.gained ≡ total (mark (g.M.ScenarioModel.table l.self.model.now) (market l.self.prices.now)) (positions_of (take l.position-index l.position-items)))
    × ((k : ℕ) → Holds (get_or l.rows k []) ((g.M.ScenarioModel.table l.self.model.now).scenarios k) (losses_in (g.M.ScenarioModel.table l.self.model.now) (market l.self.prices.now) g.C.Counting.lost (positions_of (take l.position-index l.position-items)) k) (g.C.Counting.most * l.position-index))
