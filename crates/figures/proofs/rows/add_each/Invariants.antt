use Rattle.figures.specs.Figures.{moves}
use Rattle.figures.specs.Losses.{Added}
use Rattle.figures.specs.Positions.{position_of}
use Rattle.figures.proofs.rows.add_each.Given as goal

abbrev pub invariant-loop-scenario : goal.invariant-loop-scenario
invariant-loop-scenario g l =
    Added l.initial.sums l.sums l.scenario (λ s. g.C.Counting.lost l.mark (moves (g.M.ScenarioModel.table l.model) s (position_of l.position))) g.C.Counting.most
