use Rattle.std.proofs.Common.{◌≡◌, take}
use Rattle.cells.specs.Listed.{listed}
use Rattle.figures.specs.Positions.{positions_of}
use Rattle.statements.proofs.Gathered.{collected}
use Rattle.statements.proofs.collecting.collect.Given as goal

abbrev pub invariant-loop-cell : goal.invariant-loop-cell
invariant-loop-cell g l = positions_of (listed l.found) ≡ collected (g.A.Asked.asks l.asked) (take l.cell-index l.cell-items)
