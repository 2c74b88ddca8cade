use Rattle.std.proofs.Common.{◌≡◌, ◌≤◌, true, [], drop, map, get_or}
use Rattle.std.specs.Slice.Iter.{iter_rest}
use Rattle.cells.specs.Listed.{listed}
use Rattle.figures.specs.Losses.{at}
use Rattle.figures.specs.Sums.{greatest_below, those_below}
use Rattle.figures.proofs.tally.greatest_by_row.Given as goal

abbrev pub invariant-loop-k : goal.invariant-loop-k
invariant-loop-k g l =
    (l.k-iterator.a.end ≡ (g.M.ScenarioModel.table l.model).subportfolios)
    × (l.k-iterator.a.start ≤ l.k-iterator.a.end)
    × (iter_rest l.k-iterator.b ≡ drop l.k-iterator.a.start l.rows)
    × (listed l.greatest ≡ map (λ k. greatest_below ((g.M.ScenarioModel.table l.model).scenarios k) (at (get_or l.rows k []))) (those_below l.k-iterator.a.start (λ _. true)))
