use Rattle.std.proofs.Common.{◌≡◌, map}
use Rattle.cells.specs.Listed.{listed}
use Rattle.book.specs.Ledgers.{ledger_in}
use Rattle.statements.specs.Figured.{figures_in}
use Rattle.statements.proofs.Chosen.{stated}
use Rattle.statements.proofs.days.Day.all_figures.Given as goal

abbrev pub invariant-loop-number : goal.invariant-loop-number
invariant-loop-number g l =
    map figures_in (listed l.found) ≡ stated (g.M.ScenarioModel.table l.self.model.now) (ledger_in l.self.book.now) l.trader l.number
