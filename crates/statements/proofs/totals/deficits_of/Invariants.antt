use Rattle.std.proofs.Common.{◌≡◌, take}
use Rattle.cells.specs.Listed.{listed}
use Rattle.deficits.specs.Summed.{amounts}
use Rattle.statements.proofs.Lacks.{lacks}
use Rattle.statements.proofs.totals.deficits_of.Given as goal

abbrev pub invariant-loop-client : goal.invariant-loop-client
invariant-loop-client l = amounts (listed l.found) ≡ lacks (take l.client-index l.client-items)
