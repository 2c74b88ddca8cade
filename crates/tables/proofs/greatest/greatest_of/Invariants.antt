use Rattle.std.proofs.Common.{◌≡◌, length, take}
use Rattle.cells.specs.Listed.{listed}
use Rattle.deficits.specs.Summed.{amounts}
use Rattle.tables.proofs.greatest.greatest_of.Given as goal

abbrev pub invariant-loop-i : goal.invariant-loop-i
invariant-loop-i l = (length (listed l.deficits) ≡ l.i) × (amounts (listed l.deficits) ≡ take l.i l.owed)
