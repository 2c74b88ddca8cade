use Rattle.std.proofs.Common.{◌≤◌, length, take}
use Rattle.std.specs.Io.KnownBytes.{Consumes}
use Rattle.reading.proofs.start.read_start.Given as goal

abbrev pub invariant-loop : goal.invariant-loop
invariant-loop g l = (l.used ≤ length l.room) × Consumes (g.R.Read.remaining l.initial.source) (g.R.Read.remaining l.source) (take l.used l.room)
