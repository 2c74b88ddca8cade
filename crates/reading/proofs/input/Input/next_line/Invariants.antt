use Rattle.std.proofs.Common.{ℕ, List}
use Rattle.reading.specs.Lines.{unread}
use Rattle.reading.proofs.Told.{Gathered}
use Rattle.reading.proofs.input.Input.next_line.Given as goal

abbrev pub invariant-loop : goal.invariant-loop
invariant-loop g l = (bs : List ℕ) × Gathered (unread g.R.Read.remaining l.initial.self) (unread g.R.Read.remaining l.self) l.line bs
