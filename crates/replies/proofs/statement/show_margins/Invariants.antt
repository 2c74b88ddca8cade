use Rattle.std.proofs.Common.{◌≡◌, take}
use Rattle.lines.specs.Lined.{written, followed}
use Rattle.replies.specs.Statements.{margins_text}
use Rattle.replies.proofs.statement.show_margins.Given as goal

abbrev pub invariant-loop-margin : goal.invariant-loop-margin
invariant-loop-margin l = written l.line ≡ followed (written l.initial.line) (margins_text (take l.margin-index l.margins))
