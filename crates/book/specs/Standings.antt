-- Where a trade stands after a change, and what the change answers. Assumes nothing.
use Rattle.std.specs.Prelude.{ℕ, Some, None, Ok, Err, Option, Result}
use Rattle.refusals.specs.declared.Refusal.{Refusal}
use Rattle.refusals.specs.declared.Refusal.TheVariants.{WrongState}
use Rattle.book.specs.declared.trades.standing.Trade.{Trade}
use Rattle.book.specs.declared.trades.standing.TradeCell.{TradeCell}
use Rattle.book.specs.declared.trades.standing.TradeCell.TheVariants.{Empty, Unspecified, Specified, Carried}
use Rattle.book.specs.declared.trades.standing.Change.{Change}
use Rattle.book.specs.declared.trades.standing.Change.TheVariants.{Specify, Cancel}

-- the cell of a new trade: carried from yesterday for a client, or with no client yet
abbrev pub cell_for : Trade → Option ℕ → TradeCell
cell_for t (Some c) = Carried t c
cell_for t None = Unspecified t

abbrev pub cell_after : TradeCell → Change → TradeCell
cell_after Empty x = Empty
cell_after (Unspecified t) (Specify c) = Specified t c
cell_after (Unspecified t) Cancel = Unspecified t
cell_after (Specified t c) (Specify d) = Specified t c
cell_after (Specified t c) Cancel = Unspecified t
cell_after (Carried t c) x = Carried t c

abbrev pub change_answer : TradeCell → Change → Result (Unit {0}) Refusal
change_answer Empty x = Err WrongState
change_answer (Unspecified t) (Specify c) = Ok tt
change_answer (Unspecified t) Cancel = Err WrongState
change_answer (Specified t c) (Specify d) = Err WrongState
change_answer (Specified t c) Cancel = Ok tt
change_answer (Carried t c) x = Err WrongState
