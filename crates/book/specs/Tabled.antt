-- The cells of the trades in their table. Assumes nothing.
use Rattle.std.specs.Prelude.{List}
use Rattle.cells.specs.Listed.{listed}
use Rattle.book.specs.declared.trades.standing.TradeCell.{TradeCell}
use Rattle.book.specs.declared.trades.TradeTable.{TradeTable}

abbrev pub cells_in : TradeTable → List TradeCell
cells_in t = listed t.rows
