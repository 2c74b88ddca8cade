-- Which cells hold a trade. Assumes nothing.
use Rattle.std.specs.Prelude.{Bool, true, false, List}
use Rattle.std.specs.List.{list_all}
use Rattle.book.specs.declared.trades.standing.TradeCell.{TradeCell}
use Rattle.book.specs.declared.trades.standing.TradeCell.TheVariants.{Empty, Unspecified, Specified, Carried}

abbrev pub is_filled : TradeCell → Bool
is_filled Empty = false
is_filled (Unspecified t) = true
is_filled (Specified t c) = true
is_filled (Carried t c) = true

abbrev pub each_filled : List TradeCell → Bool
each_filled xs = list_all is_filled xs
