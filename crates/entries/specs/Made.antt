-- Rows as they are made. Assumes nothing.
use Rattle.std.specs.Prelude.{Bool, cond, Some, None, Option}
use Rattle.rules.specs.Ledger.{Trader}
use Rattle.book.specs.declared.traders.Trader.{Trader as TraderRow}
use Rattle.book.specs.Means.{trader_in}

abbrev pub trader_made : Option TraderRow → Option Trader
trader_made (Some t) = Some (trader_in t)
trader_made None = None

abbrev pub made_if : {A : Type 0} → Bool → A → Option A
made_if b x = cond b (Some x) None
