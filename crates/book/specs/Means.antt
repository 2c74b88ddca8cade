-- What the rows of the tables mean. Assumes nothing.
use Rattle.std.specs.Prelude.{List, map}
use Rattle.cells.specs.Listed.{listed}
use Rattle.cells.specs.declared.rows.Rows.{Rows}
use Rattle.figures.specs.Positions.{position_of}
use Rattle.orders.specs.Meant.{holder_of}
use Rattle.rules.specs.Ledger.{Slip, Trade, Trader, Client, unspecified, specified, carried, no_trade}
use Rattle.book.specs.declared.clients.Client.{Client as ClientRow}
use Rattle.book.specs.declared.stubs.Stub.{Stub}
use Rattle.book.specs.declared.traders.Trader.{Trader as TraderRow}
use Rattle.book.specs.declared.trades.standing.TradeCell.{TradeCell}
use Rattle.book.specs.declared.trades.standing.TradeCell.TheVariants.{Empty, Unspecified, Specified, Carried}
use Rattle.book.specs.declared.trades.TradeTable.{TradeTable}
use Rattle.book.specs.Tabled.{cells_in}

abbrev pub trader_in : TraderRow → Trader
trader_in t = record { intraday = t.intraday.amount; defaults = t.defaults; own = t.own.amount; favour = t.favour.amount }

abbrev pub client_in : ClientRow → Client
client_in c = record { trader = c.trader; collateral = c.collateral.amount; cash = c.cash.amount; opening_need = c.opening_need }

abbrev pub slip_in : Stub → Slip
slip_in s = record { serial = s.serial; holder = holder_of s.holder; amount = s.amount.amount }

abbrev pub trade_in : TradeCell → Trade
trade_in Empty = no_trade
trade_in (Unspecified t) = record { trader = t.trader; position = position_of t.position; standing = unspecified }
trade_in (Specified t c) = record { trader = t.trader; position = position_of t.position; standing = specified c }
trade_in (Carried t c) = record { trader = t.trader; position = position_of t.position; standing = carried c }

abbrev pub traders_in : Rows TraderRow 16 → List Trader
traders_in ts = map trader_in (listed ts)

abbrev pub clients_in : Rows ClientRow 128 → List Client
clients_in cs = map client_in (listed cs)

abbrev pub slips_in : Rows Stub 32 → List Slip
slips_in ss = map slip_in (listed ss)

abbrev pub trades_in : TradeTable → List Trade
trades_in t = map trade_in (cells_in t)
