-- What a holder has: its collateral, and what its standing slips say. Assumes nothing.
use Rattle.std.specs.Prelude.{ℤ, ◌+ℤ◌}
use Rattle.cells.specs.declared.rows.Rows.{Rows}
use Rattle.rules.specs.Ledger.{Holder, collateral_in}
use Rattle.rules.specs.Causes.{amounts_of}
use Rattle.book.specs.declared.clients.Client.{Client}
use Rattle.book.specs.declared.stubs.Stub.{Stub}
use Rattle.book.specs.declared.traders.Trader.{Trader}
use Rattle.book.specs.Means.{traders_in, clients_in, slips_in}

abbrev pub pledged : Rows Trader 16 → Rows Client 128 → Rows Stub 32 → Holder → ℤ
pledged ts cs ss h = collateral_in (traders_in ts) (clients_in cs) h +ℤ amounts_of (slips_in ss) h
