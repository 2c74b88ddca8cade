-- The ledger that a book holds. Assumes nothing.
use Rattle.rules.specs.Ledger.{Ledger}
use Rattle.book.specs.declared.books.Book.{Book}
use Rattle.book.specs.Means.{traders_in, clients_in, slips_in, trades_in}

abbrev pub ledger_in : Book → Ledger
ledger_in b = record {
  traders = traders_in b.traders;
  clients = clients_in b.clients;
  trades = trades_in b.trades;
  prices = b.prices.ticks;
  slips = slips_in b.slips;
  made = b.made;
  passed = b.passed;
}
