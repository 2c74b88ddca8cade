use Rattle.std.proofs.Common.{false, map, ap}
use Rattle.book.specs.Means.{trader_in, client_in, trade_in, slip_in}
use Rattle.book.proofs.books.Book.new.Goals as goal

pub returns : goal.returns
returns c = λ i. record { traders = ap (map trader_in) c.new.ensures i; clients = ap (map client_in) c.new-2.ensures i; trades = ap (map trade_in) c.new-3.ensures i; prices = c.new-4.ensures i; slips = ap (map slip_in) c.new-5.ensures i; made = 0; passed = false }
