use Rattle.std.proofs.Common.{rules, ◌≡◌, ℕ, not, set, Result, sym, ap, ◌∙◌}
use Rattle.std.proofs.lemmas.Bool.{lt-ltb}
use Rattle.orders.specs.Replied.{answered}
use Rattle.refusals.specs.declared.Refusal.{Refusal}
use Rattle.rules.specs.Ledger.{Trade, Client, specified, trade_of}
use Rattle.rules.specs.Causes.{specify, is_unspecified, standing_now}
use Rattle.rules.specs.Answers.{accepted}
use Rattle.rules.proofs.Answered.{accepts}
use Rattle.book.specs.declared.trades.standing.TradeCell.TheVariants.{Empty}
use Rattle.book.specs.Ledgers.{ledger_in}
use Rattle.book.specs.Means.{trade_in}
use Rattle.book.specs.Tabled.{cells_in}
use Rattle.book.proofs.Fills.{filled_at}
use Rattle.book.proofs.Readings.{read_at}
use Rattle.entries.proofs.Traded.{given_at, cell_read, specify_free, with_trades}
use Rattle.entries.proofs.trading.specify.Goals as goal

pub returns : goal.returns
returns c m =
    let b = c.args.book.now in
    let l = ledger_in b in
    let xs = cells_in b.trades in
    let i = c.args.trade in
    let t = read_at _ _ c.cell.result c.in_ok-cell.cell c.cell.ensures c.in_ok-cell.ensures.ok_part in
    let u = read_at _ _ c.client.result c.in_ok-row.row c.client.ensures c.in_ok-row.ensures.ok_part in
    let same : c.in_ok-number.number ≡ c.args.client = search rules in
    let is = ap trade_in c.in-Unspecified.is in
    let at = given_at xs i t.0 c.in_ok-cell.cell t.1 c.in_ok-number.number c.change.result (cells_in c.change.new.self) (filled_at xs i Empty (cell_read xs i t.0).0 b.trades.filled) (ap (λ (x : Trade). x.standing) is) c.change.ensures.known in
    let free = specify_free m l i c.args.client (ap not (lt-ltb _ _ t.0)) (ap not (lt-ltb _ _ u.0)) (ap is_unspecified (sym t.1 ∙ is)) (ap (λ (x : Client). x.trader) (sym u.1) ∙ c.if-row-found.false ∙ ap (λ (x : Trade). x.trader) (sym is ∙ t.1)) in
    accepts m l (specify i c.args.client) _ _ free (ap (λ (r : Result (Unit {0}) Refusal). answered {X = Unit {0}} (λ _. accepted) r) at.0) (ap (with_trades l) (at.1 ∙ ap (λ (k : ℕ). set l.trades i (standing_now (specified k) (trade_of l i))) same))
