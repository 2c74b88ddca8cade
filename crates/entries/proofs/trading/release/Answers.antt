use Rattle.std.proofs.Common.{not, sym, refl, ap, ◌∙◌}
use Rattle.std.proofs.lemmas.Bool.{lt-ltb}
use Rattle.rules.specs.Ledger.{Trade}
use Rattle.rules.specs.Causes.{is_specified}
use Rattle.rules.proofs.Rows.{skip}
use Rattle.book.specs.Ledgers.{ledger_in}
use Rattle.book.specs.Means.{trade_in}
use Rattle.book.specs.Tabled.{cells_in}
use Rattle.book.proofs.Readings.{read_at}
use Rattle.entries.proofs.Traded.{taken_at, with_trades}
use Rattle.entries.proofs.trading.release.Goals as goal

pub returns : goal.returns
returns c =
    let b = c.args.book.now in
    let t = read_at _ _ c.cell.result c.in_ok-cell.cell c.cell.ensures c.in_ok-cell.ensures.ok_part in
    let is = ap trade_in c.in-Specified.is in
    let at = taken_at (cells_in b.trades) c.args.trade t.0 c.in_ok-cell.cell t.1 c.in-Specified.field-1 c.change.result (cells_in c.change.new.self) (ap (λ (x : Trade). x.standing) is) c.change.ensures.known in
    record {
      caused = sym (skip _ 10 _ _ (ap not (lt-ltb _ _ t.0)) (skip _ 16 _ _ (ap (λ (x : Trade). not (is_specified x)) (sym t.1 ∙ is)) refl));
      leaves = ap (with_trades (ledger_in b)) at.1;
      whose = ap (λ (x : Trade). x.trader) (sym is ∙ t.1);
    }
