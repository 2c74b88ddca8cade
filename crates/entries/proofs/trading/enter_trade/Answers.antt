use Rattle.std.proofs.Common.{sym, ◌∙◌}
use Rattle.book.specs.Ledgers.{ledger_in}
use Rattle.book.proofs.Facts.{bounded_in}
use Rattle.book.proofs.Readings.{read_at}
use Rattle.entries.proofs.Traded.{placed_known, trade_entered}
use Rattle.entries.proofs.trading.enter_trade.Goals as goal

pub returns : goal.returns
returns c m w p =
    let b = c.args.book.now in
    let k = placed_known m c.args.lot.contract c.in_ok-contract.contract (sym c.in_ok-contract.ensures.ok_part ∙ p) in
    let t = read_at _ _ c.known_trader.result c.in_ok-owner.owner c.known_trader.ensures c.in_ok-owner.ensures.ok_part in
    trade_entered m w (ledger_in b) (bounded_in b) c.args.lot c.in_ok-contract.contract k.1 k.0 c.args.trader _ c.enter_lot.result _ t.1 t.0 c.enter_lot.ensures
