use Rattle.std.proofs.Common.{rules, ◌≡◌, not, sym, ap, ◌∙◌}
use Rattle.std.proofs.lemmas.Bool.{lt-ltb}
use Rattle.rules.specs.Ledger.{Client}
use Rattle.book.specs.Ledgers.{ledger_in}
use Rattle.book.proofs.Facts.{bounded_in}
use Rattle.book.proofs.Readings.{read_at}
use Rattle.entries.proofs.Traded.{placed_known, carry_entered}
use Rattle.entries.proofs.trading.enter_carry.Goals as goal

pub returns : goal.returns
returns c m w p =
    let b = c.args.book.now in
    let k = placed_known m c.args.lot.contract c.in_ok-contract.contract (sym c.in_ok-contract.ensures.ok_part ∙ p) in
    let t = read_at _ _ c.client.result c.in_ok-row.row c.client.ensures c.in_ok-row.ensures.ok_part in
    let same : c.in_ok-number.number ≡ c.args.client = search rules in
    carry_entered m w (ledger_in b) (bounded_in b) c.args.lot c.in_ok-contract.contract k.1 k.0 c.args.client _ _ c.enter_lot.result _ same (ap (λ (x : Client). x.trader) t.1) (ap not (lt-ltb _ _ t.0)) c.enter_lot.ensures
