use Rattle.std.proofs.Common.{refl}
use Rattle.cells.specs.Listed.{listed}
use Rattle.rules.specs.Causes.{settle}
use Rattle.rules.proofs.Slips.{settled}
use Rattle.book.specs.Ledgers.{ledger_in}
use Rattle.book.specs.Means.{slip_in}
use Rattle.book.proofs.Facts.{capped_after}
use Rattle.book.proofs.Readings.{read_at}
use Rattle.money.proofs.Paying.{no_contracts, found_struck}
use Rattle.money.proofs.vaults.settle.Goals as goal

pub invariant_of-book : goal.invariant_of-book
invariant_of-book c =
    let b = c.args.book.now in
    let s = slip_in c.args.stub in
    let f = read_at _ _ c.find.result c.in_ok-found.found c.find.ensures c.in_ok-found.ensures.ok_part in
    record { capped = capped_after no_contracts b (settle s) (settled no_contracts (ledger_in b) s f.1) _ _ _ refl refl (found_struck s (listed b.slips) (listed c.remove.new.self) c.in_ok-found.found f.2 c.remove.ensures) }
