use Rattle.std.proofs.Common.{◌≡◌, true, not, List, ℤ, None, sym, refl, ap, ◌∙◌, arith, w64}
use Rattle.std.proofs.lemmas.Int.{to_z-of_z}
use Rattle.std.proofs.lemmas.List.{length-map}
use Rattle.cells.specs.Listed.{listed}
use Rattle.book.specs.Means.{client_in}
use Rattle.std.proofs.lemmas.Bool.{lt-ltb}
use Rattle.figures.specs.Markets.{fair_cash, figure_if}
use Rattle.figures.specs.Settled.{settled}
use Rattle.scenario.specs.Table.{ScenarioTable}
use Rattle.rules.specs.Answers.{accepted}
use Rattle.rules.specs.Causes.{cash, cause}
use Rattle.rules.specs.Ledger.{Client, with_clients}
use Rattle.rules.proofs.Answered.{accepts}
use Rattle.book.specs.Ledgers.{ledger_in}
use Rattle.book.proofs.Readings.{read_at}
use Rattle.book.proofs.Facts.{capped_after}
use Rattle.money.proofs.Paying.{no_contracts, figure_some}
use Rattle.money.proofs.Settled.{cash_free}
use Rattle.money.proofs.Written.{cash_set}
use Rattle.money.proofs.settling.set_cash.Goals as goal
use Rattle.money.proofs.settling.set_cash.Goals.{Else-book}

amount : (c : Else-book) → (fair_cash c.args.amount ≡ true) × (c.in_ok-cash.cash.amount ≡ c.args.amount)
amount c = figure_some _ _ c.in_ok-cash.cash.amount (ap settled (sym (c.in_ok-cash.ensures.ok_part)) ∙ c.new.ensures ∙ ap (λ (z : ℤ). figure_if (fair_cash z) z) (to_z-of_z w64 c.args.amount c.ranges.amount))

free : (c : Else-book) (m : ScenarioTable) → cause m (ledger_in c.args.book.now) (cash c.args.client c.args.amount) ≡ None
free c m = cash_free m (ledger_in c.args.book.now) c.args.client c.args.amount (ap not (lt-ltb _ _ (omega (arith, length-map (listed c.args.book.now.clients) client_in, (read_at _ _ c.get_mut.result c.in_ok-row.row c.get_mut.ensures.value c.in_ok-row.ensures.ok_part).0)))) (amount c).0 c.if-book.false

pub invariant_of-book-2 : goal.invariant_of-book-2
invariant_of-book-2 c =
    let b = c.args.book.now in
    let w = (goal.at.invariant_of-book-2 c).Else-book in
    record { capped = capped_after no_contracts b (cash c.args.client c.args.amount) (free w no_contracts) _ _ _ refl (cash_set b.clients c.args.client c.in_ok-row.row.now c.in_ok-cash.cash c.args.amount (read_at _ _ c.get_mut.result c.in_ok-row.row c.get_mut.ensures.value c.in_ok-row.ensures.ok_part) (amount w).1) refl }

pub returns : goal.returns
returns c m =
    let l = ledger_in c.args.book.now in
    let w = (goal.at.returns c).Else-book in
    accepts m l (cash c.args.client c.args.amount) accepted _ (free w m) refl (ap (λ (xs : List Client). with_clients l xs l.passed) (cash_set c.args.book.now.clients c.args.client c.in_ok-row.row.now c.in_ok-cash.cash c.args.amount (read_at _ _ c.get_mut.result c.in_ok-row.row c.get_mut.ensures.value c.in_ok-row.ensures.ok_part) (amount w).1))
