use Rattle.std.proofs.Common.{◌≡◌, true, ◌&&◌, [], ◌∷◌, ◌++◌, ℤ, pos, None, Option, sym, refl, ap, ◌∙◌, arith, w64}
use Rattle.std.proofs.lemmas.Int.{to_z-of_z}
use Rattle.scenario.specs.Table.{ScenarioTable}
use Rattle.cells.specs.Listed.{listed}
use Rattle.rules.specs.Bounds.{most_amount, most_defaults, most_traders}
use Rattle.rules.specs.Ledger.{Trader, with_traders}
use Rattle.rules.specs.Answers.{numbered}
use Rattle.rules.specs.Causes.{trader, within, cause, new_trader}
use Rattle.rules.proofs.Answered.{accepts}
use Rattle.book.specs.Ledgers.{ledger_in}
use Rattle.book.specs.Means.{trader_in, traders_in}
use Rattle.book.proofs.Facts.{capped_after}
use Rattle.entries.specs.Made.{made_if, trader_made}
use Rattle.entries.proofs.Entered.{no_contracts, pushed, not_full, counted, made_some, trader_free}
use Rattle.entries.proofs.parties.enter_trader.Goals as goal
use Rattle.entries.proofs.parties.enter_trader.Goals.{After-push}

-- the made trader, by the amounts that were asked for
asked : (o : Option Trader) (a n a' n' : ℤ) → a' ≡ a → n' ≡ n → o ≡ made_if (within (pos 0) (pos most_amount) a' && within (pos 1) (pos most_defaults) n') (new_trader a' n') → o ≡ made_if (within (pos 0) (pos most_amount) a && within (pos 1) (pos most_defaults) n) (new_trader a n)
asked o a n a' n' p q e = e ∙ (λ i. made_if (within (pos 0) (pos most_amount) (p i) && within (pos 1) (pos most_defaults) (q i)) (new_trader (p i) (q i)))

made : (c : After-push) → ((within (pos 0) (pos most_amount) c.args.intraday && within (pos 1) (pos most_defaults) c.args.defaults) ≡ true) × (trader_in c.in_ok-trader.trader ≡ new_trader c.args.intraday c.args.defaults)
made c = made_some _ _ _ (asked _ c.args.intraday c.args.defaults _ _ (to_z-of_z w64 c.args.intraday c.ranges.intraday) (to_z-of_z w64 c.args.defaults c.ranges.defaults) (ap trader_made (sym c.in_ok-trader.ensures.ok_part) ∙ c.made_trader.ensures))

free : (c : After-push) (m : ScenarioTable) → cause m (ledger_in c.args.book.now) (trader c.args.intraday c.args.defaults) ≡ None
free c m = trader_free m (ledger_in c.args.book.now) c.args.intraday c.args.defaults (not_full trader_in (listed c.args.book.now.traders) _ most_traders c.len-number.ensures.value c.if-number-ge-MOST_TRADERS.false) (made c).0

longer : (c : After-push) → traders_in c.push.new.self ≡ traders_in c.args.book.now.traders ++ new_trader c.args.intraday c.args.defaults ∷ []
longer c = pushed trader_in (listed c.args.book.now.traders) (listed c.push.new.self) c.in_ok-trader.trader (new_trader c.args.intraday c.args.defaults) (c.push.ensures.room (omega (arith, c.len-number.ensures.value, c.if-number-ge-MOST_TRADERS.false))).1 (made c).1

pub invariant_of-book : goal.invariant_of-book
invariant_of-book c = record { capped = capped_after no_contracts c.args.book.now (trader c.args.intraday c.args.defaults) (free c no_contracts) _ _ _ (longer c) refl refl }

pub returns : goal.returns
returns c m =
    let w = (goal.at.returns c).After-push in
    let l = ledger_in c.args.book.now in
    accepts m l (trader c.args.intraday c.args.defaults) _ _ (free w m) (ap numbered (counted trader_in (listed c.args.book.now.traders) _ c.len-number.ensures.value)) (ap (with_traders l) (longer w))
