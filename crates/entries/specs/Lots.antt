-- A lot that is entered, and a trade that is taken from its client. Assumes nothing.
use Rattle.std.specs.Prelude.{◌≡◌, ℕ, not, [], ◌∷◌, length, Some, None, Ok, Err, Option, Result, nat_lt}
use Rattle.scenario.specs.Table.{ScenarioTable}
use Rattle.figures.specs.Figures.{Position}
use Rattle.orders.specs.declared.Lot.{Lot}
use Rattle.orders.specs.Meant.{side_of}
use Rattle.refusals.specs.declared.Refusal.{Refusal}
use Rattle.refusals.specs.Numbers.{refusal_of}
use Rattle.rules.specs.Bounds.{most_trades}
use Rattle.rules.specs.Ledger.{Ledger, Standing, unspecified, carried, signed, price_of, trade_of}
use Rattle.rules.specs.Causes.{absent, first, is_lot, is_specified, no_such_trade, new_trade, with_trade, standing_as}

-- a contract's number, where a table knows it
abbrev pub placed_in : ScenarioTable → ℕ → Option ℕ
placed_in m k = elim (m.place k) [ Some p ↦ Some k | None ↦ None ]

abbrev pub lot_position : ℕ → Lot → Position
lot_position k x = record { contract = k; quantity = signed (side_of x.side) x.quantity; price = x.price }

-- why a lot of a known contract cannot be entered for a known trader or client
abbrev pub lot_cause : Ledger → ℕ → Lot → Option ℕ
lot_cause l k x = first ((not (nat_lt (length l.trades) most_trades), 11) ∷ (not (is_lot x.quantity x.price), 12) ∷ (absent (price_of l k), 13) ∷ [])

-- where a new trade stands: carried for a client, or with none yet
abbrev pub standing_for : Option ℕ → Standing
standing_for (Some c) = carried c
standing_for None = unspecified

-- the ledger after a lot was entered or refused
abbrev pub after_lot : Ledger → ℕ → ℕ → Lot → Standing → Result ℕ Refusal → Ledger
after_lot l t k x s (Ok n) = with_trade l (new_trade t k (side_of x.side) x.quantity x.price s)
after_lot l t k x s (Err e) = l

-- an entered trade has the next number
abbrev pub NextNumber : Ledger → Result ℕ Refusal → Type 0
NextNumber l (Ok n) = n ≡ length l.trades
NextNumber l (Err e) = Unit {0}

pub record LotEntered (l : Ledger) (t k : ℕ) (x : Lot) (s : Standing) (r : Result ℕ Refusal) (l' : Ledger) : Type 0 where
  pub caused : refusal_of r ≡ lot_cause l k x
  pub leaves : l' ≡ after_lot l t k x s r
  pub numbers : NextNumber l r

-- why a trade cannot be taken from a client, its trader's limit aside
abbrev pub release_cause : Ledger → ℕ → Option ℕ
release_cause l i = first ((no_such_trade l i, 10) ∷ (not (is_specified (trade_of l i)), 16) ∷ [])

abbrev pub after_release : Ledger → ℕ → Result ℕ Refusal → Ledger
after_release l i (Ok t) = standing_as l i unspecified
after_release l i (Err e) = l

-- a released trade's trader
abbrev pub Whose : Ledger → ℕ → Result ℕ Refusal → Type 0
Whose l i (Ok t) = t ≡ (trade_of l i).trader
Whose l i (Err e) = Unit {0}

pub record Released (l : Ledger) (i : ℕ) (r : Result ℕ Refusal) (l' : Ledger) : Type 0 where
  pub caused : refusal_of r ≡ release_cause l i
  pub leaves : l' ≡ after_release l i r
  pub whose : Whose l i r
