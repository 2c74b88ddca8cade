-- What every ledger of a day keeps. Assumes nothing.
use Rattle.std.specs.Prelude.{◌≡◌, ℕ, ◌<◌, ◌≤◌, List, length, get_or, ℤ, pos, ◌+ℤ◌, neg_ℤ, ◌≤ℤ◌, Some, None, Option, slice_index_or}
use Rattle.scenario.specs.Table.{ScenarioTable, Lawful}
use Rattle.rules.specs.Bounds.{most_trades, most_quantity, most_price, most_amount, most_backing}
use Rattle.rules.specs.Ledger.{Holder, Slip, specified, Trade, Trader, Client, Ledger, no_slip, no_trader, no_client, no_trade, collateral_in}
use Rattle.rules.specs.Limits.{risk, backing}
use Rattle.rules.specs.Causes.{amounts_of}
use Rattle.rules.specs.Runs.{Run, ledger}

-- an amount within n either way
abbrev pub Near : ℕ → ℤ → Type 0
Near n x = (neg_ℤ (pos n) ≤ℤ x) × (x ≤ℤ pos n)

-- an amount from 0 to n
abbrev pub Upto : ℕ → ℤ → Type 0
Upto n x = (pos 0 ≤ℤ x) × (x ≤ℤ pos n)

-- what money stands where: no amount is below 0, and no holder has more than it may, its standing slips counted in
pub record Funded (ts : List Trader) (cs : List Client) (ss : List Slip) : Type 0 where
  pub granted : (t : ℕ) → Upto most_amount (get_or ts t no_trader).intraday
  pub covered : (h : Holder) → pos 0 ≤ℤ collateral_in ts cs h
  pub paid : (i : ℕ) → pos 0 ≤ℤ (get_or ss i no_slip).amount
  pub capped : (h : Holder) → (collateral_in ts cs h +ℤ amounts_of ss h) ≤ℤ pos most_amount

-- a trade given to a client is one of that client's trader
abbrev pub Given : List Client → Trade → Type 0
Given cs t = (c : ℕ) → t.standing ≡ specified c → (c < length cs) × ((get_or cs c no_client).trader ≡ t.trader)

-- quantity and price are in their ranges
abbrev pub Small : Trade → Type 0
Small t = Near most_quantity t.position.quantity × (t.position.price ≤ most_price)

abbrev pub Cheap : Option ℕ → Type 0
Cheap o = elim o [ Some p ↦ p | None ↦ 0 ] ≤ most_price

-- trades are few and small, and market prices are in their range
pub record Bounded (ts : List Trade) (ps : List (Option ℕ)) : Type 0 where
  pub few : length ts ≤ most_trades
  pub small : (i : ℕ) → Small (slice_index_or ts i no_trade)
  pub cheap : (c : ℕ) → Cheap (slice_index_or ps c None)

pub record Sound (l : Ledger) : Type 0 where
  pub funded : Funded l.traders l.clients l.slips
  pub given : (i : ℕ) → Given l.clients (slice_index_or l.trades i no_trade)
  pub bounded : Bounded l.trades l.prices

-- so backing and risk are never below 0, and the utilisation is a share of one in the other
abbrev pub BackingAndRiskNotNegative : Type 0
BackingAndRiskNotNegative = (m : ScenarioTable) → Lawful m → (r : Run m) (tr : ℕ) → Upto most_backing (backing m (ledger m r) tr) × (pos 0 ≤ℤ risk m (ledger m r) tr)
