-- A bad day of a trader, and what it loses. Assumes nothing.
use Rattle.std.specs.Prelude.{ℕ, ◌+◌, ◌<◌, ◌≤◌, Bool, cond, List, [], ◌∷◌, ℤ, pos, ◌+ℤ◌, ◌-ℤ◌, neg_ℤ, Some, None}
use Rattle.scenario.specs.Table.{ScenarioTable}
use Rattle.figures.specs.Sums.{smaller, total, total_below}
use Rattle.figures.specs.Figures.{Position, mark, value, loss_in}
use Rattle.rules.specs.Ledger.{Ledger, trader_of, client_of, market}
use Rattle.rules.specs.Limits.{held, open_trades, clients_of}

-- one scenario in every subportfolio
abbrev pub Scenarios : Type 0
Scenarios = ℕ → ℕ

-- a day names clients that default, for each of them its scenarios, trades that have no client yet, and the scenarios for those
pub record BadDay : Type 0 where
  pub defaults : ℕ → Bool
  pub scenarios : ℕ → Scenarios
  -- by place in the list of the trader's trades without a client
  pub loses : ℕ → Bool
  pub together : Scenarios

abbrev pub counted : (ℕ → Bool) → List ℕ → ℕ
counted p [] = 0
counted p (x ∷ xs) = cond (p x) 1 0 + counted p xs

abbrev pub InRange : ScenarioTable → Scenarios → Type 0
InRange m s = (k : ℕ) → k < m.subportfolios → s k < m.scenarios k

-- the days that a trader may meet: at most so many of its clients default, and every scenario is one of the table
pub record Possible (m : ScenarioTable) (l : Ledger) (tr : ℕ) (d : BadDay) : Type 0 where
  pub few : counted d.defaults (clients_of l tr) ≤ (trader_of l tr).defaults
  pub each : (c : ℕ) → InRange m (d.scenarios c)
  pub all : InRange m d.together

module _ (m : ScenarioTable) (l : Ledger) where
  -- what a defaulting client leaves unpaid
  abbrev pub unpaid : ℕ → Scenarios → ℤ
  unpaid c s = total_below m.subportfolios (λ k. loss_in m (held l c) k (s k)) -ℤ total (mark m (market l)) (held l c) -ℤ smaller (pos 0) (client_of l c).cash -ℤ (client_of l c).collateral

  -- the subportfolio of a position's contract
  abbrev pub place_of : Position → ℕ
  place_of t = elim (m.place t.contract) [ Some p ↦ p.0 | None ↦ 0 ]

  -- minus the values of the positions that the day takes, counted from i
  abbrev pub taken : BadDay → ℕ → List Position → ℤ
  taken d i [] = pos 0
  taken d i (t ∷ ts) = cond (d.loses i) (neg_ℤ (value m (market l) (d.together (place_of t)) t)) (pos 0) +ℤ taken d (i + 1) ts

  abbrev pub loss : ℕ → BadDay → ℤ
  loss tr d = total (λ c. cond (d.defaults c) (unpaid c (d.scenarios c)) (pos 0)) (clients_of l tr) +ℤ taken d 0 (open_trades l tr)
