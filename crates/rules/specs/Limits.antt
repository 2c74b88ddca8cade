-- A trader's limit by the ledger. Assumes nothing.
use Rattle.std.specs.Prelude.{ℕ, Bool, false, List, map, length, ℤ, ◌+ℤ◌, ◌-ℤ◌, nat_eq}
use Rattle.scenario.specs.Table.{ScenarioTable}
use Rattle.figures.specs.Sums.{those_below, only, total_greatest}
use Rattle.figures.specs.Figures.{Position, need, deficit, open_risk}
use Rattle.rules.specs.Ledger.{Ledger, Trade, unspecified, specified, carried, trader_of, client_of, market}

-- whether a trade is a client's, given or carried
abbrev pub held_by : ℕ → Trade → Bool
held_by c t = elim t.standing [ unspecified ↦ false | specified d ↦ nat_eq c d | carried d ↦ nat_eq c d ]

-- whether a trade is a trader's and has no client yet
abbrev pub open_for : ℕ → Trade → Bool
open_for tr t = elim t.standing [ unspecified ↦ nat_eq tr t.trader | specified d ↦ false | carried d ↦ false ]

abbrev pub held : Ledger → ℕ → List Position
held l c = map (λ t. t.position) (only (held_by c) l.trades)

abbrev pub open_trades : Ledger → ℕ → List Position
open_trades l tr = map (λ t. t.position) (only (open_for tr) l.trades)

abbrev pub clients_of : Ledger → ℕ → List ℕ
clients_of l tr = those_below (length l.clients) (λ c. nat_eq (client_of l c).trader tr)

module _ (m : ScenarioTable) (l : Ledger) where
  abbrev pub need_of : ℕ → ℤ
  need_of c = need m (market l) (held l c) (client_of l c).cash

  abbrev pub deficit_of : ℕ → ℤ
  deficit_of c = deficit (need_of c) (client_of l c).collateral

  abbrev pub specified_risk : ℕ → ℤ
  specified_risk tr = total_greatest (trader_of l tr).defaults (map deficit_of (clients_of l tr))

  abbrev pub unspecified_risk : ℕ → ℤ
  unspecified_risk tr = open_risk m (market l) (open_trades l tr)

  abbrev pub risk : ℕ → ℤ
  risk tr = specified_risk tr +ℤ unspecified_risk tr

  -- what stands behind a trader
  abbrev pub backing : ℕ → ℤ
  backing tr = (trader_of l tr).intraday +ℤ (trader_of l tr).own +ℤ (trader_of l tr).favour

  abbrev pub limit : ℕ → ℤ
  limit tr = backing tr -ℤ risk tr
