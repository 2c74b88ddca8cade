-- A small day that can be worked out by hand: one trader, one client, one contract. Assumes nothing.
use Rattle.std.specs.Prelude.{ℕ, Bool, true, false, cond, ◌&&◌, List, [], ◌∷◌, ℤ, pos, negsuc, Some, None, Option, ◌==◌}
use Rattle.scenario.specs.Table.{ScenarioTable}
use Rattle.rules.specs.Ledger.{of_client, of_trader, buy}
use Rattle.rules.specs.Limits.{limit}
use Rattle.rules.specs.Causes.{Call, trader, client, price, deposit, trade, specify, withdraw}
use Rattle.rules.specs.Runs.{Event, ledger_after}

abbrev pub known : Bool → Option (ℕ × ℕ)
known true = Some (0, 10)
known false = None

-- one subportfolio of two scenarios, and contract 7 in it, which loses 100 centavos in the second
abbrev pub table : ScenarioTable
table = record {
  subportfolios = 1;
  scenarios = λ k. cond (k == 0) 2 0;
  place = λ c. known (c == 7);
  shock = λ c s. cond (c == 7 && s == 1) (negsuc 99) (pos 0);
}

abbrev pub agreed : Call → Event
agreed x = record { call = x; accepted = true }

abbrev pub turned_down : Call → Event
turned_down x = record { call = x; accepted = false }

-- a trader with an intraday limit of 1,000 and 400 of its own, and a client of it with some collateral
abbrev pub preparing : ℤ → List Event
preparing a = agreed (trader (pos 1000) (pos 2)) ∷ agreed (client 0) ∷ agreed (price 7 50) ∷ turned_down (price 8 50) ∷ agreed (deposit (of_client 0) a) ∷ agreed (deposit (of_trader 0) (pos 400)) ∷ []

-- 3 bought and given to the client, 4 bought and given to none, and 10 withdrawn by the trader
abbrev pub trading : List Event
trading = agreed (trade 0 7 buy 3 50) ∷ agreed (specify 0 0) ∷ turned_down (specify 0 0) ∷ agreed (trade 0 7 buy 4 50) ∷ turned_down (withdraw (of_client 0) (pos 200)) ∷ agreed (withdraw (of_trader 0) (pos 10)) ∷ []

-- 20 bought and given to none
abbrev pub sinking : List Event
sinking = agreed (trade 0 7 buy 20 50) ∷ []

-- the limit of the trader after that: 1,000 + 400 - 20 * 100
abbrev pub sunk_limit : ℤ
sunk_limit = limit table (ledger_after table (preparing (pos 250)) sinking) 0
