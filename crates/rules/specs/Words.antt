-- That no ruled day reaches beyond the word. Assumes nothing.
use Rattle.std.specs.Prelude.{List, pos, neg_ℤ, ◌≤ℤ◌, Some, ◌≢◌}
use Rattle.scenario.specs.Table.{ScenarioTable, Lawful}
use Rattle.rules.specs.Bounds.{farthest}
use Rattle.rules.specs.Ledger.{Ledger, empty_ledger}
use Rattle.rules.specs.Causes.{Call, cause, reach}
use Rattle.rules.specs.Runs.{Event, fed, Ruled, Run, ledger}

-- what the values of all trades can sum to, either way
pub record FarFromTheWord (m : ScenarioTable) (l : Ledger) : Type 0 where
  pub gains : reach m l (λ v. v) ≤ℤ pos farthest
  pub losses : reach m l neg_ℤ ≤ℤ pos farthest
  -- so the row of cause 22 never holds
  pub never : (x : Call) → cause m l x ≢ Some 22

-- after any ruled calls, of a preparation or of a whole run
abbrev pub AllFarFromTheWord : Type 0
AllFarFromTheWord =
    (m : ScenarioTable) → Lawful m
    → ((es : List Event) → Ruled m empty_ledger es → FarFromTheWord m (fed m empty_ledger es)) × ((r : Run m) → FarFromTheWord m (ledger m r))
