-- Runs of a day: the preparation's calls, the opening, the session's calls. Assumes nothing.
use Rattle.std.specs.Prelude.{◌≡◌, Bool, cond, List, [], ◌∷◌}
use Rattle.scenario.specs.Table.{ScenarioTable}
use Rattle.rules.specs.Ledger.{Ledger, empty_ledger}
use Rattle.rules.specs.Causes.{Call, trader, client, carry, price, deposit, opening, trade, specify, cancel, withdraw, settle, put_back, cash, window, statement, cause, entered, absent}

-- a call, with whether it was accepted
pub record Event : Type 0 where
  pub call : Call
  pub accepted : Bool

-- the ledger after some events: it takes in the accepted calls, and nothing else
abbrev pub fed : ScenarioTable → Ledger → List Event → Ledger
fed m l [] = l
fed m l (e ∷ es) = fed m (cond e.accepted (entered m l e.call) l) es

-- calls that a preparation has, and calls that a session has
abbrev pub Before : Call → Type 0
Before (trader a n) = Unit {0}
Before (client t) = Unit {0}
Before (carry c k side q p) = Unit {0}
Before (price k p) = Unit {0}
Before (deposit h a) = Unit {0}
Before opening = ⊥
Before (trade t k side q p) = ⊥
Before (specify i c) = ⊥
Before (cancel i) = ⊥
Before (withdraw h a) = ⊥
Before (settle s) = ⊥
Before (put_back s) = ⊥
Before (cash c v) = ⊥
Before window = ⊥
Before (statement t) = ⊥

abbrev pub After : Call → Type 0
After (trader a n) = ⊥
After (client t) = ⊥
After (carry c k side q p) = ⊥
After (price k p) = Unit {0}
After (deposit h a) = Unit {0}
After opening = ⊥
After (trade t k side q p) = Unit {0}
After (specify i c) = Unit {0}
After (cancel i) = Unit {0}
After (withdraw h a) = Unit {0}
After (settle s) = Unit {0}
After (put_back s) = Unit {0}
After (cash c v) = Unit {0}
After window = Unit {0}
After (statement t) = Unit {0}

abbrev pub AllCalls : (Call → Type 0) → List Event → Type 0
AllCalls P [] = Unit {0}
AllCalls P (e ∷ es) = P e.call × AllCalls P es

-- every call was accepted or refused as the rows say, at what the ledger held then
abbrev pub Ruled : ScenarioTable → Ledger → List Event → Type 0
Ruled m l [] = Unit {0}
Ruled m l (e ∷ es) = (e.accepted ≡ absent (cause m l e.call)) × Ruled m (cond e.accepted (entered m l e.call) l) es

-- a whole run: the preparation's calls, the opening, the session's calls
pub record Run (m : ScenarioTable) : Type 0 where
  pub before : List Event
  pub after : List Event
  pub prepares : AllCalls Before before
  pub trades : AllCalls After after
  pub prepared : Ruled m empty_ledger before
  pub ruled : Ruled m (entered m (fed m empty_ledger before) opening) after

-- what the ledger holds at the opening of a day, and at its end
abbrev pub ledger_at_opening : ScenarioTable → List Event → Ledger
ledger_at_opening m before = entered m (fed m empty_ledger before) opening

abbrev pub ledger_after : ScenarioTable → List Event → List Event → Ledger
ledger_after m before after = fed m (ledger_at_opening m before) after

abbrev pub opened_ledger : (m : ScenarioTable) → Run m → Ledger
opened_ledger m r = ledger_at_opening m r.before

abbrev pub ledger : (m : ScenarioTable) → Run m → Ledger
ledger m r = ledger_after m r.before r.after
