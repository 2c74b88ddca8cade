-- One order carried out. Assumes nothing.
use Rattle.std.specs.Prelude.{◌≡◌}
use Rattle.scenario.specs.Table.{ScenarioTable}
use Rattle.rules.specs.Ledger.{Ledger}
use Rattle.rules.specs.Causes.{Call}
use Rattle.rules.specs.Answers.{Answer, Answered}
use Rattle.desk.specs.Told.{Told, astray}
use Rattle.desk.specs.Meant.{Meaning, makes, opens, no_call, shown}

-- a call answered by the rules, and told as it is answered
pub record Called (m : ScenarioTable) (x : Call) (t : Told) (l l' : Ledger) : Type 0 where
  pub answer : Answer
  pub shows : t ≡ shown x answer
  pub rules : Answered m l x answer l'

-- what is told of an order of that meaning, and what it leaves
abbrev pub Turned : ScenarioTable → Meaning → Told → Ledger → Ledger → Type 0
Turned m (makes x) t l l' = Called m x t l l'
Turned m opens t l l' = ⊥
Turned m (no_call why) t l l' = (t ≡ astray why) × (l' ≡ l)
