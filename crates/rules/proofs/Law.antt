-- Every run keeps the law of the day. Assumes nothing.
use Rattle.scenario.specs.Table.{ScenarioTable, Lawful}
use Rattle.rules.specs.Law.{EveryDayKeepsTheLaw, LawThroughout, RiskIsTheWorstOfDays}
use Rattle.rules.specs.Runs.{Run, ledger}
use Rattle.rules.proofs.Deposits.{larger_before, larger_after}
use Rattle.rules.proofs.Sound.{sound_ledger}
use Rattle.rules.proofs.Release.{release}
use Rattle.rules.proofs.Worst.{worst_day, no_day_worse, some_day_as_bad}

pub risk_is_the_worst : RiskIsTheWorstOfDays
risk_is_the_worst m w r tr = record { none_worse = no_day_worse m w (ledger m r) tr; some_as_bad = some_day_as_bad m w (ledger m r) tr (sound_ledger m r) }

pub day_law : EveryDayKeepsTheLaw
day_law m w r =
    record {
      worst_day = λ tr h. worst_day m w (ledger m r) tr (sound_ledger m r);
      risk_is_worst = risk_is_the_worst m w r;
      larger_before = larger_before m r;
      larger_after = larger_after m r;
      release = release m (ledger m r) (sound_ledger m r);
    }

pub law_throughout : (m : ScenarioTable) → Lawful m → (r : Run m) → LawThroughout m r
law_throughout m w r r' rest b e = day_law m w r'
