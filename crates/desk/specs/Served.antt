-- What the serving of a whole day promises. Assumes nothing.
use Rattle.std.specs.Prelude.{◌≡◌, true, List, [], ◌++◌, map}
use Rattle.scenario.specs.Table.{ScenarioTable}
use Rattle.rules.specs.Ledger.{Ledger, Slip}
use Rattle.rules.specs.Causes.{put_back}
use Rattle.rules.specs.Runs.{Event, Run, ledger, ledger_after}
use Rattle.rules.specs.Law.{LawThroughout}
use Rattle.desk.specs.Told.{Step}
use Rattle.desk.specs.Talks.{Moment, calls_before, calls_after, Finished}

-- every slip of a list is put back
abbrev pub given_back : List Slip → List Event
given_back ss = map (λ s. record { call = put_back s; accepted = true }) ss

-- a day was served: what was asked and told is a run, to whose end every slip that still stood was put back; the run's ledger is the session's; and the law of the day holds at every moment of it
pub record Served {D : Type 0} (past : D → D → List Step → Type 0) (m : ScenarioTable) (bs : List Slip) (first last : D) (l : Ledger) : Type 0 where
  pub moment : Moment
  pub talk : Finished past m bs first last moment
  pub run : Run m
  pub before : run.before ≡ calls_before moment
  pub after : run.after ≡ calls_after moment ++ given_back (ledger_after m (calls_before moment) (calls_after moment)).slips
  pub ends : l ≡ ledger m run
  pub none_stand : l.slips ≡ []
  pub law : LawThroughout m run
