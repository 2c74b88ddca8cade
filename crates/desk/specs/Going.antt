-- How far the talk of a day has come. Assumes nothing.
use Rattle.std.specs.Prelude.{◌≡◌, ◌≤◌, ℕ, Bool, true, false, List, [], length}
use Rattle.scenario.specs.Table.{ScenarioTable}
use Rattle.rules.specs.Ledger.{Ledger, Slip, empty_ledger}
use Rattle.rules.specs.Runs.{Event, fed, ledger_after}
use Rattle.desk.specs.Told.{Step}
use Rattle.desk.specs.Talks.{preparing, trading, Talked, Finished}

module _ {D : Type 0} (past : D → D → List Step → Type 0) (m : ScenarioTable) (bs : List Slip) (first now : D) where
  -- the preparation goes on, after n orders at least
  pub record Preparing (l : Ledger) (n : ℕ) : Type 0 where
    pub calls : List Event
    pub talked : Talked past m bs first now (preparing calls)
    pub ledger : l ≡ fed m empty_ledger calls
    pub long : n ≤ length talked.steps

  -- an order opened the session
  pub record Opened (l : Ledger) : Type 0 where
    pub calls : List Event
    pub talked : Talked past m bs first now (trading calls [])
    pub ledger : l ≡ fed m empty_ledger calls

  -- none did
  pub record Unopened (l : Ledger) : Type 0 where
    pub calls : List Event
    pub finished : Finished past m bs first now (preparing calls)
    pub ledger : l ≡ fed m empty_ledger calls

  -- whether an order opened the session
  abbrev pub Prepared : Ledger → Bool → Type 0
  Prepared l true = Opened l
  Prepared l false = Unopened l

  -- the session goes on, after the calls of its preparation and n orders at least
  pub record Trading (es : List Event) (l : Ledger) (n : ℕ) : Type 0 where
    pub calls : List Event
    pub talked : Talked past m bs first now (trading es calls)
    pub ledger : l ≡ ledger_after m es calls
    pub long : n ≤ length talked.steps

  -- the session has no more orders
  pub record Traded (es : List Event) (l : Ledger) : Type 0 where
    pub calls : List Event
    pub finished : Finished past m bs first now (trading es calls)
    pub ledger : l ≡ ledger_after m es calls
