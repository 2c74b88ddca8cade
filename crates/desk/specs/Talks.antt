-- The talk of a day: what was asked and told, as a run of the rules. Assumes nothing.
use Rattle.std.specs.Prelude.{◌≡◌, ◌≤◌, List, [], ◌∷◌, ◌++◌, length, Some, None}
use Rattle.orders.specs.declared.Order.{Order}
use Rattle.orders.specs.declared.Order.TheVariants.{Open}
use Rattle.scenario.specs.Table.{ScenarioTable}
use Rattle.rules.specs.Ledger.{Ledger, Slip, empty_ledger}
use Rattle.rules.specs.Causes.{Call}
use Rattle.rules.specs.Answers.{Answer, is_accepted, ruling}
use Rattle.rules.specs.Runs.{Event, fed, ledger_after}
use Rattle.desk.specs.declared.replies.Misplaced.{Misplaced}
use Rattle.desk.specs.Told.{Told, done, astray, Step, asked, told}
use Rattle.desk.specs.Meant.{makes, no_call, prepares, trades, shown}

-- how far a day is: the calls of its preparation or, once it is open, these and those of its session
pub data Moment : Type 0 where
  preparing : List Event → Moment
  trading : List Event → List Event → Moment

abbrev pub ledger_at : ScenarioTable → Moment → Ledger
ledger_at m (preparing es) = fed m empty_ledger es
ledger_at m (trading es fs) = ledger_after m es fs

abbrev pub calls_before : Moment → List Event
calls_before (preparing es) = es
calls_before (trading es fs) = es

abbrev pub calls_after : Moment → List Event
calls_after (preparing es) = []
calls_after (trading es fs) = fs

-- a call and its answer, as an event of a run
abbrev pub event : Call → Answer → Event
event x a = record { call = x; accepted = is_accepted a }

-- an order, answered at once
abbrev pub turn : ScenarioTable → Order → Told → List Step
turn m o r = asked m (Some o) ∷ told r ∷ []

-- every order that is a call where it stands is the next event of the run, and answered as the rules say; every other is told that it is none
pub data Talk (m : ScenarioTable) (bs : List Slip) : Moment → List Step → Type 0 where
  begun : Talk m bs (preparing []) []
  prepared : {es : List Event} {ss : List Step} (o : Order) (x : Call) (a : Answer) → Talk m bs (preparing es) ss → prepares o ≡ makes x → a ≡ ruling m (fed m empty_ledger es) x → Talk m bs (preparing (es ++ event x a ∷ [])) (ss ++ turn m o (shown x a))
  opened : {es : List Event} {ss : List Step} → Talk m bs (preparing es) ss → Talk m bs (trading es []) (ss ++ turn m Open done)
  traded : {es fs : List Event} {ss : List Step} (o : Order) (x : Call) (a : Answer) → Talk m bs (trading es fs) ss → trades bs (ledger_after m es fs) o ≡ makes x → a ≡ ruling m (ledger_after m es fs) x → Talk m bs (trading es (fs ++ event x a ∷ [])) (ss ++ turn m o (shown x a))
  early : {es : List Event} {ss : List Step} (o : Order) (why : Misplaced) → Talk m bs (preparing es) ss → prepares o ≡ no_call why → Talk m bs (preparing es) (ss ++ turn m o (astray why))
  late : {es fs : List Event} {ss : List Step} (o : Order) (why : Misplaced) → Talk m bs (trading es fs) ss → trades bs (ledger_after m es fs) o ≡ no_call why → Talk m bs (trading es fs) (ss ++ turn m o (astray why))

-- how a talk ends: the desk has no more orders, or it has had more than any desk lives to give
pub data Lasts (m : ScenarioTable) : List Step → List Step → Type 0 where
  no_more : {ss : List Step} → Lasts m ss (asked m None ∷ [])
  worn_out : {ss : List Step} → 18446744073709551615 ≤ length ss → Lasts m ss []

-- a talk by which one desk became another
pub record Talked {D : Type 0} (past : D → D → List Step → Type 0) (m : ScenarioTable) (bs : List Slip) (first now : D) (w : Moment) : Type 0 where
  pub steps : List Step
  pub talk : Talk m bs w steps
  pub heard : (d : D) (h : List Step) → past d first h → past d now (h ++ steps)

-- the same, to its end
pub record Finished {D : Type 0} (past : D → D → List Step → Type 0) (m : ScenarioTable) (bs : List Slip) (first now : D) (w : Moment) : Type 0 where
  pub steps : List Step
  pub end : List Step
  pub talk : Talk m bs w steps
  pub lasts : Lasts m steps end
  pub heard : (d : D) (h : List Step) → past d first h → past d now (h ++ (steps ++ end))
