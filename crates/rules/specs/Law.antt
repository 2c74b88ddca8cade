-- The law that every run of a day keeps. Assumes nothing.
use Rattle.std.specs.Prelude.{◌≡◌, ℕ, ◌<◌, true, ◌↔◌, List, ◌∷◌, ◌++◌, length, ℤ, pos, ◌+ℤ◌, ◌≤ℤ◌, ◌<ℤ◌, None, ◌≢◌}
use Rattle.scenario.specs.Table.{ScenarioTable, Lawful}
use Rattle.rules.specs.Ledger.{Ledger, Holder, holders_trader}
use Rattle.rules.specs.Limits.{limit, backing, risk}
use Rattle.rules.specs.Causes.{Call, trader, client, carry, price, deposit, opening, trade, specify, cancel, withdraw, settle, put_back, cash, window, statement, cause, entered}
use Rattle.rules.specs.Days.{BadDay, Possible, loss}
use Rattle.rules.specs.Runs.{Event, Run, ledger}

-- a trader's limit is below zero exactly when some bad day loses more than stands behind it
abbrev pub BelowZeroByABadDay : ScenarioTable → Ledger → ℕ → Type 0
BelowZeroByABadDay m l tr = (limit m l tr <ℤ pos 0) ↔ ((d : BadDay) × (Possible m l tr d × (backing m l tr <ℤ loss m l tr d)))

-- a trader's risk is exactly what its worst possible day loses
pub record RiskIsTheWorst (m : ScenarioTable) (l : Ledger) (tr : ℕ) : Type 0 where
  pub none_worse : (d : BadDay) → Possible m l tr d → loss m l tr d ≤ℤ risk m l tr
  pub some_as_bad : (d : BadDay) × (Possible m l tr d × (loss m l tr d ≡ risk m l tr))

-- two lists of events, alike but for one accepted deposit of a holder, larger by d in the second
pub data Larger (h : Holder) (d : ℤ) : List Event → List Event → Type 0 where
  here : (a : ℤ) (es : List Event) → Larger h d (record { call = deposit h a; accepted = true } ∷ es) (record { call = deposit h (a +ℤ d); accepted = true } ∷ es)
  later : (e : Event) {xs ys : List Event} → Larger h d xs ys → Larger h d (e ∷ xs) (e ∷ ys)

-- what an amount of d more for a holder does to the limits: its trader's is higher by 0 up to d, every other is equal
pub record DepositHelps (m : ScenarioTable) (h : Holder) (d : ℤ) (l l' : Ledger) : Type 0 where
  pub at_least : limit m l (holders_trader l h) ≤ℤ limit m l' (holders_trader l h)
  pub at_most : limit m l' (holders_trader l h) ≤ℤ (limit m l (holders_trader l h) +ℤ d)
  pub others : (tr : ℕ) → (tr ≢ holders_trader l h) → limit m l' tr ≡ limit m l tr

-- what gives collateral back, or takes a client's trade away
abbrev pub Releases : Call → Type 0
Releases (trader a n) = ⊥
Releases (client t) = ⊥
Releases (carry c k side q p) = ⊥
Releases (price k p) = ⊥
Releases (deposit h a) = ⊥
Releases opening = ⊥
Releases (trade t k side q p) = ⊥
Releases (specify i c) = ⊥
Releases (cancel i) = Unit {0}
Releases (withdraw h a) = Unit {0}
Releases (settle s) = ⊥
Releases (put_back s) = ⊥
Releases (cash c v) = ⊥
Releases window = ⊥
Releases (statement t) = ⊥

-- the law of the day, of every run over a table
pub record DayLaw (m : ScenarioTable) (r : Run m) : Type 0 where
  pub worst_day : (tr : ℕ) → tr < length (ledger m r).traders → BelowZeroByABadDay m (ledger m r) tr
  -- worst_day tells when a limit is below zero, this by how much
  pub risk_is_worst : (tr : ℕ) → RiskIsTheWorst m (ledger m r) tr
  -- of another run that is alike but for one larger deposit, made in the preparation or in the session
  pub larger_before : (h : Holder) (d : ℤ) → pos 0 ≤ℤ d → (r' : Run m) → Larger h d r.before r'.before → r.after ≡ r'.after → DepositHelps m h d (ledger m r) (ledger m r')
  pub larger_after : (h : Holder) (d : ℤ) → pos 0 ≤ℤ d → (r' : Run m) → r.before ≡ r'.before → Larger h d r.after r'.after → DepositHelps m h d (ledger m r) (ledger m r')
  -- a release that is accepted next and lowers a limit leaves it at zero or above
  pub release : (x : Call) → Releases x → cause m (ledger m r) x ≡ None → (tr : ℕ) → limit m (entered m (ledger m r) x) tr <ℤ limit m (ledger m r) tr → pos 0 ≤ℤ limit m (entered m (ledger m r) x) tr

abbrev pub EveryDayKeepsTheLaw : Type 0
EveryDayKeepsTheLaw = (m : ScenarioTable) → Lawful m → (r : Run m) → DayLaw m r

-- the law at every moment of a run's session: of each run that is its front
abbrev pub LawThroughout : (m : ScenarioTable) → Run m → Type 0
LawThroughout m r = (r' : Run m) (rest : List Event) → r'.before ≡ r.before → r'.after ++ rest ≡ r.after → DayLaw m r'

abbrev pub RiskIsTheWorstOfDays : Type 0
RiskIsTheWorstOfDays = (m : ScenarioTable) → Lawful m → (r : Run m) (tr : ℕ) → RiskIsTheWorst m (ledger m r) tr
