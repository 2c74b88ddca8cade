-- That the law of the day speaks of something: days that a limit ends below zero, releases that lower a limit, deposits that raise one. Assumes nothing.
use Rattle.std.specs.Prelude.{◌≡◌, ℕ, ℤ, pos, ◌+ℤ◌, ◌<ℤ◌, None}
use Rattle.scenario.specs.Table.{ScenarioTable, Lawful}
use Rattle.rules.specs.Ledger.{Holder, of_client}
use Rattle.rules.specs.Limits.{limit}
use Rattle.rules.specs.Causes.{cancel, withdraw, cause, entered}
use Rattle.rules.specs.Runs.{Run, ledger}
use Rattle.rules.specs.Law.{Larger}

pub record Lively : Type 0 where
  pub table : ScenarioTable
  pub lawful : Lawful table
  -- a run that ends with a limit below zero
  pub sunk : Run table
  pub below : limit table (ledger table sunk) 0 <ℤ pos 0
  -- a run after which a withdrawal and a cancel are accepted, and lower the limit
  pub run : Run table
  pub holder : Holder
  pub amount : ℤ
  pub withdrawn : cause table (ledger table run) (withdraw holder amount) ≡ None
  pub lower : limit table (entered table (ledger table run) (withdraw holder amount)) 0 <ℤ limit table (ledger table run) 0
  pub number : ℕ
  pub cancelled : cause table (ledger table run) (cancel number) ≡ None
  pub lower_too : limit table (entered table (ledger table run) (cancel number)) 0 <ℤ limit table (ledger table run) 0
  -- a run alike but for a larger deposit of a client, with a higher limit that yet is not higher by all of it
  pub richer : Run table
  pub same_after : run.after ≡ richer.after
  pub larger : Larger (of_client 0) (pos 100) run.before richer.before
  pub higher : limit table (ledger table run) 0 <ℤ limit table (ledger table richer) 0
  pub not_by_all : limit table (ledger table richer) 0 <ℤ (limit table (ledger table run) 0 +ℤ pos 100)
