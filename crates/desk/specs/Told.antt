-- What a desk is asked and told. Assumes nothing.
use Rattle.std.specs.Prelude.{ℕ, Option}
use Rattle.scenario.specs.Table.{ScenarioTable}
use Rattle.orders.specs.declared.Order.{Order}
use Rattle.refusals.specs.Numbers.{number_of}
use Rattle.rules.specs.Ledger.{Slip}
use Rattle.rules.specs.Answers.{Statement}
use Rattle.book.specs.Means.{slip_in}
use Rattle.desk.specs.declared.replies.Misplaced.{Misplaced}
use Rattle.desk.specs.declared.replies.Reply.{Reply}
use Rattle.desk.specs.declared.replies.Reply.TheVariants as replies

-- what the answer to an order says
pub data Told : Type 0 where
  -- the number under which one is entered
  a_trader : ℕ → Told
  a_client : ℕ → Told
  a_trade : ℕ → Told
  handed : Slip → Told
  done : Told
  -- of a trader
  stated : ℕ → Statement → Told
  -- by a number of the table
  refused : ℕ → Told
  -- it makes no call
  astray : Misplaced → Told

abbrev pub told_of : Reply → Told
told_of (replies.Trader n) = a_trader n
told_of (replies.Client n) = a_client n
told_of (replies.Trade n) = a_trade n
told_of (replies.Slip s) = handed (slip_in s)
told_of replies.Accepted = done
told_of (replies.Refused e) = refused (number_of e)
told_of (replies.Misplaced why) = astray why

-- the desk is lent the table of a model and asked for its next order, or told what became of one
pub data Step : Type 0 where
  asked : ScenarioTable → Option Order → Step
  told : Told → Step
