-- What a text asks of the program. Assumes nothing.
use Rattle.std.specs.Prelude.{ℕ, List, Some, None, Option}
use Rattle.console.specs.Requests as console
use Rattle.console.specs.Words.{words}
use Rattle.commands.specs.Calls.{order_in}
use Rattle.orders.specs.declared.Order.{Order}
use Rattle.replies.specs.declared.notes.Unreadable.{Unreadable as Note}
use Rattle.limits.specs.declared.asked.Entry.{Entry}
use Rattle.limits.specs.declared.asked.Entry.TheVariants as entries

-- nothing, to read a sheet, what a contract gains, an order of the day, or nothing that is known
pub data Entered : Type 0 where
  nothing : Entered
  sheet : List ℕ → Entered
  contract : ℕ → Entered
  order : Order → Entered
  unreadable : Note → Entered

abbrev pub entered_by : Entry → Entered
entered_by entries.Nothing = nothing
entered_by (entries.Sheet path) = sheet path.now
entered_by (entries.Contract n) = contract n
entered_by (entries.Order o) = order o
entered_by (entries.Unreadable why) = unreadable why

abbrev pub order_or : Note → Option Order → Entered
order_or why None = unreadable why
order_or why (Some o) = order o

-- what the console knows comes first, then the orders
abbrev pub entered : Note → List ℕ → console.Asked → Entered
entered why text console.nothing = nothing
entered why text (console.sheet path) = sheet path
entered why text (console.contract n) = contract n
entered why text console.unreadable = order_or why (order_in (words text))
