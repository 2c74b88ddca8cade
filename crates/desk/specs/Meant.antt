-- Which call an order makes where it stands, and what its answer is told as. Assumes nothing.
use Rattle.std.specs.Prelude.{ℕ, cond, List, [], ◌∷◌, Some, None, Option, ◌==◌, slice_get}
use Rattle.orders.specs.declared.Order.{Order}
use Rattle.orders.specs.declared.Order.TheVariants as orders
use Rattle.orders.specs.Meant.{holder_of, trade_of_lot, carry_of_lot}
use Rattle.rules.specs.Ledger.{Ledger, Slip, is_standing}
use Rattle.rules.specs.Causes.{Call, trader, client, price, deposit, specify, cancel, withdraw, settle, put_back, cash, window, statement}
use Rattle.rules.specs.Answers as rules
use Rattle.desk.specs.declared.replies.Misplaced.{Misplaced}
use Rattle.desk.specs.declared.replies.Misplaced.TheVariants.{NotOpen, PreparationOver, NoSlipHeld}
use Rattle.desk.specs.Told.{Told, a_trader, a_client, a_trade, handed, done, stated, refused}

-- what an order is where it stands
pub data Meaning : Type 0 where
  makes : Call → Meaning
  -- it opens the session
  opens : Meaning
  no_call : Misplaced → Meaning

-- in a preparation
abbrev pub prepares : Order → Meaning
prepares (orders.Trader a n) = makes (trader a n)
prepares (orders.Client t) = makes (client t)
prepares (orders.Carry c x) = makes (carry_of_lot c x)
prepares (orders.Price k p) = makes (price k p)
prepares (orders.Deposit h a) = makes (deposit (holder_of h) a)
prepares orders.Open = opens
prepares o = no_call NotOpen

-- the first slip with a serial
abbrev pub with_serial : ℕ → List Slip → Option Slip
with_serial n [] = None
with_serial n (s ∷ ss) = cond (s.serial == n) (Some s) (with_serial n ss)

-- a slip of another session, unless one that stands here says the same
abbrev pub strange : List Slip → Option Slip → Option Slip
strange ss None = None
strange ss (Some s) = cond (is_standing s ss) None (Some s)

-- a call with a slip, if it is at hand
abbrev pub spends : (Slip → Call) → Option Slip → Meaning
spends f None = no_call NoSlipHeld
spends f (Some s) = makes (f s)

-- in a session, to which slips of another one were brought
abbrev pub trades : List Slip → Ledger → Order → Meaning
trades bs l (orders.Price k p) = makes (price k p)
trades bs l (orders.Deposit h a) = makes (deposit (holder_of h) a)
trades bs l (orders.Trade t x) = makes (trade_of_lot t x)
trades bs l (orders.Specify i c) = makes (specify i c)
trades bs l (orders.Cancel i) = makes (cancel i)
trades bs l (orders.Withdraw h a) = makes (withdraw (holder_of h) a)
trades bs l (orders.Settle n) = spends settle (with_serial n l.slips)
trades bs l (orders.PutBack n) = spends put_back (with_serial n l.slips)
trades bs l (orders.Cash c v) = makes (cash c v)
trades bs l orders.Window = makes window
trades bs l (orders.Statement t) = makes (statement t)
trades bs l (orders.SettleBrought k) = spends settle (strange l.slips (slice_get bs k))
trades bs l (orders.PutBackBrought k) = spends put_back (strange l.slips (slice_get bs k))
trades bs l o = no_call PreparationOver

-- an answer, with the word for a number that it gives, and with the trader that was asked about
abbrev pub told_as : (ℕ → Told) → ℕ → rules.Answer → Told
told_as word t (rules.refused n) = refused n
told_as word t rules.accepted = done
told_as word t (rules.numbered n) = word n
told_as word t (rules.handed s) = handed s
told_as word t (rules.stated s) = stated t s

-- what the answer to a call is told as
abbrev pub shown : Call → rules.Answer → Told
shown (trader a n) r = told_as a_trader 0 r
shown (client t) r = told_as a_client 0 r
shown (statement t) r = told_as a_trade t r
shown x r = told_as a_trade 0 r
