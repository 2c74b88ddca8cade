-- How a slip is spent, and which one. Assumes nothing.
use Rattle.std.specs.Prelude.{◌≡◌, ℕ, ◌+◌, true, false, List, ◌++◌, map, take, drop, Some, None, Option, slice_get}
use Rattle.rules.specs.Ledger.{Slip, struck, is_standing}
use Rattle.rules.specs.Causes.{Call, settle, put_back}
use Rattle.session.specs.declared.slips.Slip.{Slip as Held}
use Rattle.session.specs.Phases.{slip_of}
use Rattle.desk.specs.declared.spending.Spending.{Spending}
use Rattle.desk.specs.declared.spending.Spending.TheVariants.{Settle, PutBack}
use Rattle.desk.specs.Meant.{with_serial, strange}

abbrev pub call_of : Spending → Slip → Call
call_of Settle s = settle s
call_of PutBack s = put_back s

-- a slip that is taken out of those that stand, by its serial
abbrev pub TakenOut : List Slip → ℕ → Option Held → List Slip → Type 0
TakenOut ss n None ss' = (with_serial n ss ≡ None) × (ss' ≡ ss)
TakenOut ss n (Some s) ss' = (with_serial n ss ≡ Some (slip_of s)) × (is_standing (slip_of s) ss ≡ true) × (ss' ≡ struck (slip_of s) ss)

-- a slip that is taken out of those that were brought, unless one that stands says the same
abbrev pub StrangeOut : List Slip → List Held → ℕ → Option Held → List Held → Type 0
StrangeOut ss hs k None hs' = (strange ss (slice_get (map slip_of hs) k) ≡ None) × (hs' ≡ hs)
StrangeOut ss hs k (Some s) hs' = (slice_get hs k ≡ Some s) × (is_standing (slip_of s) ss ≡ false) × (hs' ≡ take k hs ++ drop (k + 1) hs)
