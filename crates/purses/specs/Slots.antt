-- The 32 places of a purse, of which the first have a slip. Assumes nothing.
use Rattle.std.specs.Prelude.{ℕ, ◌-◌, Bool, false, ◌==◌, List, [], ◌∷◌, ◌++◌, map, length, replicate, Option, Some, None}
use Rattle.rules.specs.Ledger.{Slip as Said, same_slip}
use Rattle.session.specs.Phases.{slip_of}
use Rattle.session.specs.declared.slips.Slip.{Slip}
use Rattle.purses.specs.declared.slots.Slot.{Slot}
use Rattle.purses.specs.declared.slots.Slot.TheVariants.{Empty, Full}

-- the slip at a place
abbrev pub slip_at : Slot → Option Slip
slip_at Empty = None
slip_at (Full s) = Some s

-- the slips at some places, in order
abbrev pub slips_at : List Slot → List Slip
slips_at [] = []
slips_at (Empty ∷ xs) = slips_at xs
slips_at (Full s ∷ xs) = s ∷ slips_at xs

-- slips at the first of 32 places, and none at the others
abbrev pub row : List Slip → List Slot
row ss = map Full ss ++ replicate (32 - length ss) Empty

-- whether a slip with the serial is at a place
abbrev pub has_serial : ℕ → Slot → Bool
has_serial n Empty = false
has_serial n (Full s) = (slip_of s).serial == n

-- whether a slip that says the same is at a place
abbrev pub says : Said → Slot → Bool
says s Empty = false
says s (Full x) = same_slip s (slip_of x)
