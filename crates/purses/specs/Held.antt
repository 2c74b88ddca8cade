-- What a purse holds. Assumes nothing.
use Rattle.std.specs.Prelude.{◌≡◌, ◌≢◌, ℕ, ◌<◌, List, map, length, slice_index_or}
use Rattle.rules.specs.Ledger.{Slip, no_slip}
use Rattle.session.specs.Phases.{slip_of}
use Rattle.session.specs.declared.slips.Slip.{Slip as Held}
use Rattle.purses.specs.declared.purse.Purse.{Purse}
use Rattle.purses.specs.Slots.{slips_at}

-- the slips in a purse, in order
abbrev pub held : Purse → List Held
held p = slips_at p.slots.at

-- and what they say
abbrev pub slips_in : Purse → List Slip
slips_in p = map slip_of (held p)

-- each of the first n slips has another serial
abbrev pub Others : List Slip → ℕ → ℕ → Type 0
Others ss n serial = (k : ℕ) → k < n → (slice_index_or ss k no_slip).serial ≢ serial

-- the slip at place k has the serial, and no earlier one has
pub record FirstOf (ss : List Slip) (serial : ℕ) (k : ℕ) : Type 0 where
  pub within : k < length ss
  pub same : (slice_index_or ss k no_slip).serial ≡ serial
  pub before : Others ss k serial
