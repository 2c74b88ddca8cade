-- One sheet of the eight changes.
use Rattle.std.proofs.Common.{◌≡◌, ℕ, List, set, Ok, Err, Result, MatchResult}
use Rattle.refusals.specs.declared.Refusal.{Refusal}
use Rattle.sheets.specs.declared.kinds.Sheet.{Sheet}
use Rattle.sheets.specs.Tables.{Holds}
use Rattle.sheet_set.specs.Places.{Eight, sheets_of, Filled}

-- y is what filling the sheet x made of it
pub filled : {U : Type 0} (before after : Eight) (x y : Sheet) (r : Result U Refusal) (b : List ℕ) (place : ℕ) → sheets_of after ≡ set (sheets_of before) place y → (y ≡ x → after ≡ before) → MatchResult r (λ _. Holds y b) (λ _. y ≡ x) → Filled r b place before after
filled before after x y (Ok u) b place placed same h = (y, record { holds = h; placed = placed })
filled before after x y (Err d) b place placed same h = same h
