-- The eight places of a set of sheets, and what reading a file into it does. Assumes nothing.
use Rattle.std.specs.Prelude.{◌≡◌, ℕ, ◌+◌, ◌<◌, ◌≤◌, List, [], ◌∷◌, Some, None, Ok, Err, Option, Result, MatchResult, slice_set}
use Rattle.refusals.specs.declared.Refusal.{Refusal}
use Rattle.scenario.specs.declared.pairing.Pair.{Pair}
use Rattle.sheets.specs.declared.kinds.Sheet.{Sheet}
use Rattle.sheets.specs.Tables.{Holds}
use Rattle.sheet_set.specs.declared.sets.SheetSet.{SheetSet}

abbrev pub Eight : Type 0
Eight = Pair (Pair (Pair Sheet Sheet) (Pair Sheet Sheet)) (Pair (Pair Sheet Sheet) (Pair Sheet Sheet))

-- the sheets, in the order of their places
abbrev pub sheets_of : Eight → List Sheet
sheets_of m =
    m.first.first.first ∷ m.first.first.second ∷ m.first.second.first ∷ m.first.second.second
    ∷ m.second.first.first ∷ m.second.first.second ∷ m.second.second.first ∷ m.second.second.second ∷ []

-- a sheet x that holds the file b was put at a place, and no other place changed
pub record Put (x : Sheet) (b : List ℕ) (place : ℕ) (before after : List Sheet) : Type 0 where
  pub holds : Holds x b
  pub placed : after ≡ slice_set before place x

-- what filling the sheet at a place with the file b does: where it was refused, nothing
abbrev pub Filled : {U : Type 0} → Result U Refusal → List ℕ → ℕ → Eight → Eight → Type 0
Filled r b place before after = MatchResult r (λ _. (x : Sheet) × Put x b place (sheets_of before) (sheets_of after)) (λ _. after ≡ before)

-- what reading the file b into a set does, by the answer: the place that it took, or that all are taken, or a refusal
abbrev pub Added : Result (Option ℕ) Refusal → List ℕ → SheetSet → SheetSet → Type 0
Added (Ok (Some place)) b before after =
    (place ≡ before.read) × (place < 8) × (after.read ≡ place + 1) × ((x : Sheet) × Put x b place (sheets_of before.sheets) (sheets_of after.sheets))
Added (Ok None) b before after = (8 ≤ before.read) × (after ≡ before)
Added (Err e) b before after = after ≡ before
