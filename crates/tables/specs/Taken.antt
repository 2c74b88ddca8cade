-- What becomes of prices and positions as rows are taken over. Assumes nothing.
use Rattle.std.specs.Prelude.{ℕ, Bool, true, false, cond, List, [], ◌∷◌, ◌++◌, replicate, Some, None, Option, slice_set}
use Rattle.figures.specs.Figures.{Position}
use Rattle.figures.specs.Priced.{fair_price}
use Rattle.tables.specs.Steps.{Step, clear, price, trade}

-- whether a row can be taken over
abbrev pub taken : Step → Bool
taken clear = true
taken (price c t) = fair_price t
taken (trade p) = true

abbrev pub ticks_after : Step → List (Option ℕ) → List (Option ℕ)
ticks_after clear ps = replicate 256 None
ticks_after (price c t) ps = cond (fair_price t) (slice_set ps c (Some t)) ps
ticks_after (trade p) ps = ps

abbrev pub positions_after : Step → List Position → List Position
positions_after clear ts = []
positions_after (price c t) ts = ts
positions_after (trade p) ts = ts ++ p ∷ []

-- the same of a row that says a step, or none
abbrev pub taken_if : Option Step → Bool
taken_if None = false
taken_if (Some s) = taken s

abbrev pub ticks_after_if : Option Step → List (Option ℕ) → List (Option ℕ)
ticks_after_if None ps = ps
ticks_after_if (Some s) ps = ticks_after s ps

abbrev pub positions_after_if : Option Step → List Position → List Position
positions_after_if None ts = ts
positions_after_if (Some s) ts = positions_after s ts
