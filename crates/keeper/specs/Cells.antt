-- What a keeper's cells hold. Assumes nothing.
use Rattle.std.specs.Prelude.{ℕ, List, length, take}
use Rattle.keeper.specs.declared.lent.Keeper.{Keeper}

abbrev pub cells_of : {A : Type 0} → Keeper A → List A
cells_of k = k.cells.now

-- how many cells it has
abbrev pub width : {A : Type 0} → Keeper A → ℕ
width k = length (cells_of k)

-- the records that it holds
abbrev pub held_by : {A : Type 0} → Keeper A → List A
held_by k = take k.filled (cells_of k)
