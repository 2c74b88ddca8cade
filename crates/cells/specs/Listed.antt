-- The rows of a table that is filled from the front. Assumes nothing.
use Rattle.std.specs.Prelude.{ℕ, List, take}
use Rattle.cells.specs.declared.rows.Rows.{Rows}

abbrev pub listed : {A : Type 0} {n : ℕ} → Rows A n → List A
listed t = take t.used t.cells.at
