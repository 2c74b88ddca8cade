-- A table of which one row or all rows were lent for change. Assumes nothing.
use Rattle.std.specs.Prelude.{ℕ, List, length, slice_set}
use Rattle.std.specs.List.{refill, length_refill}
use Rattle.std.proofs.Common.{◌∙◌, refl, sym, length-set}
use Rattle.cells.specs.declared.rows.Rows.{Rows}

-- the table with another row at place i
abbrev pub with_row : {A : Type 0} {n : ℕ} → Rows A n → ℕ → A → Rows A n
with_row t i w = record { cells = record { at = slice_set t.cells.at i w }; used = t.used; within = t.within; long = length-set t.cells.at i w ∙ t.long }

-- the table with other rows
abbrev pub with_rows : {A : Type 0} {n : ℕ} → Rows A n → List A → Rows A n
with_rows t ws = record { cells = record { at = refill (length t.cells.at) t.cells.at ws }; used = t.used; within = t.within; long = sym (length_refill (length t.cells.at) t.cells.at ws refl) ∙ t.long }
