-- What stands at each place of the tables that an accepted file is decoded into. Assumes nothing.
use Rattle.std.specs.Prelude.{◌≡◌, ℕ, ◌<◌, cond, ◌&&◌, List, length, ℤ, pos, nat_lt, slice_index_or}
use Rattle.layout.specs.Fields.{contracts, scenarios, second}
use Rattle.sheets.specs.Sheets.{record_shock}

-- place s of row j holds the shock of record j in scenario s, and 0 where there is none
unfoldable pub shock_cell : List ℕ → ℕ → ℕ → ℤ
shock_cell b j s = cond (nat_lt j (contracts b) && nat_lt s (scenarios b)) (record_shock b j s) (pos 0)

-- the cells of record j, in 64 places
pub record IsRow (b : List ℕ) (j : ℕ) (row : List ℤ) : Type 0 where
  pub long : length row ≡ 64
  pub cells : (s : ℕ) → s < 64 → slice_index_or row s (pos 0) ≡ shock_cell b j s

-- place j holds the multiplier of record j, and 0 where there is none
unfoldable pub multiplier_cell : List ℕ → ℕ → ℕ
multiplier_cell b j = cond (nat_lt j (contracts b)) (second b j) 0
