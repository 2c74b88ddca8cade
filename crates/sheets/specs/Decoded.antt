-- The numbers that an accepted file is decoded into, and what a table of one subportfolio is made of. Assumes nothing.
use Rattle.std.specs.Prelude.{◌≡◌, ℕ, ◌<◌, ◌≤◌, cond, List, [], ℤ, pos, Some, None, Option, ◌==◌, nat_lt, slice_index, slice_index_or, unsigned_abs}
use Rattle.scenario.specs.Table.{ScenarioTable}

-- the table of one subportfolio with n scenarios, where a contract has a record, and a record a multiplier and shocks
abbrev pub rows_table : (ℕ → Option ℕ) → ℕ → (ℕ → ℕ) → (ℕ → ℕ → ℤ) → ScenarioTable
rows_table row n multiplier shock = record {
  subportfolios = 1;
  scenarios = λ k. cond (k == 0) n 0;
  place = λ c. elim (row c) [ Some j ↦ Some (0, multiplier j) | None ↦ None ];
  shock = λ c s. elim (row c) [ Some j ↦ cond (nat_lt s n) (shock j s) (pos 0) | None ↦ pos 0 ];
}

-- the record of a contract, in a list with a place for each contract number
abbrev pub record_in : List (Option ℕ) → ℕ → Option ℕ
record_in records c = slice_index_or records c None

-- the shock of record j in scenario s, in a list with a row for each record
abbrev pub cell_in : List (List ℤ) → ℕ → ℕ → ℤ
cell_in cells j s = slice_index_or (slice_index_or cells j []) s (pos 0)

-- each record that a contract has is one of 64
abbrev pub FewRecords : List (Option ℕ) → Type 0
FewRecords records = (c j : ℕ) → slice_index_or records c None ≡ Some j → j < 64

abbrev pub Within : List (List ℤ) → Type 0
Within cells = (j s : ℕ) → unsigned_abs (cell_in cells j s) ≤ 100000000

-- in scenario 0 no record has moved
abbrev pub Unmoved : List (List ℤ) → Type 0
Unmoved cells = (j : ℕ) → cell_in cells j 0 ≡ pos 0

abbrev pub SmallMultipliers : List ℕ → Type 0
SmallMultipliers ms = (j : ℕ) → slice_index ms j ≤ 10000
