-- What each kind of sheet means, by the numbers that it keeps. Assumes nothing.
use Rattle.std.specs.Prelude.{◌≡◌, ℕ, ◌+◌, cond, List, pos, Some, None, Option, ◌==◌, slice_index}
use Rattle.scenario.specs.Table.{ScenarioTable}
use Rattle.layout.specs.declared.kinds.Kind.{Kind}
use Rattle.layout.specs.Fields.{kind, contracts}
use Rattle.sheets.specs.declared.kinds.FactorSheet.{FactorSheet}
use Rattle.sheets.specs.declared.kinds.SeriesSheet.{SeriesSheet}
use Rattle.sheets.specs.declared.kinds.StrikeSheet.{StrikeSheet}
use Rattle.sheets.specs.declared.kinds.Sheet.{Sheet}
use Rattle.sheets.specs.declared.kinds.Sheet.TheVariants.{Empty, Factors, Series, Strikes}
use Rattle.sheets.specs.Decoded.{rows_table, record_in, cell_in}
use Rattle.sheets.specs.Sheets.{sheet_table, empty_table}

abbrev pub factor_table : FactorSheet → ScenarioTable
factor_table m = rows_table (record_in m.series.index.records) m.series.shocks.scenarios (λ j. slice_index m.multipliers.cells j) (cell_in m.series.shocks.cells)

abbrev pub series_table : SeriesSheet → ScenarioTable
series_table m = rows_table (record_in m.index.records) m.shocks.scenarios (λ j. 0) (cell_in m.shocks.cells)

abbrev pub strike_table : StrikeSheet → ScenarioTable
strike_table m = rows_table (record_in m.index.records) (m.index.count + 1) (λ j. 0) (λ j s. cond (s == j + 1) (pos m.payoff) (pos 0))

abbrev pub table_of : Sheet → ScenarioTable
table_of (Empty m) = empty_table
table_of (Factors m) = factor_table m
table_of (Series m) = series_table m
table_of (Strikes m) = strike_table m

-- the number of its kind, 0 for the empty sheet
abbrev pub kind_in : Sheet → ℕ
kind_in (Empty m) = 0
kind_in (Factors m) = 1
kind_in (Series m) = 2
kind_in (Strikes m) = 3

-- its kind, as the code has it
abbrev pub kind_of_sheet : Sheet → Option Kind
kind_of_sheet (Empty m) = None
kind_of_sheet (Factors m) = Some Kind.Factors
kind_of_sheet (Series m) = Some Kind.Series
kind_of_sheet (Strikes m) = Some Kind.Strikes

-- how many contracts it knows
abbrev pub contracts_in : Sheet → ℕ
contracts_in (Empty m) = 0
contracts_in (Factors m) = m.series.index.count
contracts_in (Series m) = m.index.count
contracts_in (Strikes m) = m.index.count

-- what a sheet is after the file b has filled it
pub record Holds (m : Sheet) (b : List ℕ) : Type 0 where
  pub means : table_of m ≡ sheet_table b
  pub kind : kind_in m ≡ kind b
  pub counted : contracts_in m ≡ contracts b
