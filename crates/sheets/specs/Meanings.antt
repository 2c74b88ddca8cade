-- The tables of the kinds of sheet are lawful.
use Rattle.std.specs.Prelude.{◌+◌, ◌≤◌, cond, pos, ◌==◌, slice_index, unsigned_abs}
use Rattle.std.proofs.Common.{arith}
use Rattle.std.proofs.lemmas.Bool.{cond_both, cond-false, ne_eqb}
use Rattle.scenario.specs.Table.{Lawful}
use Rattle.sheets.specs.declared.kinds.FactorSheet.{FactorSheet}
use Rattle.sheets.specs.declared.kinds.SeriesSheet.{SeriesSheet}
use Rattle.sheets.specs.declared.kinds.StrikeSheet.{StrikeSheet}
use Rattle.sheets.specs.declared.kinds.Sheet.{Sheet}
use Rattle.sheets.specs.declared.kinds.Sheet.TheVariants.{Empty, Factors, Series, Strikes}
use Rattle.sheets.specs.Decoded.{record_in, cell_in}
use Rattle.sheets.specs.Tables.{factor_table, series_table, strike_table, table_of}
use Rattle.sheets.specs.Lawfuls.{rows_lawful, records_known, empty_lawful}

pub factor_lawful : (m : FactorSheet) → Lawful (factor_table m)
factor_lawful m =
    let series = m.series in
    rows_lawful (record_in series.index.records) series.shocks.scenarios (λ j. slice_index m.multipliers.cells j) (cell_in series.shocks.cells) series.shocks.some series.shocks.few
    (records_known series.index.records series.index.numbers) m.multipliers.small series.shocks.unmoved series.shocks.within

pub series_lawful : (m : SeriesSheet) → Lawful (series_table m)
series_lawful m =
    rows_lawful (record_in m.index.records) m.shocks.scenarios (λ j. 0) (cell_in m.shocks.cells) m.shocks.some m.shocks.few
    (records_known m.index.records m.index.numbers) (λ j. omega arith) m.shocks.unmoved m.shocks.within

pub strike_lawful : (m : StrikeSheet) → Lawful (strike_table m)
strike_lawful m =
    let narrow = m.narrow in
    rows_lawful (record_in m.index.records) (m.index.count + 1) (λ j. 0) (λ j s. cond (s == j + 1) (pos m.payoff) (pos 0)) (omega arith) (omega arith)
    (records_known m.index.records m.index.numbers) (λ j. omega arith) (λ j. cond-false (0 == j + 1) _ _ (ne_eqb 0 (j + 1) (λ e. omega arith)))
    (λ j s. cond_both (s == j + 1) (pos m.payoff) (pos 0) (λ z. unsigned_abs z ≤ 100000000) (λ _. m.small) (λ _. omega arith))

pub sheet_lawful : (m : Sheet) → Lawful (table_of m)
sheet_lawful (Empty m) = empty_lawful
sheet_lawful (Factors m) = factor_lawful m
sheet_lawful (Series m) = series_lawful m
sheet_lawful (Strikes m) = strike_lawful m
