use Rattle.std.proofs.Common.{refl}
use Rattle.layout.specs.Bytes.{u16_at, u32_at, i32_at}
use Rattle.layout.specs.Fields.{record_bytes, contract_bytes, scenario_bytes, number, second, exposure, factor_shock, series_shock}
use Rattle.inspection.specs.Tests.{every, within}
use Rattle.inspection.specs.Causes.{wrong_length, wrong_kind, right_counts, overlap, wrong_area, right_numbers, right_record, factors_within, series_within, right_fields, unmoved_first, sheet_cause}
use Rattle.sheets.specs.Sheets.{total_below, find, moved_by_factors, record_shock, sheet_table}
use Rattle.worked.proofs.worked_examples.Goals as goal

pub returns : goal.returns
unfolding u16_at u32_at i32_at record_bytes contract_bytes scenario_bytes number second exposure factor_shock series_shock every within wrong_length wrong_kind right_counts overlap wrong_area right_numbers right_record factors_within series_within right_fields unmoved_first sheet_cause total_below find moved_by_factors record_shock sheet_table
returns c =
    record {
      examples = record { ties_accepted = refl; trades_accepted = refl; futures_accepted = refl; strikes_accepted = refl; half_up = refl; half_down = refl; below_half = refl; all_ones = refl; two_greatest = refl; trades_risk = refl; futures_risk = refl; hedge_risk = refl; hedge_need = refl; strikes_need = refl; strikes_risk = refl; fallen_mark = refl; one_percent = refl; nothing_behind = refl };
      count = refl;
    }
