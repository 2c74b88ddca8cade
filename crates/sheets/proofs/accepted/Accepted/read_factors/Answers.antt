use Rattle.std.proofs.Common.{get_or, sym, ◌∙◌}
use Rattle.sheets.specs.Decoded.{record_in, cell_in}
use Rattle.sheets.proofs.Sameness.{same_table, factor_times}
use Rattle.sheets.proofs.accepted.Accepted.read_factors.Goals as goal

pub returns : goal.returns
returns c =
    record {
      means =
          same_table c.args.self.now.file.now (record_in c.read_index.result.records) c.read_shocks.result.scenarios (λ j. get_or c.read_multipliers.result.cells j 0) (cell_in c.read_shocks.result.cells)
          c.read_index.ensures.records c.read_shocks.ensures.scenarios
          (λ j l. c.read_multipliers.ensures j l ∙ sym (factor_times c.args.self.now.file.now c.requires j))
          c.read_shocks.ensures.cells;
      counted = c.read_index.ensures.count;
    }
