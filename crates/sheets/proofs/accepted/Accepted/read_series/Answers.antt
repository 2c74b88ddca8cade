use Rattle.std.proofs.Common.{sym, arith}
use Rattle.sheets.specs.Decoded.{record_in, cell_in}
use Rattle.sheets.proofs.Sameness.{same_table, other_times}
use Rattle.sheets.proofs.accepted.Accepted.read_series.Goals as goal

pub returns : goal.returns
returns c =
    let k = c.requires in
    record {
      means =
          same_table c.args.self.now.file.now (record_in c.read_index.result.records) c.read_shocks.result.scenarios (λ j. 0) (cell_in c.read_shocks.result.cells)
          c.read_index.ensures.records c.read_shocks.ensures.scenarios
          (λ j l. sym (other_times c.args.self.now.file.now (λ e. omega arith) j))
          c.read_shocks.ensures.cells;
      counted = c.read_index.ensures.count;
    }
