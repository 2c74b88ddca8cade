use Rattle.std.proofs.Common.{pos, rules}
use Rattle.layout.proofs.FromFn.{made_at}
use Rattle.sheets.specs.Cells.{shock_cell}
use Rattle.sheets.proofs.accepted.Accepted.row_at.Goals as goal

pub returns : goal.returns
returns c = record {
  long = c.from_fn.ensures.items.long;
  cells = λ k l. made_at _ _ (shock_cell c.args.self.now.file.now c.args.j) 64 _ c.from_fn.ensures.items (λ k y q s m. search rules) k (pos 0) l;
}
