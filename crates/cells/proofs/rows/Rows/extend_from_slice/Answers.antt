use Rattle.cells.proofs.Rowed.{listed_more}
use Rattle.cells.proofs.rows.Rows.extend_from_slice.Goals as goal

pub returns : goal.returns
returns g c = let t = c.args.self.now in listed_more t.cells.at c.args.rows.now _ t.used _ c.min-count.result g.row.N t.within t.long c.min-count.ensures c.copy_from_slice.ensures.after
