use Rattle.std.proofs.Common.{take, ap, ◌∙◌, ◌-◌, arith}
use Rattle.cells.proofs.Rowed.{moved_up}
use Rattle.cells.proofs.rows.Rows.remove.Goals as goal

pub returns-then-i-self : goal.returns-then-i-self
returns-then-i-self g c = let t = c.args.self.now in ap (take (t.used - 1)) c.copy_within.ensures.after ∙ moved_up t.cells.at t.used c.args.i c.if-i-self.true (omega (arith, t.within, t.long))
