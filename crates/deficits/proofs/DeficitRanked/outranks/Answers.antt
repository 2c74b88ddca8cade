use Rattle.std.proofs.Common.{◌∙◌}
use Rattle.deficits.proofs.Ranking.{greater_ahead}
use Rattle.deficits.proofs.DeficitRanked.outranks.Goals as goal

pub returns : goal.returns
returns c = c.gt.ensures ∙ greater_ahead c.args.self.now c.args.other.now
