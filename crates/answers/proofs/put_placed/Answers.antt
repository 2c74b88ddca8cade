use Rattle.std.proofs.Common.{arith}
use Rattle.answers.proofs.Fits.{placed_whole}
use Rattle.answers.proofs.put_placed.Goals as goal

pub returns : goal.returns
returns g c =
    placed_whole (g.M.ScenarioModel.table c.args.model.now) c.args.contract c.args.place c.args.multiplier c.scenarios.result _ _ (g.met.M.ScenarioModel.lawful c.args.model.now) (omega arith) (omega arith) (omega arith) c.scenarios.ensures c.put_heading.ensures c.add_shocks.ensures
