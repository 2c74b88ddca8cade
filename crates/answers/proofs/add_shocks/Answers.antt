use Rattle.std.proofs.Common.{codes, rules, w64, SFits}
use Rattle.lines.proofs.Room.{followed_none}
use Rattle.lines.proofs.Decimals.{text_signed}
use Rattle.answers.specs.Texts.{shocks_text}
use Rattle.answers.proofs.Fits.{shocks_more}
use Rattle.answers.proofs.add_shocks.Goals as goal

pub loop-scenario-init : goal.loop-scenario-init
unfolding shocks_text
loop-scenario-init g c = followed_none c.args.line.now

pub loop-scenario-preserved : goal.loop-scenario-preserved
loop-scenario-preserved g c =
    let fits : SFits w64 c.shock.result = search rules in
    shocks_more (g.M.ScenarioModel.table c.args.model.now) c.args.contract c.loop-scenario.scenario _ _ _ c.shock.result c.shock.ensures c.loop-scenario.invariant (text_signed _ _ (codes " ") c.shock.result fits c.push.ensures)
