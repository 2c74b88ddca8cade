use Rattle.std.proofs.Common.{◌≡◌}
use Rattle.lines.specs.Lined.{written, followed}
use Rattle.answers.specs.Texts.{shocks_text}
use Rattle.answers.proofs.add_shocks.Given as goal

abbrev pub invariant-loop-scenario : goal.invariant-loop-scenario
invariant-loop-scenario g l = written l.line ≡ followed (written l.initial.line) (shocks_text (g.M.ScenarioModel.table l.model) l.contract l.scenario)
