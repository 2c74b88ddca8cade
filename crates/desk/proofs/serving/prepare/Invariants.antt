use Rattle.std.proofs.Common.{◌≡◌, List}
use Rattle.rules.specs.Ledger.{Slip}
use Rattle.session.specs.Phases.{prepared}
use Rattle.desk.specs.Going.{Preparing}
use Rattle.desk.proofs.serving.prepare.Given as goal

abbrev pub invariant-loop-turn : goal.invariant-loop-turn
invariant-loop-turn g l =
    ((bs : List Slip) → Preparing g.D.Desk.past (g.M.ScenarioModel.table l.initial.preparation.model) bs l.initial.desk l.desk (prepared l.preparation) l._turn)
    × (l.preparation.model ≡ l.initial.preparation.model)
