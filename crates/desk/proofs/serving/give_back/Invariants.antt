use Rattle.std.proofs.Common.{◌≡◌, length}
use Rattle.rules.specs.Runs.{fed}
use Rattle.session.specs.Phases.{open_ledger}
use Rattle.purses.specs.Held.{held, slips_in}
use Rattle.desk.specs.Served.{given_back}
use Rattle.desk.proofs.serving.give_back.Given as goal

abbrev pub invariant-loop-slip : goal.invariant-loop-slip
invariant-loop-slip g l =
    let m = g.M.ScenarioModel.table l.initial.session.model in
    (fed m (open_ledger l.initial.session) (given_back (open_ledger l.initial.session).slips) ≡ fed m (open_ledger l.session) (given_back (open_ledger l.session).slips))
    × (l.session.model ≡ l.initial.session.model)
    × (slips_in l.held ≡ (open_ledger l.session).slips)

abbrev pub decreases-loop-slip : goal.decreases-loop-slip
decreases-loop-slip g l = length (held l.held)
