use Rattle.std.proofs.Common.{◌≡◌, List}
use Rattle.rules.specs.Runs.{Event}
use Rattle.session.specs.Phases.{open_ledger}
use Rattle.purses.specs.Held.{held, slips_in}
use Rattle.desk.specs.Going.{Trading}
use Rattle.desk.proofs.serving.trade.Given as goal

abbrev pub invariant-loop-turn : goal.invariant-loop-turn
invariant-loop-turn g l =
    let m = g.M.ScenarioModel.table l.initial.session.model in
    let bs = slips_in l.initial.holdings.brought in
    ((first : g.row.D.Denot) (es : List Event) → Trading g.D.Desk.past m bs first l.initial.desk es (open_ledger l.initial.session) 0 → Trading g.D.Desk.past m bs first l.desk es (open_ledger l.session) l._turn)
    × (l.session.model ≡ l.initial.session.model)
    × (slips_in l.holdings.held ≡ (open_ledger l.session).slips)
    × (held l.holdings.brought ≡ held l.initial.holdings.brought)
