use Rattle.std.proofs.Common.{ℕ, List, get_or, pos, ap, ◌∙◌}
use Rattle.rules.specs.Ledger.{Client, with_clients}
use Rattle.rules.specs.Limits.{need_of}
use Rattle.book.specs.Ledgers.{ledger_in}
use Rattle.session.proofs.Openings.{same_openings}
use Rattle.session.proofs.phases.Preparation.open.Goals as goal

pub returns-clause-ledger : goal.returns-clause-ledger
returns-clause-ledger g c =
    let l = ledger_in c.args.self.book in
    let known = rw (c.day.ensures.model, c.day.ensures.book) at c.needs-needs.ensures.known in
    c.enter_needs.ensures ∙ ap (λ (xs : List Client). with_clients l xs l.passed) (same_openings (λ (n : ℕ). get_or c.needs-needs.result n (pos 0)) (need_of (g.M.ScenarioModel.table c.args.self.model) l) l.clients known)
