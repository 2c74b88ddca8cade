use Rattle.std.proofs.Common.{◌≡◌, ℕ, ◌<◌, length, map, sym, ap, ◌∙◌, ◌++◌, ◌∷◌, [], List, arith}
use Rattle.rules.specs.Ledger.{Ledger, Slip}
use Rattle.session.specs.Phases.{open_ledger, slip_of}
use Rattle.purses.specs.Held.{held}
use Rattle.purses.proofs.Spent.{length_slips_in, slips_put}
use Rattle.desk.proofs.Slips.{refused_leaves, handed_room, handed_stands}
use Rattle.desk.proofs.spending.withdraw.Given as given
use Rattle.desk.proofs.spending.withdraw.Goals as goal
use Rattle.desk.proofs.spending.withdraw.Goals.{In-Ok}

room : (g : given.Over) (c : In-Ok g) → length (held c.args.held.now) < 32
room g c =
    let h = handed_room (g.M.ScenarioModel.table c.args.session.now.model) (open_ledger c.args.session.now) _ _ (slip_of c.in-Ok.slip) _ c.in-Ok.ensures.rules in
    let e = ap length c.requires in
    omega (arith, length_slips_in c.args.held.now)

pub returns-in-Err-clause-held : goal.returns-in-Err-clause-held
returns-in-Err-clause-held g c = c.requires ∙ sym (ap (λ (v : Ledger). v.slips) (refused_leaves (g.M.ScenarioModel.table c.args.session.now.model) (open_ledger c.args.session.now) _ _ _ c.in-Err.ensures.rules))

pub unreachable-requires : goal.unreachable-requires
unreachable-requires g c =
    let e = (c.in-Err-put.ensures.room (room g (goal.at.unreachable-requires g c).In-Ok)).0 in
    let z : ◌≡◌ {A = ℕ} 0 1 = cc in
    omega arith

pub returns-clause-held : goal.returns-clause-held
returns-clause-held g c =
    ap (λ xs. map slip_of xs) (c.in-Ok-put.ensures.room (room g (goal.at.returns-clause-held g c).In-Ok)).1
    ∙ slips_put (held c.args.held.now) c.in-Ok.slip
    ∙ ap (λ (v : List Slip). v ++ slip_of c.in-Ok.slip ∷ []) c.requires
    ∙ sym (handed_stands (g.M.ScenarioModel.table c.args.session.now.model) (open_ledger c.args.session.now) _ _ (slip_of c.in-Ok.slip) _ c.in-Ok.ensures.rules)
