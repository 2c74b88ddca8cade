use Rattle.std.proofs.Common.{◌≡◌, [], map, sym, ap, ◌∙◌, subst}
use Rattle.rules.specs.Ledger.{Ledger}
use Rattle.rules.specs.Causes.{opening, entered}
use Rattle.rules.specs.Runs.{fed}
use Rattle.session.specs.Phases.{prepared, open_ledger, slip_of}
use Rattle.purses.specs.Held.{slips_in}
use Rattle.desk.specs.Going.{Prepared, Opened, Unopened, Trading, Traded}
use Rattle.desk.specs.Served.{given_back}
use Rattle.desk.proofs.Closing.{none_prepared, served_traded, served_unopened}
use Rattle.desk.proofs.Talking.{trade_begun}
use Rattle.desk.proofs.serving.serve.Goals as goal
use Rattle.desk.proofs.serving.serve.Goals.{then-opened, else-opened}

pub trade-requires : goal.trade-requires
trade-requires g c =
    ap (map slip_of) c.new.ensures
    ∙ sym (ap (λ (v : Ledger). v.slips) c.open-session.ensures.ledger ∙ none_prepared g.D.Desk.past (g.M.ScenarioModel.table c.new-preparation.result.model) [] c.args.desk.now c.prepare-opened.new.desk (prepared c.prepare-opened.new.preparation) c.prepare-opened.result (c.prepare-opened.ensures.talk []))

pub give_back-requires : goal.give_back-requires
give_back-requires g c = elim c.if-opened.branch [
  | then-opened w ↦ ap (λ h. slips_in h.held) w.holdings-is ∙ w.trade.ensures.held ∙ sym (ap (λ s. (open_ledger s).slips) w.session-is)
  | else-opened w ↦
      ap (λ h. slips_in h.held) w.holdings-is
      ∙ ap (map slip_of) c.new.ensures
      ∙ sym (ap (λ s. (open_ledger s).slips) w.session-is ∙ ap (λ (v : Ledger). v.slips) c.open-session.ensures.ledger ∙ none_prepared g.D.Desk.past (g.M.ScenarioModel.table c.new-preparation.result.model) [] c.args.desk.now c.prepare-opened.new.desk (prepared c.prepare-opened.new.preparation) c.prepare-opened.result (c.prepare-opened.ensures.talk []))
]

pub returns-clause-served : goal.returns-clause-served
returns-clause-served g c =
    let tm = g.M.ScenarioModel.table in
    let past = g.D.Desk.past in
    let bs = slips_in c.args.brought in
    let first = c.args.desk.now in
    let l = prepared c.prepare-opened.new.preparation in
    let made = c.new-preparation.ensures.model in
    let here : c.open-session.result.model ≡ c.args.model = c.open-session.ensures.model ∙ c.prepare-opened.ensures.model ∙ made in
    let lawful = g.met.M.ScenarioModel.lawful c.args.model in
    let talk : Prepared past (tm c.args.model) bs first c.prepare-opened.new.desk l c.prepare-opened.result = subst (λ x. Prepared past (tm x) bs first c.prepare-opened.new.desk l c.prepare-opened.result) made (c.prepare-opened.ensures.talk bs) in
    let opens : open_ledger c.open-session.result ≡ entered (tm c.args.model) l opening = subst (λ x. open_ledger c.open-session.result ≡ entered (tm x) l opening) (c.prepare-opened.ensures.model ∙ made) c.open-session.ensures.ledger in
    elim c.if-opened.branch [
      | then-opened w ↦
          let o : Opened past (tm c.args.model) bs first c.prepare-opened.new.desk l = subst (λ b. Prepared past (tm c.args.model) bs first c.prepare-opened.new.desk l b) w.if-opened.true talk in
          let t : Traded past (tm c.args.model) bs first w.trade.new.desk o.calls (open_ledger w.trade.new.session) =
          subst (λ x. Trading past (tm x) bs first c.prepare-opened.new.desk o.calls (open_ledger c.open-session.result) 0 → Traded past (tm x) bs first w.trade.new.desk o.calls (open_ledger w.trade.new.session)) here (w.trade.ensures.talk first o.calls) (trade_begun o (open_ledger c.open-session.result) opens) in
          let there : c.if-opened.session.model ≡ c.args.model = ap (λ s. s.model) w.session-is ∙ w.trade.ensures.model ∙ here in
          served_traded lawful o.calls (open_ledger c.if-opened.session) _
          (subst (λ d. Traded past (tm c.args.model) bs first d o.calls (open_ledger c.if-opened.session)) (sym w.desk-is) (subst (λ s. Traded past (tm c.args.model) bs first w.trade.new.desk o.calls (open_ledger s)) (sym w.session-is) t))
          (subst (λ x. open_ledger c.give_back.new.session ≡ fed (tm x) (open_ledger c.if-opened.session) (given_back (open_ledger c.if-opened.session).slips)) there c.give_back.ensures.ledger)
      | else-opened w ↦
          let u : Unopened past (tm c.args.model) bs first c.prepare-opened.new.desk l = subst (λ b. Prepared past (tm c.args.model) bs first c.prepare-opened.new.desk l b) w.if-opened.false talk in
          let there : c.if-opened.session.model ≡ c.args.model = ap (λ s. s.model) w.session-is ∙ here in
          served_unopened lawful l (open_ledger c.if-opened.session) _
          (subst (λ d. Unopened past (tm c.args.model) bs first d l) (sym w.desk-is) u)
          (ap (λ s. open_ledger s) w.session-is ∙ opens)
          (subst (λ x. open_ledger c.give_back.new.session ≡ fed (tm x) (open_ledger c.if-opened.session) (given_back (open_ledger c.if-opened.session).slips)) there c.give_back.ensures.ledger)
    ]
