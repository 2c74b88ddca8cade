use Rattle.std.proofs.Common.{◌≡◌, Some, None, Option, [], ◌∷◌, ap, map, refl, subst, ◌∙◌, arith}
use Rattle.orders.specs.declared.Order.{Order}
use Rattle.session.specs.Phases.{open_ledger, slip_of}
use Rattle.purses.specs.Held.{slips_in}
use Rattle.desk.specs.Meant.{trades}
use Rattle.desk.specs.Outcomes.{outcome_told}
use Rattle.desk.specs.Told.{asked}
use Rattle.desk.specs.Turns.{Turned}
use Rattle.desk.proofs.Talking.{Heard, heard_by, trade_turn, trade_no_more, trade_worn_out}
use Rattle.desk.proofs.serving.trade.Given as given
use Rattle.desk.proofs.serving.trade.Goals as goal

-- the desk was asked by the model of the day
lent : (g : given.Over) (m m' : g.row.M.Denot) (a b : g.row.D.Denot) (o : Option Order) → m ≡ m' → Heard g.D.Desk.past a b (asked (g.M.ScenarioModel.table m) o ∷ []) → Heard g.D.Desk.past a b (asked (g.M.ScenarioModel.table m') o ∷ [])
lent g m m' a b o e p = heard_by g.D.Desk.past (g.M.ScenarioModel.table m) (g.M.ScenarioModel.table m') a b o (ap g.M.ScenarioModel.table e) p

pub loop-turn-init : goal.loop-turn-init
loop-turn-init g c = (λ first es t. t, refl, c.requires, refl)

pub returns-in_default-clause-talk : goal.returns-in_default-clause-talk
returns-in_default-clause-talk g c = λ first es t. trade_no_more (c.loop-turn.invariant.0 first es t) _ (lent g c.model.result.now c.args.session.now.model _ _ None (c.model.ensures ∙ c.loop-turn.invariant.1) c.in_default.ensures)

pub loop-turn-preserved : goal.loop-turn-preserved
loop-turn-preserved g c =
    let i = c.loop-turn.invariant in
    let o = c.in-Some.order in
    let told = outcome_told c.trade_one-outcome.result c.trade_one-outcome.new.place in
    let l = open_ledger c.loop-turn.session in
    let l' = open_ledger c.trade_one-outcome.new.session in
    let bs = slips_in c.args.holdings.now.brought in
    let one = subst (λ m. Turned m (trades (slips_in c.loop-turn.holdings.brought) l o) told l l') (ap g.M.ScenarioModel.table i.1) c.trade_one-outcome.ensures.turn in (
      λ first es t. trade_turn (i.0 first es t) o told _ _ l' (subst (λ xs. Turned (g.M.ScenarioModel.table c.args.session.now.model) (trades (map slip_of xs) l o) told l l') i.3 one) (lent g c.model.result.now c.args.session.now.model _ _ (Some o) (c.model.ensures ∙ i.1) c.in-Some.ensures) c.answer.ensures,
      c.trade_one-outcome.ensures.model ∙ i.1,
      c.trade_one-outcome.ensures.held,
      c.trade_one-outcome.ensures.brought ∙ i.3,
    )

pub returns-clause-talk : goal.returns-clause-talk
returns-clause-talk g c = λ first es t. trade_worn_out (c.loop-turn.invariant.0 first es t) (omega (arith, c.loop-turn-test.false))
