use Rattle.std.proofs.Common.{◌≡◌, Some, None, Option, [], ◌∷◌, ap, refl, subst, ◌∙◌, arith}
use Rattle.orders.specs.declared.Order.{Order}
use Rattle.session.specs.Phases.{prepared}
use Rattle.desk.specs.Meant.{prepares}
use Rattle.desk.specs.Told.{told_of, asked}
use Rattle.desk.specs.Turns.{Turned}
use Rattle.desk.proofs.Talking.{Heard, heard_by, prepare_begun, prepare_turn, open_turn, never_opened, opened_too_late}
use Rattle.desk.proofs.serving.prepare.Given as given
use Rattle.desk.proofs.serving.prepare.Goals as goal

-- the desk was asked by the model of the day
lent : (g : given.Over) (m m' : g.row.M.Denot) (a b : g.row.D.Denot) (o : Option Order) → m ≡ m' → Heard g.D.Desk.past a b (asked (g.M.ScenarioModel.table m) o ∷ []) → Heard g.D.Desk.past a b (asked (g.M.ScenarioModel.table m') o ∷ [])
lent g m m' a b o e p = heard_by g.D.Desk.past (g.M.ScenarioModel.table m) (g.M.ScenarioModel.table m') a b o (ap g.M.ScenarioModel.table e) p

pub loop-turn-init : goal.loop-turn-init
loop-turn-init g c = (λ bs. prepare_begun _ c.requires refl, refl)

pub returns-in_default-clause-talk : goal.returns-in_default-clause-talk
returns-in_default-clause-talk g c = λ bs. never_opened (c.loop-turn.invariant.0 bs) _ (lent g c.model.result.now c.args.preparation.now.model _ _ None (c.model.ensures ∙ c.loop-turn.invariant.1) c.in_default.ensures)

pub returns-in_default-prepare_one-clause-talk : goal.returns-in_default-prepare_one-clause-talk
returns-in_default-prepare_one-clause-talk g c = λ bs. open_turn (c.loop-turn.invariant.0 bs) c.in-Some.order _ _ _ c.in_default-prepare_one.ensures.opens.0 c.in_default-prepare_one.ensures.opens.1 (lent g c.model.result.now c.args.preparation.now.model _ _ (Some c.in-Some.order) (c.model.ensures ∙ c.loop-turn.invariant.1) c.in-Some.ensures) c.tell.ensures

pub loop-turn-preserved : goal.loop-turn-preserved
loop-turn-preserved g c =
    let r = c.in-Some-prepare_one in
    let same = ap g.M.ScenarioModel.table c.loop-turn.invariant.1 in (
      λ bs. prepare_turn (c.loop-turn.invariant.0 bs) c.in-Some.order (told_of r.reply) _ _ _
          (subst (λ m. Turned m (prepares c.in-Some.order) (told_of r.reply) (prepared c.loop-turn.preparation) (prepared c.prepare_one.new.preparation)) same r.ensures.turn)
          (lent g c.model.result.now c.args.preparation.now.model _ _ (Some c.in-Some.order) (c.model.ensures ∙ c.loop-turn.invariant.1) c.in-Some.ensures)
          c.tell-in-loop-turn.ensures,
      r.ensures.model ∙ c.loop-turn.invariant.1,
    )

pub returns-clause-talk : goal.returns-clause-talk
returns-clause-talk g c = λ bs. opened_too_late (c.loop-turn.invariant.0 bs) (omega (arith, c.loop-turn-test.false))
