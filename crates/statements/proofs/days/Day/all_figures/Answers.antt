use Rattle.std.proofs.Common.{◌<◌, map, ap, ◌∙◌, arith}
use Rattle.std.proofs.lemmas.Bool.{ltb-true}
use Rattle.cells.specs.Listed.{listed}
use Rattle.rules.specs.Answers.{client_figures}
use Rattle.book.specs.Ledgers.{ledger_in}
use Rattle.statements.specs.Figured.{figures_in}
use Rattle.statements.proofs.Chosen.{is_of, stated_room, stated_yes, stated_no}
use Rattle.statements.proofs.Picking.{some_if, none_if}
use Rattle.statements.proofs.days.Day.all_figures.Goals as goal
use Rattle.statements.proofs.days.Day.all_figures.Goals.{in-Some, in_default}

pub loop-number-preserved : goal.loop-number-preserved
loop-number-preserved g c =
    let m = g.M.ScenarioModel.table c.args.self.now.model.now in
    let l = ledger_in c.args.self.now.book.now in
    let tr = c.args.trader in
    let n = c.loop-number.number in
    let found = listed c.loop-number.found in
    let inv = c.loop-number.invariant in
    let few : n < 128 = omega (arith, c.loop-number-test.true, c.client_count-number-end.ensures.few) in
    elim c.match-figures_if.branch [
      | in-Some w ↦
          let x = w.in-Some.figures in
          let q = some_if (is_of m l tr n) (figures_in x) (client_figures m l n) w.in-Some.ensures in
          let room = stated_room m l tr n found inv few in
          ap (λ f. map figures_in (listed f)) w.found-is
          ∙ stated_yes m l tr n found inv (listed w.push.new.self) x q.0 q.1 (w.push.ensures.room (ltb-true _ _ room)).1
      | in_default w ↦
          ap (λ f. map figures_in (listed f)) w.found-is
          ∙ stated_no m l tr n found inv (none_if (is_of m l tr n) (client_figures m l n) w.in_default.ensures)
    ]
