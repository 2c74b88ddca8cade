use Rattle.std.proofs.Common.{◌≡◌, true, ◌&&◌, ap, ◌∙◌}
use Rattle.std.proofs.lemmas.Bool.{and_parts, ltb-true}
use Rattle.cells.specs.Listed.{listed}
use Rattle.figures.specs.Positions.{position_of, positions_of}
use Rattle.book.specs.Filled.{is_filled}
use Rattle.book.specs.Means.{trade_in}
use Rattle.book.proofs.Fills.{filled_at}
use Rattle.statements.proofs.Gathered.{collect_room, collect_yes, collect_no}
use Rattle.statements.proofs.Picking.{some_if, none_if, unasked}
use Rattle.statements.proofs.collecting.collect.Goals as goal
use Rattle.statements.proofs.collecting.collect.Goals.{in-Some, in_default}

pub loop-cell-preserved : goal.loop-cell-preserved
loop-cell-preserved g c =
    let l = c.loop-cell in
    let p = g.A.Asked.asks c.args.asked.now in
    let cells = c.cells-cell-items.result.now in
    let cell = c.cell-item.result in
    let full : is_filled cell ≡ true = ap is_filled c.cell-item.is ∙ filled_at cells l.cell-index cell c.loop-cell-test.true c.cells-cell-items.ensures.filled in
    let asked = is_filled cell && p (trade_in cell) in
    elim c.match-position_in.branch [
      | in-Some w ↦
          let x = w.in-Some.position in
          let q = some_if asked (position_of x) (trade_in cell).position w.in-Some.ensures in
          let room = collect_room p cells l.cell-index cell c.loop-cell-test.true c.cell-item.is (listed l.found) c.cells-cell-items.ensures.few l.invariant in
          ap (λ f. positions_of (listed f)) w.found-is
          ∙ collect_yes p cells l.cell-index cell c.loop-cell-test.true c.cell-item.is (listed l.found) (listed w.push.new.self) x (and_parts (is_filled cell) (p (trade_in cell)) q.0).1 q.1 (w.push.ensures.room (ltb-true _ _ room)).1 l.invariant
      | in_default w ↦
          ap (λ f. positions_of (listed f)) w.found-is
          ∙ collect_no p cells l.cell-index cell c.loop-cell-test.true c.cell-item.is (listed l.found) (unasked (is_filled cell) (p (trade_in cell)) full (none_if asked (trade_in cell).position w.in_default.ensures)) l.invariant
    ]
