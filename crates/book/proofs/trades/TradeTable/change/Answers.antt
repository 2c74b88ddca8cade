use Rattle.std.proofs.Common.{◌≡◌, ◌<◌, length, get_or, set, ap, ◌∙◌}
use Rattle.std.proofs.lemmas.List.{get_or_read}
use Rattle.cells.specs.Lent.{with_row}
use Rattle.cells.specs.Listed.{listed}
use Rattle.cells.proofs.Rowed.{listed_lent}
use Rattle.book.specs.declared.trades.standing.TradeCell.{TradeCell}
use Rattle.book.specs.declared.trades.standing.TradeCell.TheVariants.{Empty}
use Rattle.book.specs.Filled.{each_filled}
use Rattle.book.specs.Standings.{cell_after, change_answer}
use Rattle.book.specs.Tabled.{cells_in}
use Rattle.book.proofs.Readings.{read_at}
use Rattle.book.proofs.Fills.{filled_at, filled_set, filled_after}
use Rattle.book.proofs.trades.TradeTable.change.Goals as goal
use Rattle.book.proofs.trades.TradeTable.change.Goals.{After-change}

-- the cell that was lent
read : (c : After-change) → c.in_ok-cell.cell.now ≡ get_or (cells_in c.args.self.now) c.args.i Empty
read c = get_or_read (cells_in c.args.self.now) c.args.i c.in_ok-cell.cell.now (read_at _ _ c.get_mut.result c.in_ok-cell.cell c.get_mut.ensures.value c.in_ok-cell.ensures.ok_part).0 (read_at _ _ c.get_mut.result c.in_ok-cell.cell c.get_mut.ensures.value c.in_ok-cell.ensures.ok_part).1 Empty

changed : (c : After-change) → listed (with_row c.args.self.now.rows c.args.i c.change.new.self) ≡ set (cells_in c.args.self.now) c.args.i (cell_after (get_or (cells_in c.args.self.now) c.args.i Empty) c.args.change)
changed c =
    let t = c.args.self.now in
    listed_lent t.rows c.args.i c.change.new.self ∙ ap (set (cells_in t) c.args.i) (c.change.ensures.after ∙ ap (λ (x : TradeCell). cell_after x c.args.change) (read c))

pub invariant_of-self-2 : goal.invariant_of-self-2
invariant_of-self-2 c =
    let t = c.args.self.now in
    let l : c.args.i < length (cells_in t) = (read_at _ _ c.get_mut.result c.in_ok-cell.cell c.get_mut.ensures.value c.in_ok-cell.ensures.ok_part).0 in
    record { filled = ap each_filled (changed (goal.at.invariant_of-self-2 c).After-change) ∙ filled_set (cells_in t) c.args.i _ t.filled (filled_after (get_or (cells_in t) c.args.i Empty) c.args.change (filled_at (cells_in t) c.args.i Empty l t.filled)) }

pub returns-clause-known : goal.returns-clause-known
returns-clause-known c h =
    let w = (goal.at.returns-clause-known c).After-change in
    (c.change.ensures.said ∙ ap (λ (x : TradeCell). change_answer x c.args.change) (read w), changed w)
