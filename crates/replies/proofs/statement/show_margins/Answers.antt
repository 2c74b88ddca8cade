use Rattle.std.proofs.Common.{get_or, pos, codes, w64, SFits, rules}
use Rattle.lines.proofs.Decimals.{text_signed}
use Rattle.replies.proofs.Margins.{margins_more}
use Rattle.replies.proofs.statement.show_margins.Goals as goal

pub loop-margin-preserved : goal.loop-margin-preserved
loop-margin-preserved c =
    let margin = get_or c.args.margins.now c.loop-margin.margin-index (pos 0) in
    let fits : SFits w64 margin = search rules in
    margins_more _ _ _ c.args.margins.now c.loop-margin.margin-index (pos 0) c.loop-margin-test.true c.loop-margin.invariant (text_signed _ _ (codes " ") margin fits c.push.ensures)
