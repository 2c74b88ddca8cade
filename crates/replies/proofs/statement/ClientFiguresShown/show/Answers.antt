use Rattle.std.proofs.Common.{codes, w64, SFits, rules}
use Rattle.lines.proofs.Decimals.{text_signed}
use Rattle.lines.proofs.Room.{then}
use Rattle.replies.proofs.statement.ClientFiguresShown.show.Goals as goal

pub returns : goal.returns
returns c =
    let need : SFits w64 c.args.self.need = search rules in
    let collateral : SFits w64 c.args.self.collateral = search rules in
    let deficit : SFits w64 c.args.self.deficit = search rules in
    let cover = text_signed _ _ (codes " need ") c.args.self.need need c.push-2.ensures in
    let covers = text_signed _ _ (codes " collateral ") c.args.self.collateral collateral c.push-3.ensures in
    let missing = text_signed _ _ (codes " deficit ") c.args.self.deficit deficit c.push-4.ensures in
    let figures = then _ _ _ _ _ c.push.ensures (then _ _ _ _ _ cover (then _ _ _ _ _ covers missing)) in
    then _ _ _ _ _ figures (then _ _ _ _ _ c.push-5.ensures c.show_margins.ensures)
