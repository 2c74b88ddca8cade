use Rattle.std.proofs.Common.{ap, ◌∙◌, arith}
use Rattle.std.specs.List.{position_or_len}
use Rattle.keeper.proofs.Place.{put_at_place, put_beyond}
use Rattle.keeper.proofs.lent.Keeper.offer.Goals as goal

pub returns-then-place-self-clause-held : goal.returns-then-place-self-clause-held
returns-then-place-self-clause-held g c =
    let k = c.args.self.now in
    let b = g.T.Ranked.before in
    put_beyond b c.args.x k.cells.now k.filled c.place_among-place.result (omega arith) (c.place_among-place.ensures.place ∙ ap (position_or_len (b c.args.x)) c.held.ensures) c.if-place-self.true

pub returns-clause-held : goal.returns-clause-held
returns-clause-held g c =
    let k = c.args.self.now in
    let b = g.T.Ranked.before in
    put_at_place b c.args.x k.cells.now c.copy_within.new.self k.filled c.place_among-place.result c.min-last.result (omega arith) (c.place_among-place.ensures.place ∙ ap (position_or_len (b c.args.x)) c.held.ensures) c.if-place-self.false c.min-last.ensures
    c.copy_within.ensures.len c.copy_within.ensures.by_index.1 c.copy_within.ensures.by_index.0
