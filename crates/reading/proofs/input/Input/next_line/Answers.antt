use Rattle.std.proofs.Common.{◌++◌, ◌∷◌, sym, ap, ◌∙◌}
use Rattle.std.specs.Io.KnownBytes.{prepend_known}
use Rattle.std.specs.List.{before_first, slice_range}
use Rattle.reading.specs.Lines.{unread, is_feed}
use Rattle.reading.proofs.Told.{kept, hand, with_feed, without_feed, feed_next, told_fed, told_end}
use Rattle.reading.proofs.input.Input.next_line.Goals as goal

pub returns-then-self-clause-tells : goal.returns-then-self-clause-tells
returns-then-self-clause-tells g c =
    let rest = g.R.Read.remaining in
    let gathered = kept (unread rest c.args.self.now) (unread rest c.loop.self) (unread rest c.fill.new.self) c.loop.line c.loop.invariant.0 c.loop.invariant.1 c.fill.ensures.bytes in
    told_end (unread rest c.args.self.now) (unread rest c.fill.new.self) c.loop.line c.loop.invariant.0 c.end_of_input.result gathered (c.in_ok-fill.ensures.end c.if-self.true) c.end_of_input.ensures _

pub returns-then-take_piece-clause-tells : goal.returns-then-take_piece-clause-tells
returns-then-take_piece-clause-tells g c =
    let rest = g.R.Read.remaining in
    let old = c.fill.new.self in
    let new = c.take_piece.new.self in
    let xs = slice_range old.chunk old.start old.end in
    let ys = slice_range new.chunk new.start new.end in
    let took = c.take_piece.ensures in
    let given = hand (unread rest c.loop.self) (rest new.source) (rest old.source) xs c.fill.ensures.bytes (ap rest took.source) in
    let gathered = with_feed (unread rest c.args.self.now) (unread rest c.loop.self) (rest new.source) c.loop.line c.take_piece.new.line c.loop.invariant.0 xs ys c.loop.invariant.1 given (sym took.fed ∙ c.if-take_piece.true) took.rest took.line in
    told_fed (unread rest c.args.self.now) (prepend_known (10 ∷ ys) (rest new.source)) (unread rest new) c.take_piece.new.line c.end_by_feed.new.self (c.loop.invariant.0 ++ before_first is_feed xs) c.end_by_feed.result gathered (feed_next (rest new.source) ys) c.end_by_feed.ensures.reached c.end_by_feed.ensures.fed c.end_by_feed.ensures.bytes _

pub loop-preserved : goal.loop-preserved
loop-preserved g c =
    let rest = g.R.Read.remaining in
    let old = c.fill.new.self in
    let new = c.take_piece.new.self in
    let xs = slice_range old.chunk old.start old.end in
    let ys = slice_range new.chunk new.start new.end in
    let took = c.take_piece.ensures in
    let given = hand (unread rest c.loop.self) (rest new.source) (rest old.source) xs c.fill.ensures.bytes (ap rest took.source) in
    (c.loop.invariant.0 ++ before_first is_feed xs, without_feed (unread rest c.args.self.now) (unread rest c.loop.self) (rest new.source) c.loop.line c.take_piece.new.line c.loop.invariant.0 xs ys c.loop.invariant.1 given (sym took.fed ∙ c.if-take_piece.false) took.rest took.line)
