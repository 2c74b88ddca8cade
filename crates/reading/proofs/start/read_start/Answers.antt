use Rattle.std.proofs.Common.{arith}
use Rattle.reading.proofs.Filled.{filled}
use Rattle.reading.proofs.start.read_start.Goals as goal

pub loop-preserved : goal.loop-preserved
loop-preserved g c =
    let rest = g.R.Read.remaining in (
      omega (arith, c.in_ok-count.ensures.fits),
      filled (rest c.args.source.now) (rest c.loop.source) (rest c.read_from.new.source) c.loop.room c.read_from.new.room c.loop.used c.in_ok-count.count c.read_from.ensures.front c.loop.invariant.1 c.in_ok-count.ensures.ok,
    )
