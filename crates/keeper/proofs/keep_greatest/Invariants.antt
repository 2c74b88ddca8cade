use Rattle.std.proofs.Common.{◌≡◌, take}
use Rattle.keeper.specs.Kept.{Keeping}
use Rattle.keeper.proofs.keep_greatest.Given as goal

abbrev pub invariant-loop-x : goal.invariant-loop-x
invariant-loop-x g l =
    Keeping g.T.Ranked.before l.initial.keeper.cells.now (take l.x-index l.offered) l.keeper.filled l.keeper.cells.now
    × (l.keeper.cells.ghost_name ≡ l.initial.keeper.cells.ghost_name)
