use Rattle.std.proofs.Common.{rules}
use borrow.Author.Tests.{tests}
use Rattle.std.proofs.lemmas.Iterator.{YieldsList-from_slice, IsFirst-from_position}
use Rattle.cells.specs.Listed.{listed}
use Rattle.book.specs.Means.{slip_in}
use Rattle.money.proofs.Found.{Same, Other, found}
use Rattle.money.proofs.slips.find.Goals as goal

pub returns : goal.returns
returns c =
    let s = slip_in c.args.stub in
    found s (listed c.args.slips.now) c.position.result (IsFirst-from_position _ _ c.position.result (Same s) (Other s) c.position.ensures.ran (YieldsList-from_slice (listed c.args.slips.now) cc) (λ x q k. search (rules, tests)) (λ x q k. search (rules, tests)))
