use Rattle.std.proofs.Common.{ap, ◌∙◌, rules}
use borrow.Author.Tests.{tests}
use Rattle.std.specs.List.{list_any}
use Rattle.std.proofs.lemmas.Iterator.{YieldsList-from_slice}
use Rattle.std.proofs.lemmas.Iterator.Search.{any_from_yields_List}
use Rattle.book.specs.Means.{slip_in}
use Rattle.purses.specs.Slots.{says}
use Rattle.purses.specs.Held.{held}
use Rattle.purses.proofs.Searched.{says-row}
use Rattle.purses.proofs.purse.Purse.holds.Goals as goal

pub returns : goal.returns
returns c =
    let p = c.args.self.now in
    let s = slip_in c.args.stub in
    any_from_yields_List (says s) _ _ c.any.result c.any.ensures.ran (YieldsList-from_slice p.slots.at c.iter.ensures.rest) (λ x b q k. search (rules, tests))
    ∙ ap (list_any (says s)) p.packed
    ∙ says-row s (held p)
