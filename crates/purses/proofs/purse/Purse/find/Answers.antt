use Rattle.std.proofs.Common.{List, MatchOption, ◌<◌, length, ℕ, subst, rules, arith}
use borrow.Author.Tests.{tests}
use Rattle.std.specs.List.{AllWithin, HoldsAt}
use Rattle.std.proofs.lemmas.Iterator.{YieldsList-from_slice, IsFirst-from_position}
use Rattle.purses.specs.declared.slots.Slot.{Slot}
use Rattle.purses.specs.Held.{held}
use Rattle.purses.proofs.Searched.{Same, Other, found}
use Rattle.purses.proofs.purse.Purse.find.Goals as goal

pub returns : goal.returns
returns c =
    let p = c.args.self.now in
    let n = c.args.serial in
    let counted = p.counted in
    let few = p.few in
    found n (held p) c.position.result (omega arith)
    (subst (λ (v : List Slot). MatchOption c.position.result (AllWithin (Other n) v 0 (length v)) (λ (i : ℕ). (i < length v) × HoldsAt (Same n) v i × AllWithin (Other n) v 0 i)) p.packed
    (IsFirst-from_position _ _ c.position.result (Same n) (Other n) c.position.ensures.ran (YieldsList-from_slice p.slots.at c.iter.ensures.rest) (λ x q k. search (rules, tests)) (λ x q k. search (rules, tests))))
