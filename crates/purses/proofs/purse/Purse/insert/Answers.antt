use Rattle.std.proofs.Common.{◌≡◌, ◌+◌, length, refl, ap, arith}
use Rattle.std.specs.List.{insert}
use Rattle.std.proofs.lemmas.List.Edits.{length-insert}
use Rattle.purses.specs.Held.{held}
use Rattle.purses.proofs.Rows.{at_put, held_there, packed_there}
use Rattle.purses.proofs.purse.Purse.insert.Goals as goal

pub invariant_of-self : goal.invariant_of-self
invariant_of-self c =
    let p = c.args.self.now in
    let counted = p.counted in
    let left = insert (held p) c.args.place c.args.slip in
    let e = at_put p c.args.place c.args.slip c.rotate_right.new.self (omega arith) (omega arith) c.rotate_right.ensures.after in
    let more : length left ≡ length (held p) + 1 = length-insert (held p) c.args.place c.args.slip (omega arith) in
    let same = ap length (held_there _ left e) in
    record { packed = packed_there _ left e; counted = omega arith; few = omega arith }

pub returns-clause-room : goal.returns-clause-room
returns-clause-room c room within =
    let p = c.args.self.now in
    let counted = p.counted in
    (refl, held_there _ _ (at_put p c.args.place c.args.slip c.rotate_right.new.self (omega arith) (omega arith) c.rotate_right.ensures.after))
