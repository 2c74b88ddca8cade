use Rattle.std.proofs.Common.{◌≡◌, ◌+◌, ◌<◌, length, ap, ◌∙◌, add-one, arith}
use Rattle.std.specs.List.{remove}
use Rattle.std.proofs.lemmas.List.{get_or_default}
use Rattle.std.proofs.lemmas.List.Edits.{length-remove}
use Rattle.purses.specs.declared.slots.Slot.TheVariants.{Empty}
use Rattle.purses.specs.Slots.{slip_at}
use Rattle.purses.specs.Held.{held}
use Rattle.purses.proofs.Rows.{length_at, at_taken, held_there, packed_there, slip_there}
use Rattle.purses.proofs.purse.Purse.take.Goals as goal

pub invariant_of-self : goal.invariant_of-self
invariant_of-self c =
    let p = c.args.self.now in
    let counted = p.counted in
    let few = p.few in
    let left = remove (held p) c.args.place in
    let e = at_taken p c.args.place _ c.rotate_left.new.self (omega arith) c.replace-slot.ensures.after c.rotate_left.ensures.after in
    let less : length left + 1 ≡ length (held p) = length-remove (held p) c.args.place (omega arith) in
    let same = ap length (held_there _ left e) in
    record { packed = packed_there _ left e; counted = omega arith; few = omega arith }

pub returns-clause-value : goal.returns-clause-value
returns-clause-value c =
    let p = c.args.self.now in
    let within : c.args.place < length p.slots.at = omega (arith, length_at p) in
    c.into_slip.ensures ∙ ap slip_at (c.replace-slot.ensures.value ∙ get_or_default p.slots.at c.args.place _ Empty within) ∙ slip_there p c.args.place

pub returns-clause-after : goal.returns-clause-after
returns-clause-after c =
    let p = c.args.self.now in
    let counted = p.counted in
    rw (add-one c.args.place) (held_there _ _ (at_taken p c.args.place _ c.rotate_left.new.self (omega arith) c.replace-slot.ensures.after c.rotate_left.ensures.after))
