use Rattle.std.proofs.Common.{◌≡◌, get_or, option_map, sym, ap, ◌∙◌, rules}
use Rattle.std.proofs.lemmas.Option.{slice_get-map}
use Rattle.session.specs.Phases.{slip_of}
use Rattle.purses.specs.declared.slots.Slot.{Slot}
use Rattle.purses.specs.declared.slots.Slot.TheVariants.{Empty}
use Rattle.purses.specs.Slots.{slip_at}
use Rattle.purses.specs.Held.{held}
use Rattle.purses.proofs.Rows.{slip_there}
use Rattle.purses.proofs.purse.Purse.stub.Goals as goal

pub returns : goal.returns
returns c =
    let p = c.args.self.now in
    let is : c.in_ok-get.field-0.now ≡ get_or p.slots.at c.args.place Empty = search rules in
    c.stub.ensures
    ∙ ap (λ (x : Slot). option_map slip_of (slip_at x)) is
    ∙ ap (option_map slip_of) (slip_there p c.args.place)
    ∙ sym (slice_get-map slip_of (held p) c.args.place)
