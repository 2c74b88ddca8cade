use Rattle.std.proofs.Common.{List, ◌++◌, ◌∷◌, take, drop, ap, ◌∙◌}
use Rattle.session.specs.declared.slips.Slip.{Slip}
use Rattle.purses.specs.Held.{held}
use Rattle.purses.proofs.Spent.{put_back_at}
use Rattle.desk.proofs.spending.spend_brought.Goals as goal

pub returns-clause-brought : goal.returns-clause-brought
returns-clause-brought g c =
    let k = c.args.place in
    let out = c.in-Some.ensures in
    c.put_again.ensures
    ∙ ap (λ (s : Slip). take k (held c.take_strange.new.brought) ++ s ∷ drop k (held c.take_strange.new.brought)) c.in-Err.ensures.back
    ∙ ap (λ (xs : List Slip). take k xs ++ c.in-Some.slip ∷ drop k xs) out.2
    ∙ put_back_at (held c.args.holdings.now.brought) k c.in-Some.slip out.0
