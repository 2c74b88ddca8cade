use Rattle.std.proofs.Common.{ℕ, get_or, pos}
use Rattle.book.specs.Means.{clients_in}
use Rattle.money.proofs.Paying.{capped_opened}
use Rattle.money.proofs.settling.enter_needs.Goals as goal

pub invariant_of-book : goal.invariant_of-book
invariant_of-book c = record { capped = capped_opened c.args.book.now (λ (n : ℕ). get_or c.args.needs.now n (pos 0)) (clients_in c.set_needs.new.clients) c.set_needs.ensures }
