use Rattle.std.proofs.Common.{◌≡◌, ℕ, ◌<◌, ◌≤◌, length, get_or, pos}
use Rattle.rules.specs.Causes.{with_cash}
use Rattle.book.specs.declared.clients.Client.{Client}
use Rattle.book.specs.Means.{client_in}
use Rattle.money.proofs.settling.clear_cash.Given as goal

abbrev pub invariant-loop-row : goal.invariant-loop-row
invariant-loop-row l =
    (length l.row-items ≡ length l.initial.row-items)
    × ((k : ℕ) (d : Client) → l.row-index ≤ k → get_or l.row-items k d ≡ get_or l.initial.row-items k d)
    × ((k : ℕ) (d : Client) → k < l.row-index → client_in (get_or l.row-items k d) ≡ with_cash (pos 0) (client_in (get_or l.initial.row-items k d)))
