use Rattle.std.proofs.Common.{◌≡◌, ℕ, ◌<◌, ◌≤◌, length, get_or, pos}
use Rattle.money.proofs.Settled.{with_need}
use Rattle.book.specs.declared.clients.Client.{Client}
use Rattle.book.specs.Means.{client_in}
use Rattle.money.proofs.settling.set_needs.Given as goal

abbrev pub invariant-loop-place : goal.invariant-loop-place
invariant-loop-place l =
    (length l.row-items ≡ length l.initial.row-items)
    × ((k : ℕ) (d : Client) → l.place ≤ k → get_or l.row-items k d ≡ get_or l.initial.row-items k d)
    × ((k : ℕ) (d : Client) → k < l.place → client_in (get_or l.row-items k d) ≡ with_need (get_or l.needs k (pos 0)) (client_in (get_or l.initial.row-items k d)))
