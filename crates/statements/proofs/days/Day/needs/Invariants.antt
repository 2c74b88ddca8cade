use Rattle.std.proofs.Common.{◌≡◌, ℕ, ◌<◌, length, get_or, pos}
use Rattle.book.specs.Ledgers.{ledger_in}
use Rattle.statements.proofs.Needed.{need_at}
use Rattle.statements.proofs.days.Day.needs.Given as goal

abbrev pub invariant-loop-client : goal.invariant-loop-client
invariant-loop-client g l =
    (length l.need-items ≡ 128) × ((k : ℕ) → k < l.client → get_or l.need-items k (pos 0) ≡ need_at (g.M.ScenarioModel.table l.self.model.now) (ledger_in l.self.book.now) k)
