-- The needs of clients, by number. Assumes nothing.
use Rattle.std.proofs.Common.{ℕ, cond, ltb, length, unwrap_or, ℤ, pos, Some, None, Option}
use Rattle.scenario.specs.Table.{ScenarioTable}
use Rattle.rules.specs.Ledger.{Ledger}
use Rattle.rules.specs.Limits.{need_of}

module _ (m : ScenarioTable) (l : Ledger) where
  abbrev pub asked_need : ℕ → Option ℤ
  asked_need c = cond (ltb c (length l.clients)) (Some (need_of m l c)) None

  -- 0 where there is no such client
  abbrev pub need_at : ℕ → ℤ
  need_at c = unwrap_or (asked_need c) (pos 0)
