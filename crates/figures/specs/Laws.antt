-- A law of margins. Assumes nothing.
use Rattle.std.specs.Prelude.{ℕ, List, pos, ◌≤ℤ◌}
use Rattle.scenario.specs.Table.{ScenarioTable, Lawful}
use Rattle.figures.specs.Figures.{Position, margin}

-- the unmoved market makes a margin at least 0
abbrev pub MarginsNotNegative : Type 0
MarginsNotNegative = (m : ScenarioTable) → Lawful m → (ts : List Position) (k : ℕ) → pos 0 ≤ℤ margin m ts k
