-- How many scenarios a table has in all its subportfolios. Assumes nothing.
use Rattle.std.specs.Prelude.{ℕ, zero, suc, ◌+◌}
use Rattle.scenario.specs.Table.{ScenarioTable}

-- the sum of f 0 to f (n - 1)
abbrev pub sum_below : (ℕ → ℕ) → ℕ → ℕ
sum_below f zero = 0
sum_below f (suc n) = sum_below f n + f n

abbrev pub all_scenarios : ScenarioTable → ℕ
all_scenarios t = sum_below t.scenarios t.subportfolios
