-- What it is to be the greatest over the scenarios of a subportfolio, or of every subportfolio. Assumes nothing.
use Rattle.std.specs.Prelude.{◌≡◌, ℕ, ◌<◌, ℤ, ◌≤ℤ◌}
use Rattle.scenario.specs.Table.{ScenarioTable}
use Rattle.figures.specs.Sums.{total_below}

-- r is the greatest of f 0 .. f (n - 1): none is above it, and one reaches it
pub record Greatest (n : ℕ) (f : ℕ → ℤ) (r : ℤ) : Type 0 where
  pub bounds : (s : ℕ) → s < n → f s ≤ℤ r
  pub reached : (s : ℕ) × (s < n) × (f s ≡ r)

-- one scenario in every subportfolio
abbrev pub Scenarios : ScenarioTable → (ℕ → ℕ) → Type 0
Scenarios m of = (k : ℕ) → k < m.subportfolios → of k < m.scenarios k

-- the sum of f with one scenario in every subportfolio
abbrev pub summed : ScenarioTable → (ℕ → ℕ → ℤ) → (ℕ → ℕ) → ℤ
summed m f of = total_below m.subportfolios (λ k. f k (of k))

-- r is the greatest that g makes of the sums of f: none is above it, and one reaches it
pub record Worst (m : ScenarioTable) (f : ℕ → ℕ → ℤ) (g : ℤ → ℤ) (r : ℤ) : Type 0 where
  pub bounds : (of : ℕ → ℕ) → Scenarios m of → g (summed m f of) ≤ℤ r
  pub reached : (of : ℕ → ℕ) × Scenarios m of × (g (summed m f of) ≡ r)
