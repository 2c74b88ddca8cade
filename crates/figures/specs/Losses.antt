-- What positions lose in the scenarios of a subportfolio, by a way of counting, and rows of such sums. Assumes nothing.
use Rattle.std.specs.Prelude.{◌≡◌, ℕ, ◌+◌, ◌<◌, ◌≤◌, cond, List, ℤ, pos, ◌+ℤ◌, neg_ℤ, slice_index_or, unsigned_abs}
use Rattle.scenario.specs.Table.{ScenarioTable}
use Rattle.figures.specs.Figures.{Position, lies_in, moves, mark}
use Rattle.figures.specs.Sums.{floored, total}

-- the two ways of counting, of a mark and of what is gained in a scenario: gains and losses together, and losses alone
abbrev pub lost_together : ℤ → ℤ → ℤ
lost_together marked moved = neg_ℤ moved

abbrev pub lost_alone : ℤ → ℤ → ℤ
lost_alone marked moved = floored (neg_ℤ (marked +ℤ moved))

-- by either way: of one position, and of positions
abbrev pub loses_in : ScenarioTable → (ℕ → ℕ) → (ℤ → ℤ → ℤ) → ℕ → ℕ → Position → ℤ
loses_in m market lost k s t = cond (lies_in m k t) (lost (mark m market t) (moves m s t)) (pos 0)

abbrev pub losses_in : ScenarioTable → (ℕ → ℕ) → (ℤ → ℤ → ℤ) → List Position → ℕ → ℕ → ℤ
losses_in m market lost ts k s = total (loses_in m market lost k s) ts

-- what stands in a row of sums, 0 past its end
abbrev pub at : List ℤ → ℕ → ℤ
at xs s = slice_index_or xs s (pos 0)

-- a row after f 0 .. f (n - 1), none beyond b, were added to its first n sums
pub record Added (xs ys : List ℤ) (n : ℕ) (f : ℕ → ℤ) (b : ℕ) : Type 0 where
  pub more : (s : ℕ) → s < n → at ys s ≡ at xs s +ℤ f s
  pub rest : (s : ℕ) → n ≤ s → at ys s ≡ at xs s
  pub small : (s : ℕ) → unsigned_abs (at ys s) ≤ unsigned_abs (at xs s) + b

-- a row that holds f 0 .. f (n - 1) and then 0, none beyond b
pub record Holds (xs : List ℤ) (n : ℕ) (f : ℕ → ℤ) (b : ℕ) : Type 0 where
  pub sums : (s : ℕ) → s < n → at xs s ≡ f s
  pub rest : (s : ℕ) → n ≤ s → at xs s ≡ pos 0
  pub small : (s : ℕ) → unsigned_abs (at xs s) ≤ b
