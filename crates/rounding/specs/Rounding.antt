-- A quotient to the nearest whole number, halves away from zero. Assumes nothing.
use Rattle.std.specs.Prelude.{◌≡◌, ℕ, suc, ◌+◌, ◌*◌, ◌/◌, ◌≤◌, ℤ, pos, negsuc, ◌-ℤ◌, ◌*ℤ◌, neg_ℤ, unsigned_abs}

-- what a sum of exposure times factor shock is divided by: shocks of factors are in ten-thousandths
abbrev pub parts : ℕ
parts = 10000

abbrev pub nearest : ℕ → ℤ → ℤ
nearest d (pos n) = pos ((2 * n + d) / (2 * d))
nearest d (negsuc n) = neg_ℤ (pos ((2 * suc n + d) / (2 * d)))

-- the same in other words: twice the distance of d times r from t is at most d, and where it is d itself, d times r is the farther from zero
pub record Nearest (d : ℕ) (t r : ℤ) : Type 0 where
  pub near : 2 * unsigned_abs (pos d *ℤ r -ℤ t) ≤ d
  pub away : 2 * unsigned_abs (pos d *ℤ r -ℤ t) ≡ d → unsigned_abs t ≤ unsigned_abs (pos d *ℤ r)

-- the two agree
abbrev pub Agree : Type 0
Agree = (t r : ℤ) → (r ≡ nearest parts t → Nearest parts t r) × (Nearest parts t r → r ≡ nearest parts t)
