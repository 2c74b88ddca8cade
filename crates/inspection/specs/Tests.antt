-- Tests over numbers. Assumes nothing.
use Rattle.std.specs.Prelude.{ℕ, zero, suc, Bool, true, not, ◌&&◌, ℤ, pos, neg_ℤ, int_lt, nat_le}

-- whether a test passes at each number below n
unfoldable pub every : ℕ → (ℕ → Bool) → Bool
every zero p = true
every (suc n) p = every n p && p n

unfoldable pub within : ℕ → ℤ → Bool
within n x = not (int_lt x (neg_ℤ (pos n))) && not (int_lt (pos n) x)

abbrev pub between : ℕ → ℕ → ℕ → Bool
between low high x = nat_le low x && nat_le x high
