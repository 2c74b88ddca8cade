-- A quotient rounded up. Assumes nothing.
use Rattle.std.proofs.Common.{◌≡◌, ℕ, zero, suc, ◌+◌, ◌*◌, ◌/◌, ◌%◌, min, refl, sym, ap, ◌∙◌, arith}
use Rattle.std.proofs.Math.Nat.{div-eq_of_lt-le}
use Rattle.std.proofs.lemmas.Grind.{div_ceil_times}
use Rattle.figures.specs.Figures.{percent, utilisation}

one_more : (q n : ℕ) → (q + 1) * n ≡ q * n + n
one_more q n = grind arith

rounded_up : (a k : ℕ) → a / suc k + min 1 (a % suc k) ≡ (a + k) / suc k
rounded_up a k =
    let q = a / suc k + min 1 (a % suc k) in
    let h = div_ceil_times a (suc k) (omega arith) in
    sym (div-eq_of_lt-le (suc k) (omega (arith, h.1)) (omega (arith, h.0, one_more q (suc k))))

pub used_up : (b r q : ℕ) → (b ≡ 0 → ⊥) → q ≡ (100 * r) / b + min 1 ((100 * r) % b) → percent q ≡ utilisation b r
used_up zero r q some e = absurd (some refl)
used_up (suc k) r q some e = ap percent (e ∙ rounded_up (100 * r) k)
