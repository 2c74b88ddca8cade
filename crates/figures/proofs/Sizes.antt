-- The size of a product of integers, and how the code's 64 bits hold it.
use Rattle.std.proofs.Common.{◌≡◌, ℕ, zero, suc, ◌+◌, ◌*◌, ◌≤◌, ℤ, pos, negsuc, ◌+ℤ◌, ◌-ℤ◌, ◌*ℤ◌, neg_ℤ, nat_abs, ◌≤ℤ◌, sym, refl, subst, mul-le-mul, mul-one, mul-add, arith, w32, w64, SFits, to_z, of_z}
use Rattle.std.proofs.lemmas.Int.{ints}

nat_abs_neg : (n : ℕ) → nat_abs (neg_ℤ (pos n)) ≡ n
nat_abs_neg zero = refl
nat_abs_neg (suc n) = refl

pub nat_abs_mul : (a b : ℤ) → nat_abs (a *ℤ b) ≡ nat_abs a * nat_abs b
nat_abs_mul (pos a) (pos b) = refl
nat_abs_mul (pos a) (negsuc b) = nat_abs_neg (a * suc b)
nat_abs_mul (negsuc a) (pos b) = nat_abs_neg (suc a * b)
nat_abs_mul (negsuc a) (negsuc b) = refl

pub product_within : (a b : ℤ) (m n : ℕ) → nat_abs a ≤ m → nat_abs b ≤ n → nat_abs (a *ℤ b) ≤ m * n
product_within a b m n h k = subst (λ (x : ℕ). x ≤ m * n) (sym (nat_abs_mul a b)) (mul-le-mul h k)

pub kept64 : (z : ℤ) → nat_abs z ≤ 1000000000000000000 → to_z w64 (of_z w64 z) ≡ z
kept64 z h = omega (arith, ints)

pub product_64 : (a b : ℤ) → nat_abs a ≤ 1000000000000 → nat_abs b ≤ 1000000000000 → to_z w64 (of_z w64 a) *ℤ to_z w64 (of_z w64 b) ≡ a *ℤ b
product_64 a b h k = λ i. kept64 a (omega arith) i *ℤ kept64 b (omega arith) i

-- a bound either way
pub low_high : (z : ℤ) (n : ℕ) → neg_ℤ (pos n) ≤ℤ z → z ≤ℤ pos n → nat_abs z ≤ n
low_high z n h k = omega (arith, ints)

pub apart : (a b : ℕ) → a ≤ 100000 → b ≤ 100000 → nat_abs (pos a -ℤ pos b) ≤ 100000
apart a b h k = omega (arith, ints)

pub same32 : (z : ℤ) → nat_abs z ≤ 10000 → to_z w32 (of_z w32 z) ≡ z
same32 z h = omega (arith, ints)

-- a sum as the code has it
added_is : (b v : ℤ) → nat_abs b ≤ 4000000000000000000 → nat_abs v ≤ 4000000000000000000 → to_z w64 (of_z w64 (b +ℤ to_z w64 (of_z w64 v))) ≡ b +ℤ v
added_is b v h k = omega (arith, ints)

pub sum_small : (b v : ℤ) (m n : ℕ) → nat_abs b ≤ m → nat_abs v ≤ n → nat_abs (b +ℤ v) ≤ m + n
sum_small b v m n h k = omega (arith, ints)

-- b is the sum so far, as its bits say it, and s its name
pub added : {b s : ℤ} (v : ℤ) {m n : ℕ} → b ≡ s → nat_abs b ≤ m → nat_abs v ≤ n → m ≤ 4000000000000000000 → n ≤ 4000000000000000000 → to_z w64 (of_z w64 (b +ℤ to_z w64 (of_z w64 v))) ≡ b +ℤ v
added {b} {s} v {m} {n} e h k u w = added_is b v (omega arith) (omega arith)

pub added_small : {b s : ℤ} (v : ℤ) {m n : ℕ} → b ≡ s → nat_abs b ≤ m → nat_abs v ≤ n → m ≤ 4000000000000000000 → n ≤ 4000000000000000000 → nat_abs (to_z w64 (of_z w64 (b +ℤ to_z w64 (of_z w64 v)))) ≤ m + n
added_small {b} {s} v {m} {n} e h k u w = rw (added {b = b} v e h k u w) (sum_small b v m n h k)

added_fits_is : (b v : ℤ) → nat_abs b ≤ 4000000000000000000 → nat_abs v ≤ 4000000000000000000 → SFits w64 (b +ℤ to_z w64 (of_z w64 v))
added_fits_is b v h k = omega (arith, ints)

pub added_fits : {b s : ℤ} (v : ℤ) {m n : ℕ} → b ≡ s → nat_abs b ≤ m → nat_abs v ≤ n → m ≤ 4000000000000000000 → n ≤ 4000000000000000000 → SFits w64 (b +ℤ to_z w64 (of_z w64 v))
added_fits {b} {s} v {m} {n} e h k u w = added_fits_is b v (omega arith) (omega arith)

-- a sum of two results, as the code has it
pub both_kept : (a b : ℤ) → nat_abs a ≤ 4000000000000000000 → nat_abs b ≤ 4000000000000000000 → to_z w64 (of_z w64 (to_z w64 (of_z w64 a) +ℤ to_z w64 (of_z w64 b))) ≡ a +ℤ b
both_kept a b h k = omega (arith, ints)

pub most_more : (m i : ℕ) → m * i + m ≤ m * (i + 1)
most_more m i = omega (arith, mul-add m i 1, mul-one m)

pub less_kept : (a b : ℤ) → nat_abs a ≤ 10240000000000000 → nat_abs b ≤ 10240000000000000 → to_z w64 (of_z w64 (to_z w64 (of_z w64 a) -ℤ to_z w64 (of_z w64 b))) ≡ a -ℤ b
less_kept a b h k = omega (arith, ints)

pub beyond_small : (a b o r : ℤ) → nat_abs a ≤ 10240000000000000 → nat_abs b ≤ 10240000000000000 → nat_abs o ≤ 10240000000000000 → nat_abs r ≤ nat_abs (to_z w64 (of_z w64 (to_z w64 (of_z w64 a) -ℤ to_z w64 (of_z w64 b)))) + nat_abs (to_z w64 (of_z w64 o)) → nat_abs r ≤ 1000000000000000000
beyond_small a b o r h k l u =
    let v = rw (less_kept a b h k, kept64 o (omega arith)) at u in
    omega (arith, ints)
