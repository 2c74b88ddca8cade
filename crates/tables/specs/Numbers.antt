-- Signed numbers in text. Assumes nothing.
use Rattle.std.specs.Prelude.{ℕ, ◌^◌, cond, List, [], ◌∷◌, ◌++◌, drop, ℤ, pos, negsuc, neg_ℤ, Some, None, Option, ◌==◌, nat_lt, slice_index}
use Rattle.console.specs.Numbers.{decimal}

-- a number that fits 63 bits
abbrev pub fitting : Option ℕ → Option ℤ
fitting None = None
fitting (Some n) = cond (nat_lt n (2 ^ 63)) (Some (pos n)) None

abbrev pub negated : Option ℤ → Option ℤ
negated None = None
negated (Some z) = Some (neg_ℤ z)

-- the number that a word of digits writes
abbrev pub whole_in : List ℕ → Option ℤ
whole_in w = fitting (decimal w)

-- the number that a word writes, where the sign - stands before the digits of one below 0
abbrev pub signed_in : List ℕ → Option ℤ
signed_in w = cond (slice_index w 0 == 45) (negated (whole_in (drop 1 w))) (whole_in w)

abbrev pub before : Option ℤ → Option (List ℤ) → Option (List ℤ)
before None zs = None
before (Some z) None = None
before (Some z) (Some zs) = Some (z ∷ zs)

-- the numbers that words write, where each writes one
abbrev pub all_signed : List (List ℕ) → Option (List ℤ)
all_signed [] = Some []
all_signed (w ∷ ws) = before (signed_in w) (all_signed ws)

-- numbers that were read before others
abbrev pub after : List ℤ → Option (List ℤ) → Option (List ℤ)
after xs None = None
after xs (Some ys) = Some (xs ++ ys)

-- a number of 0 to b - 1
abbrev pub below : ℕ → ℤ → Option ℕ
below b (pos n) = cond (nat_lt n b) (Some n) None
below b (negsuc n) = None
