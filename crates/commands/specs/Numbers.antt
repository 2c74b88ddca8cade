-- Decimal numbers of 64 bits in text. Assumes nothing.
use Rattle.std.specs.Prelude.{ℕ, ◌+◌, ◌^◌, cond, ◌&&◌, List, length, drop, ℤ, pos, neg_ℤ, Option, ◌==◌, nat_lt, Some, None, slice_index}
use Rattle.std.specs.Option.{option_map}
use Rattle.std.specs.Str.Parse.{digits_value}
use Rattle.std.specs.Str.{all_ascii_digits}

-- the number below a limit that one or more digits write; none for another word
unfoldable pub numeral : ℕ → List ℕ → Option ℕ
numeral limit w = cond ((all_ascii_digits w && nat_lt 0 (length w)) && nat_lt (digits_value 10 w) limit) (Some (digits_value 10 w)) None

-- a number of 64 bits, written by digits alone
abbrev pub whole : List ℕ → Option ℕ
whole w = numeral (2 ^ 64) w

-- an amount of 64 bits: a minus may stand before its digits
abbrev pub amount : List ℕ → Option ℤ
amount w = cond (slice_index w 0 == 45) (option_map (λ n. neg_ℤ (pos n)) (numeral (2 ^ 63 + 1) (drop 1 w))) (option_map (λ n. pos n) (numeral (2 ^ 63) w))
