-- Decimal numbers in text. Assumes nothing.
use Rattle.std.specs.Prelude.{ℕ, ◌-◌, ◌^◌, min, cond, List, length, Some, None, Option, ◌==◌}
use Rattle.std.specs.Str.Parse.{digits_value}
use Rattle.std.specs.Str.{all_ascii_digits}

-- the number that digits write, the largest of 64 bits in place of a larger one; none where another byte stands
unfoldable pub digits_number : List ℕ → Option ℕ
digits_number w = cond (all_ascii_digits w) (Some (min (digits_value 10 w) (2 ^ 64 - 1))) None

-- the number that a word writes, which has a digit
abbrev pub decimal : List ℕ → Option ℕ
decimal w = cond (length w == 0) None (digits_number w)
