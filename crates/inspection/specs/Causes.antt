-- What a sheet's file must hold, and why one is refused. Assumes nothing.
use Rattle.std.specs.Prelude.{ℕ, ◌+◌, ◌-◌, Bool, true, cond, not, ◌&&◌, ◌||◌, ltb, leb, List, length, is_some, Some, None, Option, ◌==◌, nat_eq, nat_le, nat_lt}
use Rattle.layout.specs.Fields.{kind, contracts, scenarios, factors, contract_area, scenario_area, stated_length, payoff, contract_bytes, scenario_bytes, number, second, exposure, factor_shock, series_shock}
use Rattle.inspection.specs.Tests.{every, within, between}

module _ (b : List ℕ) where
  unfoldable pub wrong_length : Bool
  wrong_length = nat_lt (length b) 24 || nat_lt 65536 (length b) || not (stated_length b == length b)

  unfoldable pub wrong_kind : Bool
  wrong_kind = not (between 1 3 (kind b))

  unfoldable pub right_counts : Bool
  right_counts =
      cond (kind b == 1) (between 1 64 (contracts b) && between 1 64 (scenarios b) && between 1 8 (factors b))
      (cond (kind b == 2) (between 1 64 (contracts b) && between 1 64 (scenarios b) && factors b == 0)
      (between 1 63 (contracts b) && scenarios b == contracts b + 1 && factors b == 0))

  -- an area without bytes overlaps nothing
  unfoldable pub overlap : Bool
  overlap =
      nat_lt 0 (contract_bytes b) && nat_lt 0 (scenario_bytes b)
      && nat_lt (contract_area b) (scenario_area b + scenario_bytes b)
      && nat_lt (scenario_area b) (contract_area b + contract_bytes b)

  unfoldable pub wrong_area : Bool
  wrong_area =
      nat_lt (contract_area b) 24 || nat_lt (length b) (contract_area b + contract_bytes b)
      || nat_lt (scenario_area b) 24 || nat_lt (length b) (scenario_area b + scenario_bytes b)
      || overlap

  unfoldable pub right_numbers : Bool
  right_numbers =
      every (contracts b) (λ j. leb (number b j) 255)
      && every (contracts b - 1) (λ j. ltb (number b j) (number b (j + 1)))

  -- the fields of a sheet of factors: its contract records, and the rows of its scenarios
  unfoldable pub right_record : ℕ → Bool
  right_record j = nat_le (second b j) 10000 && every (factors b) (λ f. within 12500000 (exposure b j f))

  unfoldable pub factors_within : ℕ → ℕ → Bool
  factors_within n s = every (factors b) (λ f. within n (factor_shock b s f))

  -- the row of contract record j in a sheet of series
  unfoldable pub series_within : ℕ → ℕ → Bool
  series_within n j = every (scenarios b) (λ s. within n (series_shock b j s))

  unfoldable pub right_fields : Bool
  right_fields =
      cond (kind b == 3) (between 1 100000000 (payoff b)) (payoff b == 0)
      && cond (kind b == 1)
      (every (contracts b) right_record && every (scenarios b) (factors_within 10000))
      (every (contracts b) (λ j. nat_eq (second b j) 0) && cond (kind b == 2) (every (contracts b) (series_within 100000000)) true)

  unfoldable pub unmoved_first : Bool
  unmoved_first =
      cond (kind b == 1) (factors_within 0 0)
      (cond (kind b == 2) (every (contracts b) (λ j. within 0 (series_shock b j 0))) true)

  -- why a file is refused, or that it is not: the first that holds counts
  unfoldable pub sheet_cause : Option ℕ
  sheet_cause =
      cond wrong_length (Some 1)
      (cond wrong_kind (Some 2)
      (cond (not right_counts) (Some 3)
      (cond wrong_area (Some 4)
      (cond (not right_numbers) (Some 5)
      (cond (not right_fields) (Some 6)
      (cond (not unmoved_first) (Some 7) None))))))

  -- whether no cause holds
  unfoldable pub accepted : Bool
  accepted = not (is_some sheet_cause)
