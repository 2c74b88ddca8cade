-- The scenario table that an accepted file means. Assumes nothing.
use Rattle.std.specs.Prelude.{ℕ, zero, suc, ◌+◌, cond, List, ℤ, pos, ◌+ℤ◌, ◌*ℤ◌, Some, None, Option, ◌==◌, nat_lt}
use Rattle.scenario.specs.Table.{ScenarioTable}
use Rattle.layout.specs.Fields.{kind, contracts, scenarios, factors, payoff, number, second, exposure, factor_shock, series_shock}
use Rattle.rounding.specs.Rounding.{parts, nearest}

-- the sum over the numbers below n
unfoldable pub total_below : ℕ → (ℕ → ℤ) → ℤ
total_below zero f = pos 0
total_below (suc n) f = total_below n f +ℤ f n

-- the first record below n with a number, if one has it
unfoldable pub find : List ℕ → ℕ → ℕ → Option ℕ
find b c zero = None
find b c (suc n) = elim (find b c n) [ Some j ↦ Some j | None ↦ cond (number b n == c) (Some n) None ]

module _ (b : List ℕ) where
  -- the exposures of record j times the factors' shocks in scenario s
  unfoldable pub moved_by_factors : ℕ → ℕ → ℤ
  moved_by_factors j s = total_below (factors b) (λ f. exposure b j f *ℤ factor_shock b s f)

  -- the gain of one bought contract of record j in scenario s
  unfoldable pub record_shock : ℕ → ℕ → ℤ
  record_shock j s =
      cond (kind b == 1) (nearest parts (moved_by_factors j s))
      (cond (kind b == 2) (series_shock b j s)
      (cond (s == j + 1) (pos (payoff b)) (pos 0)))

  -- what an accepted file means
  unfoldable pub sheet_table : ScenarioTable
  sheet_table = record {
    subportfolios = 1;
    scenarios = λ k. cond (k == 0) (scenarios b) 0;
    place = λ c. elim (find b c (contracts b)) [ Some j ↦ Some (0, cond (kind b == 1) (second b j) 0) | None ↦ None ];
    shock = λ c s. elim (find b c (contracts b)) [ Some j ↦ cond (nat_lt s (scenarios b)) (record_shock j s) (pos 0) | None ↦ pos 0 ];
  }

-- the empty sheet knows no contract
abbrev pub empty_table : ScenarioTable
empty_table = record { subportfolios = 1; scenarios = λ k. cond (k == 0) 1 0; place = λ c. None; shock = λ c s. pos 0 }
