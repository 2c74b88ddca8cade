-- The fields of a sheet's file: the header, the contract records and the scenario area. Assumes nothing.
use Rattle.std.specs.Prelude.{ℕ, ◌+◌, ◌*◌, cond, List, ℤ, ◌==◌}
use Rattle.layout.specs.Bytes.{u16_at, u32_at, i32_at}

-- the fields of the header
module _ (b : List ℕ) where
  abbrev pub kind : ℕ
  kind = u16_at b 0

  abbrev pub contracts : ℕ
  contracts = u16_at b 2

  abbrev pub scenarios : ℕ
  scenarios = u16_at b 4

  abbrev pub factors : ℕ
  factors = u16_at b 6

  abbrev pub contract_area : ℕ
  contract_area = u32_at b 8

  abbrev pub scenario_area : ℕ
  scenario_area = u32_at b 12

  abbrev pub stated_length : ℕ
  stated_length = u32_at b 16

  abbrev pub payoff : ℕ
  payoff = u32_at b 20

  -- the bytes of one contract record, and of the two areas; a sheet of strikes has an empty scenario area
  unfoldable pub record_bytes : ℕ
  record_bytes = 4 + 4 * factors

  unfoldable pub contract_bytes : ℕ
  contract_bytes = contracts * record_bytes

  unfoldable pub scenario_bytes : ℕ
  scenario_bytes = cond (kind == 1) (4 * (scenarios * factors)) (cond (kind == 2) (4 * (contracts * scenarios)) 0)

  -- the fields of contract record j
  unfoldable pub number : ℕ → ℕ
  number j = u16_at b (contract_area + record_bytes * j)

  unfoldable pub second : ℕ → ℕ
  second j = u16_at b (contract_area + record_bytes * j + 2)

  unfoldable pub exposure : ℕ → ℕ → ℤ
  exposure j f = i32_at b (contract_area + record_bytes * j + 4 + 4 * f)

  -- factor f's shock in scenario s, in ten-thousandths; contract j's shock in scenario s, in a sheet of series
  unfoldable pub factor_shock : ℕ → ℕ → ℤ
  factor_shock s f = i32_at b (scenario_area + 4 * (s * factors + f))

  unfoldable pub series_shock : ℕ → ℕ → ℤ
  series_shock j s = i32_at b (scenario_area + 4 * (j * scenarios + s))
