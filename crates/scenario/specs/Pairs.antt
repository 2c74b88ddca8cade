-- Two scenario tables as one: the second's subportfolios follow the first's. Assumes nothing.
use Rattle.std.specs.Prelude.{ℕ, ◌+◌, ◌-◌, min, cond, ℤ, pos, Some, None, Option, nat_lt}
use Rattle.scenario.specs.Table.{ScenarioTable}

-- there are at most eight, and a contract placed beyond is unknown
abbrev pub most : ℕ
most = 8

-- a place of the second, where n subportfolios come before it: none where it lies beyond
abbrev pub moved : ℕ → Option (ℕ × ℕ) → Option (ℕ × ℕ)
moved n (Some p) = cond (nat_lt (n + p.0) most) (Some (n + p.0, p.1)) None
moved n None = None

-- a shock of the second, where n subportfolios come before it: none where its contract lies beyond
abbrev pub moved_shock : ℕ → Option (ℕ × ℕ) → ℤ → ℤ
moved_shock n (Some p) x = cond (nat_lt (n + p.0) most) x (pos 0)
moved_shock n None x = pos 0

-- a contract known to both is the first's
abbrev pub first_place : Option (ℕ × ℕ) → Option (ℕ × ℕ) → Option (ℕ × ℕ)
first_place (Some p) q = Some p
first_place None q = q

-- the shock x where the first knows the contract, else y
abbrev pub first_shock : Option (ℕ × ℕ) → ℤ → ℤ → ℤ
first_shock (Some p) x y = x
first_shock None x y = y

abbrev pub pair_table : ScenarioTable → ScenarioTable → ScenarioTable
pair_table a b = record {
  subportfolios = min most (a.subportfolios + b.subportfolios);
  scenarios = λ k. cond (nat_lt k most) (cond (nat_lt k a.subportfolios) (a.scenarios k) (b.scenarios (k - a.subportfolios))) 0;
  place = λ c. first_place (a.place c) (moved a.subportfolios (b.place c));
  shock = λ c s. first_shock (a.place c) (a.shock c s) (moved_shock a.subportfolios (b.place c) (b.shock c s));
}
