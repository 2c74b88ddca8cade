-- The sum of the scenarios: one subportfolio more, and its bounds.
use Rattle.std.proofs.Common.{◌≡◌, ℕ, zero, suc, ◌+◌, ◌*◌, ◌≤◌, map, sum, refl, ap, sym, ◌∙◌, add-one, arith}
use Rattle.std.specs.List.{range_with_len}
use Rattle.std.proofs.lemmas.List.FromFn.{sum_by-map-range_with_len_more}
use Rattle.scenario.specs.Table.{ScenarioTable, Lawful}
use Rattle.scenario.specs.Counts.{sum_below, all_scenarios}

-- the sum of what f gives of 0 to n - 1
pub sum_range : (f : ℕ → ℕ) (n : ℕ) → sum (map f (range_with_len 0 n)) ≡ sum_below f n
sum_range f zero = refl
sum_range f (suc n) = ap (λ k. sum (map f (range_with_len 0 k))) (sym (add-one n)) ∙ sum_by-map-range_with_len_more (λ x. x) f 0 n n (omega arith) ∙ ap (λ k. k + f n) (sum_range f n)

module _ (t : ScenarioTable) (lawful : Lawful t) where
  -- no subportfolio below n takes the sum past 64 n
  pub scenarios_few : (n : ℕ) → sum_below t.scenarios n ≤ 64 * n
  scenarios_few zero = omega arith
  scenarios_few (suc n) = omega (arith, scenarios_few n, lawful.few_scenarios n)

  pub all_few : all_scenarios t ≤ 512
  all_few = omega (arith, scenarios_few t.subportfolios, lawful.few_subportfolios)

  -- the last subportfolio has one
  last_some : (n : ℕ) → n ≤ t.subportfolios → 1 ≤ n → 1 ≤ sum_below t.scenarios n
  last_some zero h l = l
  last_some (suc n) h l = omega (arith, lawful.some_scenario n h)

  pub all_some : 1 ≤ all_scenarios t
  all_some = last_some t.subportfolios (omega arith) lawful.some_subportfolio
