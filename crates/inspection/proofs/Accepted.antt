-- What is known of a file that no cause refuses.
use Rattle.std.proofs.Common.{◌≡◌, ℕ, ◌+◌, ◌<◌, ◌≤◌, true, false, not, leb, List, ℤ, pos, nat_abs, is_some, None, sym, ap, arith}
use Rattle.std.proofs.lemmas.Int.{ints}
use Rattle.std.proofs.lemmas.Bool.Decides.{nat_tests}
use Rattle.std.proofs.lemmas.Bool.{and_parts, leb-true}
use Rattle.layout.specs.Fields.{kind, contracts, scenarios, factors, payoff, number, second, exposure, factor_shock, series_shock}
use Rattle.inspection.specs.Tests.{every, within}
use Rattle.inspection.specs.Causes.{wrong_kind, right_counts, right_numbers, right_record, factors_within, series_within, right_fields, unmoved_first, sheet_cause, accepted}
use Rattle.inspection.proofs.Everies.{every_at}

pub accepted_from_none : (b : List ℕ) → None ≡ sheet_cause b → accepted b ≡ true
unfolding accepted
accepted_from_none b e = ap (λ o. not (is_some o)) (sym e)

-- the causes, one by one
pub record Passes (b : List ℕ) : Type 0 where
  pub kind : wrong_kind b ≡ false
  pub counts : right_counts b ≡ true
  pub numbers : right_numbers b ≡ true
  pub fields : right_fields b ≡ true
  pub first : unmoved_first b ≡ true

pub passes : (b : List ℕ) → accepted b ≡ true → Passes b
unfolding accepted sheet_cause
passes b e = record {
  kind = grind arith;
  counts = grind arith;
  numbers = grind arith;
  fields = grind arith;
  first = grind arith;
}

size_within : (n : ℕ) (x : ℤ) → within n x ≡ true → nat_abs x ≤ n
unfolding within
size_within n x h = grind (arith, ints, nat_tests)

no_size : (x : ℤ) → nat_abs x ≤ 0 → x ≡ pos 0
no_size x h = omega (arith, ints)

module _ (b : List ℕ) (p : Passes b) where
  pub some_contract : 1 ≤ contracts b
  unfolding right_counts
  some_contract = let h = p.counts in grind (arith, nat_tests)

  pub few_contracts : contracts b ≤ 64
  unfolding right_counts
  few_contracts = let h = p.counts in grind (arith, nat_tests)

  pub some_scenario : 1 ≤ scenarios b
  unfolding right_counts
  some_scenario = let h = p.counts in grind (arith, nat_tests)

  pub few_scenarios : scenarios b ≤ 64
  unfolding right_counts
  few_scenarios = let h = p.counts in grind (arith, nat_tests)

  pub few_factors : kind b ≡ 1 → factors b ≤ 8
  unfolding right_counts
  few_factors e = let h = p.counts in grind (arith, nat_tests)

  pub strike_scenarios : kind b ≡ 3 → scenarios b ≡ contracts b + 1
  unfolding right_counts
  strike_scenarios e = let h = p.counts in grind (arith, nat_tests)

  pub few_strikes : kind b ≡ 3 → contracts b ≤ 63
  unfolding right_counts
  few_strikes e = let h = p.counts in grind (arith, nat_tests)

  pub small_number : (j : ℕ) → j < contracts b → number b j ≤ 255
  unfolding right_numbers
  small_number j l = leb-true _ _ (every_at (λ i. leb (number b i) 255) _ (and_parts _ _ p.numbers).0 j l)

  factor_fields : kind b ≡ 1 → (every (contracts b) (right_record b) ≡ true) × (every (scenarios b) (factors_within b 10000) ≡ true)
  unfolding right_fields
  factor_fields e =
      let h = p.fields in
      let r : every (contracts b) (right_record b) ≡ true = grind (arith, nat_tests) in
      let t : every (scenarios b) (factors_within b 10000) ≡ true = grind (arith, nat_tests) in
      (r, t)

  pub small_multiplier : kind b ≡ 1 → (j : ℕ) → j < contracts b → second b j ≤ 10000
  unfolding right_record
  small_multiplier e j l = leb-true _ _ (and_parts _ _ (every_at (right_record b) _ (factor_fields e).0 j l)).0

  pub small_exposure : kind b ≡ 1 → (j f : ℕ) → j < contracts b → f < factors b → nat_abs (exposure b j f) ≤ 12500000
  unfolding right_record
  small_exposure e j f l m =
      size_within 12500000 _ (every_at (λ g. within 12500000 (exposure b j g)) _ (and_parts _ _ (every_at (right_record b) _ (factor_fields e).0 j l)).1 f m)

  pub small_factor : kind b ≡ 1 → (s f : ℕ) → s < scenarios b → f < factors b → nat_abs (factor_shock b s f) ≤ 10000
  unfolding factors_within
  small_factor e s f l m = size_within 10000 _ (every_at (λ g. within 10000 (factor_shock b s g)) _ (every_at (factors_within b 10000) _ (factor_fields e).1 s l) f m)

  pub small_series : kind b ≡ 2 → (j s : ℕ) → j < contracts b → s < scenarios b → nat_abs (series_shock b j s) ≤ 100000000
  unfolding right_fields series_within
  small_series e j s l m =
      let h : every (contracts b) (series_within b 100000000) ≡ true = let q = p.fields in grind (arith, nat_tests) in
      size_within 100000000 _ (every_at (λ t. within 100000000 (series_shock b j t)) _ (every_at (series_within b 100000000) _ h j l) s m)

  pub small_payoff : kind b ≡ 3 → payoff b ≤ 100000000
  unfolding right_fields
  small_payoff e = let h = p.fields in grind (arith, nat_tests)

  pub unmoved_factor : kind b ≡ 1 → (f : ℕ) → f < factors b → factor_shock b 0 f ≡ pos 0
  unfolding unmoved_first factors_within
  unmoved_factor e f l =
      let h : every (factors b) (λ g. within 0 (factor_shock b 0 g)) ≡ true = let q = p.first in grind (arith, nat_tests) in
      no_size _ (size_within 0 _ (every_at (λ g. within 0 (factor_shock b 0 g)) _ h f l))

  pub unmoved_series : kind b ≡ 2 → (j : ℕ) → j < contracts b → series_shock b j 0 ≡ pos 0
  unfolding unmoved_first
  unmoved_series e j l =
      let h : every (contracts b) (λ i. within 0 (series_shock b i 0)) ≡ true = let q = p.first in grind (arith, nat_tests) in
      no_size _ (size_within 0 _ (every_at (λ i. within 0 (series_shock b i 0)) _ h j l))
