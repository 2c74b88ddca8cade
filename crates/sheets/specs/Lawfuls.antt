-- A table of one subportfolio, made of records, is lawful where its numbers keep their bounds.
use Rattle.std.specs.Prelude.{◌≡◌, ℕ, ◌<◌, ◌≤◌, false, cond, List, length, ℤ, pos, negsuc, ◌≤ℤ◌, Some, None, Option, ◌==◌, ◌≢◌, nat_lt, unsigned_abs}
use Rattle.std.proofs.Math.Path.{refl, ap, subst}
use Rattle.std.proofs.Common.{sym}
use native.Mathlib.Omega.{arith}
use Rattle.std.proofs.lemmas.List.{get_or_past}
use Rattle.std.proofs.lemmas.Int.{ints}
use Rattle.std.proofs.lemmas.Bool.{cond_both, cond-false, ne_eqb, le-ltb, true≢false}
use Rattle.scenario.specs.Table.{Lawful}
use Rattle.sheets.specs.Decoded.{rows_table, record_in}
use Rattle.sheets.specs.Sheets.{empty_table}

low : (x : ℤ) → unsigned_abs x ≤ 100000000 → negsuc 99999999 ≤ℤ x
low x h = omega (arith, ints)

high : (x : ℤ) → unsigned_abs x ≤ 100000000 → x ≤ℤ pos 100000000
high x h = omega (arith, ints)

module _ (row : ℕ → Option ℕ) (n : ℕ) (multiplier : ℕ → ℕ) (shock : ℕ → ℕ → ℤ) where
  place_of : Option ℕ → Option (ℕ × ℕ)
  place_of o = elim o [ Some j ↦ Some (0, multiplier j) | None ↦ None ]

  shock_of : Option ℕ → ℕ → ℤ
  shock_of o s = elim o [ Some j ↦ cond (nat_lt s n) (shock j s) (pos 0) | None ↦ pos 0 ]

  placed : (o : Option ℕ) (k m : ℕ) → place_of o ≡ Some (k, m) → ((j : ℕ) → multiplier j ≤ 10000) → (k ≡ 0) × (m ≤ 10000)
  unfolding place_of
  placed (Some j) k m e h =
      let a : 0 ≡ k = ap (λ (o : Option (ℕ × ℕ)). elim o [ Some p ↦ p.0 | None ↦ 1 ]) e in
      let b : multiplier j ≡ m = ap (λ (o : Option (ℕ × ℕ)). elim o [ Some p ↦ p.1 | None ↦ 0 ]) e in
      (sym a, subst (λ (x : ℕ). x ≤ 10000) b (h j))
  placed None k m e h = let z : ◌≡◌ {A = ℕ} 0 1 = cc in absurd (omega arith)

  unmoved_at : (o : Option ℕ) → ((j : ℕ) → shock j 0 ≡ pos 0) → shock_of o 0 ≡ pos 0
  unfolding shock_of
  unmoved_at (Some j) h = cond_both (nat_lt 0 n) (shock j 0) (pos 0) (λ z. z ≡ pos 0) (λ _. h j) (λ _. refl)
  unmoved_at None h = refl

  bounded_at : (o : Option ℕ) (s : ℕ) → ((j t : ℕ) → unsigned_abs (shock j t) ≤ 100000000) → unsigned_abs (shock_of o s) ≤ 100000000
  unfolding shock_of
  bounded_at (Some j) s h = cond_both (nat_lt s n) (shock j s) (pos 0) (λ z. unsigned_abs z ≤ 100000000) (λ _. h j s) (λ _. omega arith)
  bounded_at None s h = omega arith

  unknown_at : (o : Option ℕ) (s : ℕ) → place_of o ≡ None → shock_of o s ≡ pos 0
  unfolding place_of shock_of
  unknown_at (Some j) s e = let z : ◌≡◌ {A = ℕ} 0 1 = cc in absurd (omega arith)
  unknown_at None s e = refl

  missing_at : (o : Option ℕ) (s : ℕ) → n ≤ s → shock_of o s ≡ pos 0
  unfolding shock_of
  missing_at (Some j) s h = cond-false (nat_lt s n) (shock j s) (pos 0) (le-ltb s n h)
  missing_at None s h = refl

  pub rows_lawful : 1 ≤ n → n ≤ 64 → ((c : ℕ) → 256 ≤ c → row c ≡ None) → ((j : ℕ) → multiplier j ≤ 10000) → ((j : ℕ) → shock j 0 ≡ pos 0) → ((j s : ℕ) → unsigned_abs (shock j s) ≤ 100000000) → Lawful (rows_table row n multiplier shock)
  unfolding place_of shock_of
  rows_lawful some few known small unmoved bounded = record {
    some_subportfolio = omega arith;
    few_subportfolios = omega arith;
    some_scenario = λ k h. cond_both (k == 0) n 0 (λ x. 1 ≤ x) (λ _. some) (λ e. absurd (not_first k h e));
    few_scenarios = λ k. cond_both (k == 0) n 0 (λ x. x ≤ 64) (λ _. few) (λ _. omega arith);
    none_beyond = λ k h. cond-false (k == 0) n 0 (ne_eqb k 0 (λ e. omega arith));
    contracts_known = λ c h. ap place_of (known c h);
    placed_within = λ c k m e. let q = placed (row c) k m e small in omega (arith, q.0);
    multiplier_small = λ c k m e. (placed (row c) k m e small).1;
    unmoved = λ c. unmoved_at (row c) unmoved;
    shock_low = λ c s. low (shock_of (row c) s) (bounded_at (row c) s bounded);
    shock_high = λ c s. high (shock_of (row c) s) (bounded_at (row c) s bounded);
    unknown_still = λ c s e. unknown_at (row c) s e;
    missing_still = λ c k m s e h.
        let q = (placed (row c) k m e small).0 in
        missing_at (row c) s (subst (λ (x : ℕ). cond (x == 0) n 0 ≤ s) q h);
  }
    where
      not_first : (k : ℕ) → k < 1 → (k == 0) ≢ false
      not_first k h e = let z : k ≡ 0 = omega arith in true≢false (subst (λ (x : ℕ). (x == 0) ≡ false) z e)

-- a list of at most 256 records knows no contract from 256 on
pub records_known : (records : List (Option ℕ)) → length records ≤ 256 → (c : ℕ) → 256 ≤ c → record_in records c ≡ None
records_known records h c l = get_or_past records c None (omega arith)

pub empty_lawful : Lawful empty_table
empty_lawful = rows_lawful (λ c. None) 1 (λ j. 0) (λ j s. pos 0) (omega arith) (omega arith) (λ c h. refl) (λ j. omega arith) (λ j. refl) (λ j s. omega arith)
