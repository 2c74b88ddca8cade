-- The bounds of the shocks of an accepted file.
use Rattle.std.proofs.Common.{◌≡◌, ℕ, zero, suc, ◌+◌, ◌*◌, ◌<◌, ◌≤◌, cond, ◌&&◌, eqb, ltb, List, [], ◌∷◌, fold, map, take, ℤ, pos, negsuc, ◌+ℤ◌, ◌*ℤ◌, nat_abs, sym, refl, ap, ◌∙◌, add-one, arith, w64, SFits}
use lib.IntN.{*ℤ-zero}
use Rattle.std.proofs.lemmas.Nat.{mul-le}
use Rattle.std.proofs.lemmas.Int.{ints}
use Rattle.std.proofs.lemmas.Bool.{cond_both, cond-true, cond-false, eqb-true, eqb-false, ne_eqb, lt-ltb, and_from, and_parts, ltb-true}
use Rattle.std.specs.List.{range_with_len}
use Rattle.std.proofs.lemmas.List.Sums.{fold-append}
use Rattle.std.proofs.lemmas.List.FromFn.{map-range_with_len_more, length-map-range_with_len}
use Rattle.scenario.proofs.SignedSums.{small_fits, all_range}
use Rattle.rounding.specs.Rounding.{parts, nearest}
use Rattle.layout.specs.Fields.{kind, contracts, scenarios, factors, payoff, exposure, factor_shock, series_shock}
use Rattle.inspection.specs.Causes.{wrong_kind}
use Rattle.std.proofs.lemmas.Bool.Decides.{nat_tests}
use Rattle.inspection.proofs.Accepted.{Passes, few_factors, small_exposure, small_factor, small_series, small_payoff, unmoved_factor, unmoved_series}
use Rattle.sheets.specs.Sheets.{total_below, moved_by_factors, record_shock}
use Rattle.sheets.specs.Cells.{shock_cell}

abs_mul : (x y : ℤ) → nat_abs (x *ℤ y) ≡ nat_abs x * nat_abs y
abs_mul x y = grind (arith, ints)

-- an exposure times a factor's shock
pub part_small : (x y : ℤ) → nat_abs x ≤ 12500000 → nat_abs y ≤ 10000 → nat_abs (x *ℤ y) ≤ 125000000000
part_small x y h k = rw abs_mul (mul-le (nat_abs x) (nat_abs y) 12500000 10000 h k)

-- a chain's sum over the numbers below n is the total
pub total_folded : (g : ℕ → ℤ) (n : ℕ) → fold ◌+ℤ◌ (pos 0) (map g (range_with_len 0 n)) ≡ total_below n g
unfolding total_below
total_folded g zero = refl
total_folded g (suc n) =
    ap (λ k. fold ◌+ℤ◌ (pos 0) (map g (range_with_len 0 k))) (sym (add-one n))
    ∙ ap (fold ◌+ℤ◌ (pos 0)) (map-range_with_len_more g 0 n n (omega arith))
    ∙ fold-append ◌+ℤ◌ (pos 0) (map g (range_with_len 0 n)) (g n ∷ [])
    ∙ ap (λ (z : ℤ). z +ℤ g n) (total_folded g n)

-- what holds of each part up to a bound holds of the total
total_small : (g : ℕ → ℤ) (m n : ℕ) → ((f : ℕ) → f < n → nat_abs (g f) ≤ m) → nat_abs (total_below n g) ≤ m * n
unfolding total_below
total_small g m zero h = omega arith
total_small g m (suc n) h =
    let a = total_small g m n (λ f l. h f (omega arith)) in
    let last = h n (omega arith) in
    omega (arith, ints)

total_zero : (g : ℕ → ℤ) (n : ℕ) → ((f : ℕ) → f < n → g f ≡ pos 0) → total_below n g ≡ pos 0
unfolding total_below
total_zero g zero h = refl
total_zero g (suc n) h =
    let before = total_zero g n (λ f l. h f (omega arith)) in
    let last = h n (omega arith) in
    omega (arith, ints)

-- to the nearest, a total within 10 ^ 12 is within 10 ^ 8
pub nearest_small : (z : ℤ) → nat_abs z ≤ 1000000000000 → nat_abs (nearest parts z) ≤ 100000000
nearest_small (pos n) h = omega arith
nearest_small (negsuc n) h = omega (arith, ints)

module _ (b : List ℕ) (p : Passes b) where
  pub total_within : kind b ≡ 1 → (j s : ℕ) → j < contracts b → s < scenarios b → nat_abs (moved_by_factors b j s) ≤ 1000000000000
  unfolding moved_by_factors
  total_within e j s l m =
      let few = few_factors b p e in
      let t = total_small (λ f. exposure b j f *ℤ factor_shock b s f) 125000000000 (factors b) (λ f h. part_small (exposure b j f) (factor_shock b s f) (small_exposure b p e j f l h) (small_factor b p e s f m h)) in
      omega arith

  -- and each sum on the way to it fits
  pub parts_fit : kind b ≡ 1 → (j s : ℕ) → j < contracts b → s < scenarios b → (k : ℕ) → SFits w64 (fold ◌+ℤ◌ (pos 0) (take k (map (λ f. exposure b j f *ℤ factor_shock b s f) (range_with_len 0 (factors b)))))
  parts_fit e j s l m =
      let g : ℕ → ℤ = λ f. exposure b j f *ℤ factor_shock b s f in
      let few = few_factors b p e in
      let long = length-map-range_with_len g 0 (factors b) in
      small_fits 125000000000 (map g (range_with_len 0 (factors b))) (all_range (λ z. nat_abs z ≤ 125000000000) g 0 (factors b) (λ f _ h. part_small (exposure b j f) (factor_shock b s f) (small_exposure b p e j f l (omega arith)) (small_factor b p e s f m (omega arith)))) (omega arith)

  -- a sheet of no other kind is one of strikes
  pub strikes : (kind b ≡ 1 → ⊥) → (kind b ≡ 2 → ⊥) → kind b ≡ 3
  unfolding wrong_kind
  strikes e f = let h = p.kind in grind (arith, nat_tests)

  -- what holds of the shock in each kind of sheet
  by_kind : (P : ℤ → Type 0) (j s : ℕ) → (kind b ≡ 1 → P (nearest parts (moved_by_factors b j s))) → (kind b ≡ 2 → P (series_shock b j s)) → (kind b ≡ 3 → P (cond (eqb s (j + 1)) (pos (payoff b)) (pos 0))) → P (record_shock b j s)
  unfolding record_shock
  by_kind P j s one two three =
      cond_both (eqb (kind b) 1) _ _ P (λ e. one (eqb-true _ _ e))
      (λ e. cond_both (eqb (kind b) 2) _ _ P (λ f. two (eqb-true _ _ f)) (λ f. three (strikes (eqb-false _ _ e) (eqb-false _ _ f))))

  pub shock_small : (j s : ℕ) → j < contracts b → s < scenarios b → nat_abs (record_shock b j s) ≤ 100000000
  shock_small j s l m =
      by_kind (λ z. nat_abs z ≤ 100000000) j s
      (λ e. nearest_small (moved_by_factors b j s) (total_within e j s l m))
      (λ e. small_series b p e j s l m)
      (λ e. cond_both (eqb s (j + 1)) _ _ (λ z. nat_abs z ≤ 100000000) (λ _. small_payoff b p e) (λ _. omega arith))

  pub shock_unmoved : (j : ℕ) → j < contracts b → record_shock b j 0 ≡ pos 0
  unfolding moved_by_factors
  shock_unmoved j l =
      by_kind (λ z. z ≡ pos 0) j 0
      (λ e. ap (nearest parts) (total_zero (λ f. exposure b j f *ℤ factor_shock b 0 f) (factors b) (λ f h. ap (λ (z : ℤ). exposure b j f *ℤ z) (unmoved_factor b p e f h) ∙ *ℤ-zero (exposure b j f))))
      (λ e. unmoved_series b p e j l)
      (λ e. cond-false (eqb 0 (j + 1)) _ _ (ne_eqb 0 (j + 1) (λ q. omega arith)))

  pub strike_shock : kind b ≡ 3 → (j s : ℕ) → record_shock b j s ≡ cond (eqb s (j + 1)) (pos (payoff b)) (pos 0)
  unfolding record_shock
  strike_shock e j s = cond-false _ _ _ (ne_eqb (kind b) 1 (λ q. omega arith)) ∙ cond-false _ _ _ (ne_eqb (kind b) 2 (λ q. omega arith))

  pub cell_small : (j s : ℕ) → nat_abs (shock_cell b j s) ≤ 100000000
  unfolding shock_cell
  cell_small j s =
      cond_both (ltb j (contracts b) && ltb s (scenarios b)) _ _ (λ z. nat_abs z ≤ 100000000)
      (λ e. let q = and_parts _ _ e in shock_small j s (ltb-true _ _ q.0) (ltb-true _ _ q.1))
      (λ _. omega arith)

  pub cell_unmoved : (j : ℕ) → shock_cell b j 0 ≡ pos 0
  unfolding shock_cell
  cell_unmoved j =
      cond_both (ltb j (contracts b) && ltb 0 (scenarios b)) _ _ (λ z. z ≡ pos 0)
      (λ e. shock_unmoved j (ltb-true _ _ (and_parts _ _ e).0))
      (λ _. refl)

  pub cell_is : (j s : ℕ) → j < contracts b → s < scenarios b → shock_cell b j s ≡ record_shock b j s
  unfolding shock_cell
  cell_is j s l m = cond-true _ _ _ (and_from _ _ (lt-ltb j (contracts b) l) (lt-ltb s (scenarios b) m))
