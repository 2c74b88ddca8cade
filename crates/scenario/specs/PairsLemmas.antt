-- The pair of two lawful tables is lawful.
use Rattle.std.specs.Prelude.{◌≡◌, ℕ, ◌+◌, ◌-◌, ◌<◌, ◌≤◌, ◌⊎◌, ℤ, pos, negsuc, ◌≤ℤ◌, Some, None, Option, Bool, true, false, cond, is_some, nat_lt, refl}
use Rattle.std.proofs.Common.{sym, ◌∙◌, ap, inl, inr, arith}
use Rattle.std.proofs.lemmas.Int.{ints}
use Rattle.std.proofs.lemmas.Bool.{cond_both, cond-true, cond-false, lt-ltb, le-ltb, cases_lt, true≢false, ltb-true, ltb-false}
use Rattle.scenario.specs.Table.{ScenarioTable, Lawful}
use Rattle.scenario.specs.Pairs.{moved, moved_shock, first_place, first_shock, pair_table}

-- a moved place was the second's, n before it
pub moved_from : (n : ℕ) (q : Option (ℕ × ℕ)) (k m : ℕ) → moved n q ≡ Some (k, m) → (j : ℕ) × (q ≡ Some (j, m)) × (k ≡ n + j) × (k < 8)
moved_from n (Some x) k m e =
    elim (cases_lt (n + x.0) 8) [
      | inl h ↦ let f : ◌≡◌ {A = Option (ℕ × ℕ)} (Some (n + x.0, x.1)) (Some (k, m)) = sym (cond-true _ _ _ (lt-ltb (n + x.0) 8 h)) ∙ e in
          let same : ◌≡◌ {A = ℕ × ℕ} (n + x.0, x.1) (k, m) = cc in
          let f0 : n + x.0 ≡ k = ap (λ (p : ℕ × ℕ). p.0) same in
          let f1 : x.1 ≡ m = ap (λ (p : ℕ × ℕ). p.1) same in
          (x.0, ap (λ (y : ℕ). Some (x.0, y)) f1, sym f0, omega arith)
      | inr h ↦ let f : ◌≡◌ {A = Option (ℕ × ℕ)} None (Some (k, m)) = sym (cond-false _ _ _ (le-ltb (n + x.0) 8 h)) ∙ e in
          let z : ◌≡◌ {A = ℕ} 0 1 = cc in absurd (omega arith)
    ]
moved_from n None k m e = let z : ◌≡◌ {A = ℕ} 0 1 = cc in absurd (omega arith)

-- where the moved place is none, so is the moved shock
moved_none : (n : ℕ) (q : Option (ℕ × ℕ)) (x : ℤ) → moved n q ≡ None → moved_shock n q x ≡ pos 0
moved_none n (Some p) x e =
    elim (cases_lt (n + p.0) 8) [
      | inl h ↦ let f : ◌≡◌ {A = Option (ℕ × ℕ)} (Some (n + p.0, p.1)) None = sym (cond-true _ _ _ (lt-ltb (n + p.0) 8 h)) ∙ e in
          let z : ◌≡◌ {A = ℕ} 0 1 = cc in absurd (omega arith)
      | inr h ↦ cond-false _ _ _ (le-ltb (n + p.0) 8 h)
    ]
moved_none n None x e = refl

-- where the moved place is there, the shock is not changed
pub moved_some : (n : ℕ) (q : Option (ℕ × ℕ)) (x : ℤ) → is_some (moved n q) ≡ true → x ≡ moved_shock n q x
moved_some n (Some p) x e = at (nat_lt (n + p.0) 8) e
  where
    at : (t : Bool) → is_some {T = ℕ × ℕ} (cond t (Some (n + p.0, p.1)) None) ≡ true → x ≡ cond t x (pos 0)
    at true f = refl
    at false f = absurd (true≢false (sym f))
moved_some n None x e = absurd (true≢false (sym e))

-- what holds of a shock and of 0 holds of the moved shock
moved_both : (P : ℤ → Type 0) (n : ℕ) (q : Option (ℕ × ℕ)) (x : ℤ) → P x → P (pos 0) → P (moved_shock n q x)
moved_both P n (Some p) x f g = cond_both (nat_lt (n + p.0) 8) x (pos 0) P (λ _. f) (λ _. g)
moved_both P n None x f g = g

-- where every place of the second is kept, its shock is not changed
pub moved_all : (n b : ℕ) (q : Option (ℕ × ℕ)) (x : ℤ) → n + b ≤ 8 → ((k m : ℕ) → q ≡ Some (k, m) → k < b) → (q ≡ None → x ≡ pos 0) → x ≡ moved_shock n q x
moved_all n b (Some p) x h within still = let l : p.0 < b = within p.0 p.1 refl in sym (cond-true _ _ _ (lt-ltb (n + p.0) 8 (omega arith)))
moved_all n b None x h within still = still refl

module _ (a b : ScenarioTable) (la : Lawful a) (lb : Lawful b) where
  -- what holds of the scenarios in each of the three parts holds of the pair's
  by_part : (P : ℕ → Type 0) (k : ℕ) → (k < a.subportfolios → P (a.scenarios k)) → (a.subportfolios ≤ k → k < 8 → P (b.scenarios (k - a.subportfolios))) → (8 ≤ k → P 0) → P ((pair_table a b).scenarios k)
  by_part P k first second beyond =
      cond_both (nat_lt k 8) _ _ P
      (λ f. cond_both (nat_lt k a.subportfolios) _ _ P (λ e. first (ltb-true k a.subportfolios e)) (λ e. second (ltb-false k a.subportfolios e) (ltb-true k 8 f)))
      (λ f. beyond (ltb-false k 8 f))

  -- what holds of either's shock and of 0 holds of the pair's
  by_shock : (P : ℤ → Type 0) (c s : ℕ) → P (a.shock c s) → P (b.shock c s) → P (pos 0) → P ((pair_table a b).shock c s)
  by_shock P c s f g h = go (a.place c)
    where
      go : (x : Option (ℕ × ℕ)) → P (first_shock x (a.shock c s) (moved_shock a.subportfolios (b.place c) (b.shock c s)))
      go (Some p) = f
      go None = moved_both P a.subportfolios (b.place c) (b.shock c s) g h

  some_scenario : (k : ℕ) → k < (pair_table a b).subportfolios → 1 ≤ (pair_table a b).scenarios k
  some_scenario k h = by_part (λ n. 1 ≤ n) k (la.some_scenario k) (λ l m. lb.some_scenario (k - a.subportfolios) (omega arith)) (λ m. absurd (omega arith))

  few_scenarios : (k : ℕ) → (pair_table a b).scenarios k ≤ 64
  few_scenarios k = by_part (λ n. n ≤ 64) k (λ _. la.few_scenarios k) (λ _ _. lb.few_scenarios (k - a.subportfolios)) (λ _. omega arith)

  none_beyond : (k : ℕ) → (pair_table a b).subportfolios ≤ k → (pair_table a b).scenarios k ≡ 0
  none_beyond k h = by_part (λ n. n ≡ 0) k (λ l. absurd (omega (arith, la.few_subportfolios, lb.some_subportfolio))) (λ l m. lb.none_beyond (k - a.subportfolios) (omega arith)) (λ _. refl)

  contracts_known : (c : ℕ) → 256 ≤ c → (pair_table a b).place c ≡ None
  contracts_known c h = rw (la.contracts_known c h, lb.contracts_known c h)

  -- a place of the pair is the first's, or the second's, moved
  placed : (c k m : ℕ) → (pair_table a b).place c ≡ Some (k, m) → (a.place c ≡ Some (k, m)) ⊎ ((a.place c ≡ None) × (moved a.subportfolios (b.place c) ≡ Some (k, m)))
  placed c k m = go (a.place c) (moved a.subportfolios (b.place c))
    where
      go : (x y : Option (ℕ × ℕ)) → first_place x y ≡ Some (k, m) → (x ≡ Some (k, m)) ⊎ ((x ≡ None) × (y ≡ Some (k, m)))
      go (Some q) y e = inl e
      go None y e = inr (refl, e)

  placed_within : (c k m : ℕ) → (pair_table a b).place c ≡ Some (k, m) → k < (pair_table a b).subportfolios
  placed_within c k m e =
      elim (placed c k m e) [
        | inl f ↦ omega (arith, la.placed_within c k m f, la.few_subportfolios)
        | inr f ↦ let o = moved_from a.subportfolios (b.place c) k m f.1 in omega (arith, lb.placed_within c o.0 m o.1, o.2, o.3)
      ]

  multiplier_small : (c k m : ℕ) → (pair_table a b).place c ≡ Some (k, m) → m ≤ 10000
  multiplier_small c k m e =
      elim (placed c k m e) [
        | inl f ↦ la.multiplier_small c k m f
        | inr f ↦ let o = moved_from a.subportfolios (b.place c) k m f.1 in lb.multiplier_small c o.0 m o.1
      ]

  unknown_still : (c s : ℕ) → (pair_table a b).place c ≡ None → (pair_table a b).shock c s ≡ pos 0
  unknown_still c s = go (a.place c)
    where
      go : (x : Option (ℕ × ℕ)) → first_place x (moved a.subportfolios (b.place c)) ≡ None → first_shock x (a.shock c s) (moved_shock a.subportfolios (b.place c) (b.shock c s)) ≡ pos 0
      go (Some p) e = let z : ◌≡◌ {A = ℕ} 0 1 = cc in absurd (omega arith)
      go None e = moved_none a.subportfolios (b.place c) (b.shock c s) e

  missing_still : (c k m s : ℕ) → (pair_table a b).place c ≡ Some (k, m) → (pair_table a b).scenarios k ≤ s → (pair_table a b).shock c s ≡ pos 0
  missing_still c k m s e h =
      elim (placed c k m e) [
        | inl f ↦
            let w : k < a.subportfolios = la.placed_within c k m f in
            let v : k < 8 = omega (arith, la.few_subportfolios) in
            let l : a.scenarios k ≤ s = rw (lt-ltb k 8 v, lt-ltb k a.subportfolios w) at h in
            rw f (la.missing_still c k m s f l)
        | inr f ↦
            let o = moved_from a.subportfolios (b.place c) k m f.1 in
            let w : a.subportfolios ≤ k = omega (arith, o.2) in
            let v : k < 8 = o.3 in
            let x : k - a.subportfolios ≡ o.0 = omega (arith, o.2) in
            let l : b.scenarios o.0 ≤ s = rw (lt-ltb k 8 v, le-ltb k a.subportfolios w, x) at h in
            rw f.0 (moved_both (λ z. z ≡ pos 0) a.subportfolios (b.place c) (b.shock c s) (lb.missing_still c o.0 m s o.1 l) refl)
      ]

  -- a place of the second, moved, is a small number
  pub moved_small : (c k m : ℕ) → Some (k, m) ≡ b.place c → a.subportfolios + k < 16
  moved_small c k m e =
      omega (arith, la.few_subportfolios, lb.few_subportfolios, lb.placed_within c k m (sym e))

  pub pair_lawful : Lawful (pair_table a b)
  pair_lawful = record {
    some_subportfolio = omega (arith, la.some_subportfolio);
    few_subportfolios = omega arith;
    some_scenario = some_scenario;
    few_scenarios = few_scenarios;
    none_beyond = none_beyond;
    contracts_known = contracts_known;
    placed_within = placed_within;
    multiplier_small = multiplier_small;
    unmoved = λ c. by_shock (λ z. z ≡ pos 0) c 0 (la.unmoved c) (lb.unmoved c) refl;
    shock_low = λ c s. by_shock (λ z. negsuc 99999999 ≤ℤ z) c s (la.shock_low c s) (lb.shock_low c s) (omega (arith, ints));
    shock_high = λ c s. by_shock (λ z. z ≤ℤ pos 100000000) c s (la.shock_high c s) (lb.shock_high c s) (omega (arith, ints));
    unknown_still = unknown_still;
    missing_still = missing_still;
  }
