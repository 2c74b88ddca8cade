-- The table of decoded numbers is the table that the file means.
use Rattle.std.proofs.Common.{◌≡◌, ℕ, ◌<◌, cond, eqb, ltb, List, ℤ, pos, Some, None, Option, sym, refl, ap, ◌∙◌, ⊎_elim}
use Rattle.std.proofs.lemmas.Bool.{cond-true, cond-false, eq-eqb, ne_eqb, cases_lt, lt-ltb, le-ltb}
use Rattle.layout.specs.Fields.{kind, contracts, scenarios, second}
use Rattle.sheets.specs.Sheets.{find, record_shock, sheet_table}
use Rattle.sheets.specs.Decoded.{rows_table}
use Rattle.sheets.proofs.Finds.{found}

module _ (b : List ℕ) (row : ℕ → Option ℕ) (n : ℕ) (multiplier : ℕ → ℕ) (shock : ℕ → ℕ → ℤ)
    (rows : (c : ℕ) → row c ≡ find b c (contracts b))
    (wide : n ≡ scenarios b)
    (times : (j : ℕ) → j < contracts b → multiplier j ≡ cond (eqb (kind b) 1) (second b j) 0)
    (moves : (j s : ℕ) → j < contracts b → s < scenarios b → shock j s ≡ record_shock b j s) where
  places : (c : ℕ) → (rows_table row n multiplier shock).place c ≡ (sheet_table b).place c
  unfolding sheet_table
  places c = ap (λ (o : Option ℕ). elim o [ Some j ↦ Some (0, multiplier j) | None ↦ None ]) (rows c) ∙ go (find b c (contracts b)) refl
    where
      go : (o : Option ℕ) → find b c (contracts b) ≡ o → ◌≡◌ {A = Option (ℕ × ℕ)} (elim o [ Some j ↦ Some (0, multiplier j) | None ↦ None ]) (elim o [ Some j ↦ Some (0, cond (eqb (kind b) 1) (second b j) 0) | None ↦ None ])
      go (Some j) e = ap (λ (m : ℕ). Some (0, m)) (times j (found b c (contracts b) j e).0)
      go None e = refl

  shocks : (c s : ℕ) → (rows_table row n multiplier shock).shock c s ≡ (sheet_table b).shock c s
  unfolding sheet_table
  shocks c s =
      ap (λ (o : Option ℕ). elim o [ Some j ↦ cond (ltb s n) (shock j s) (pos 0) | None ↦ pos 0 ]) (rows c)
      ∙ (ap (λ (w : ℕ). elim (find b c (contracts b)) [ Some j ↦ cond (ltb s w) (shock j s) (pos 0) | None ↦ pos 0 ]) wide
      ∙ go (find b c (contracts b)) refl)
    where
      go : (o : Option ℕ) → find b c (contracts b) ≡ o → ◌≡◌ {A = ℤ} (elim o [ Some j ↦ cond (ltb s (scenarios b)) (shock j s) (pos 0) | None ↦ pos 0 ]) (elim o [ Some j ↦ cond (ltb s (scenarios b)) (record_shock b j s) (pos 0) | None ↦ pos 0 ])
      go (Some j) e =
          ⊎_elim
          (λ (l : s < scenarios b).
          let t = lt-ltb s (scenarios b) l in
          cond-true _ _ _ t ∙ (moves j s (found b c (contracts b) j e).0 l ∙ sym (cond-true _ _ _ t)))
          (λ l. let t = le-ltb s (scenarios b) l in cond-false _ _ _ t ∙ sym (cond-false _ _ _ t))
          (cases_lt s (scenarios b))
      go None e = refl

  pub same_table : rows_table row n multiplier shock ≡ sheet_table b
  unfolding sheet_table
  same_table = λ i. record {
    subportfolios = 1;
    scenarios = λ k. cond (eqb k 0) (wide i) 0;
    place = λ c. places c i;
    shock = λ c s. shocks c s i;
  }

-- the multiplier that a file gives, by its kind
pub factor_times : (b : List ℕ) → kind b ≡ 1 → (j : ℕ) → cond (eqb (kind b) 1) (second b j) 0 ≡ second b j
factor_times b e j = cond-true _ _ _ (eq-eqb (kind b) 1 e)

pub other_times : (b : List ℕ) → (kind b ≡ 1 → ⊥) → (j : ℕ) → cond (eqb (kind b) 1) (second b j) 0 ≡ 0
other_times b ne j = cond-false _ _ _ (ne_eqb (kind b) 1 ne)
