-- The decoded tables of an accepted file hold what the file says, and keep their bounds.
use Rattle.std.proofs.Common.{◌≡◌, ℕ, ◌<◌, ◌≤◌, ltb, List, [], length, get_or, ℤ, pos, nat_abs, None, Option, sym, refl, ap, ◌∙◌, subst, ⊎_elim, arith}
use Rattle.std.proofs.lemmas.List.{get_or_past}
use Rattle.std.proofs.lemmas.Bool.{cases_lt, cond-true, cond_both, lt-ltb, ltb-true}
use Rattle.layout.specs.Fields.{kind, contracts, scenarios, second}
use Rattle.inspection.proofs.Accepted.{Passes, few_contracts, few_scenarios, small_multiplier}
use Rattle.sheets.specs.Sheets.{find, record_shock}
use Rattle.sheets.specs.Cells.{shock_cell, multiplier_cell}
use Rattle.sheets.specs.Decoded.{record_in, cell_in, FewRecords, Within, Unmoved, SmallMultipliers}
use Rattle.sheets.proofs.Finds.{found, none_above}
use Rattle.sheets.proofs.Records.{cell_small, cell_unmoved, cell_is}

module _ (b : List ℕ) (p : Passes b) where
  module _ (records : List (Option ℕ)) (long : length records ≡ 256) (are : (c : ℕ) → c < 256 → get_or records c None ≡ find b c (contracts b)) where
    pub records_are : (c : ℕ) → record_in records c ≡ find b c (contracts b)
    records_are c =
        ⊎_elim (λ l. are c l) (λ (l : 256 ≤ c). get_or_past records c None (omega arith) ∙ sym (none_above b p c l)) (cases_lt c 256)

    pub few_records : FewRecords records
    few_records c j e =
        let few = few_contracts b p in
        let f = found b c (contracts b) j (sym (records_are c) ∙ e) in
        omega (arith, f.0)

  module _ (cells : List ℕ) (long : length cells ≡ 64) (are : (j : ℕ) → j < 64 → get_or cells j 0 ≡ multiplier_cell b j) where
    pub multipliers_are : (j : ℕ) → j < contracts b → get_or cells j 0 ≡ second b j
    unfolding multiplier_cell
    multipliers_are j l = let few = few_contracts b p in are j (omega arith) ∙ cond-true _ _ _ (lt-ltb j (contracts b) l)

    pub small_multipliers : kind b ≡ 1 → SmallMultipliers cells
    unfolding multiplier_cell
    small_multipliers e j =
        let P : ℕ → Type 0 = λ x. x ≤ 10000 in
        ⊎_elim
        (λ l. subst P (sym (are j l)) (cond_both (ltb j (contracts b)) _ _ P (λ t. small_multiplier b p e j (ltb-true _ _ t)) (λ _. omega arith)))
        (λ (l : 64 ≤ j). subst P (sym (get_or_past cells j 0 (omega arith))) (omega arith))
        (cases_lt j 64)

  module _ (cells : List (List ℤ)) (long : length cells ≡ 64) (wide : (j : ℕ) → j < 64 → length (get_or cells j []) ≡ 64)
      (are : (j s : ℕ) → j < 64 → s < 64 → cell_in cells j s ≡ shock_cell b j s) where
    pub cells_are : (j s : ℕ) → j < contracts b → s < scenarios b → cell_in cells j s ≡ record_shock b j s
    cells_are j s l m =
        let few = few_contracts b p in
        let narrow = few_scenarios b p in
        are j s (omega arith) (omega arith) ∙ cell_is b p j s l m

    -- a place past the last row, or past the end of one
    past : (j s : ℕ) → (j < 64 → 64 ≤ s) → cell_in cells j s ≡ pos 0
    past j s h =
        ⊎_elim
        (λ (l : j < 64). let m = h l in get_or_past (get_or cells j []) s (pos 0) (omega (arith, wide j l)))
        (λ (l : 64 ≤ j). ap (λ (xs : List ℤ). get_or xs s (pos 0)) (get_or_past cells j [] (omega arith)))
        (cases_lt j 64)

    -- what holds of each shock and of 0 holds of each cell
    each : (P : ℤ → Type 0) (j s : ℕ) → P (shock_cell b j s) → P (pos 0) → P (cell_in cells j s)
    each P j s h z =
        ⊎_elim
        (λ (l : j < 64). ⊎_elim (λ m. subst P (sym (are j s l m)) h) (λ (m : 64 ≤ s). subst P (sym (past j s (λ _. m))) z) (cases_lt s 64))
        (λ (l : 64 ≤ j). subst P (sym (past j s (λ (m : j < 64). absurd (omega arith)))) z)
        (cases_lt j 64)

    pub cells_within : Within cells
    cells_within j s = each (λ z. nat_abs z ≤ 100000000) j s (cell_small b p j s) (omega arith)

    pub unmoved_cells : Unmoved cells
    unmoved_cells j = each (λ z. z ≡ pos 0) j 0 (cell_unmoved b p j) refl
