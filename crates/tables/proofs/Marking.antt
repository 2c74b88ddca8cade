-- The mark of the last position of a list. Assumes nothing.
use Rattle.std.proofs.Common.{◌≡◌, ℕ, zero, suc, ◌-◌, ◌<◌, ◌≤◌, List, [], ◌∷◌, length, get_or, None, refl, ap, arith}
use Rattle.scenario.specs.Table.{ScenarioTable}
use Rattle.figures.specs.declared.position.Position.{Position as Kept}
use Rattle.figures.specs.declared.prices.Prices.{Prices}
use Rattle.figures.specs.Figures.{mark}
use Rattle.figures.specs.Markets.{market, is_priced, figure_if}
use Rattle.figures.specs.Positions.{position_of, positions_of}
use Rattle.tables.specs.Workings.{last_mark}

module _ (m : ScenarioTable) (ps : Prices) where
  mark_at : (xs : List Kept) (k : ℕ) (x : Kept) → suc k ≡ length xs → x ≡ get_or xs k x → figure_if (is_priced ps (position_of x)) (mark m (market ps) (position_of x)) ≡ last_mark m ps (positions_of xs)
  mark_at [] k x l e = absurd (omega arith)
  mark_at (y ∷ []) zero x l e = ap (λ (z : Kept). figure_if (is_priced ps (position_of z)) (mark m (market ps) (position_of z))) e
  mark_at (y ∷ []) (suc k) x l e = absurd (omega arith)
  mark_at (y ∷ z ∷ xs) zero x l e = absurd (omega arith)
  mark_at (y ∷ z ∷ xs) (suc k) x l e = mark_at (z ∷ xs) k x (omega arith) e

  pub mark_of_last : (xs : List Kept) (x : Kept) → 0 < length xs → x ≡ get_or xs (length xs - 1) x → figure_if (is_priced ps (position_of x)) (mark m (market ps) (position_of x)) ≡ last_mark m ps (positions_of xs)
  mark_of_last xs x l e = mark_at xs (length xs - 1) x (omega arith) e

  pub mark_of_none : (xs : List Kept) → length xs ≤ 0 → None ≡ last_mark m ps (positions_of xs)
  mark_of_none [] l = refl
  mark_of_none (y ∷ xs) l = absurd (omega arith)
