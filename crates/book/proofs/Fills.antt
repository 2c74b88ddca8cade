-- Cells that hold a trade. Assumes nothing.
use Rattle.std.proofs.Common.{◌≡◌, ℕ, zero, suc, ◌<◌, true, List, [], ◌∷◌, length, get_or, set, refl, arith}
use Rattle.std.proofs.lemmas.Bool.{and_parts, and_from}
use Rattle.book.specs.declared.trades.standing.TradeCell.{TradeCell}
use Rattle.book.specs.declared.trades.standing.TradeCell.TheVariants.{Empty, Unspecified, Specified, Carried}
use Rattle.book.specs.declared.trades.standing.Change.{Change}
use Rattle.book.specs.declared.trades.standing.Change.TheVariants.{Specify, Cancel}
use Rattle.book.specs.Filled.{is_filled, each_filled}
use Rattle.book.specs.Standings.{cell_after}

pub filled_at : (xs : List TradeCell) (i : ℕ) (d : TradeCell) → i < length xs → each_filled xs ≡ true → is_filled (get_or xs i d) ≡ true
filled_at [] i d l h = absurd (omega arith)
filled_at (y ∷ xs) zero d l h = (and_parts (is_filled y) (each_filled xs) h).0
filled_at (y ∷ xs) (suc i) d l h = filled_at xs i d (omega arith) (and_parts (is_filled y) (each_filled xs) h).1

pub filled_set : (xs : List TradeCell) (i : ℕ) (x : TradeCell) → each_filled xs ≡ true → is_filled x ≡ true → each_filled (set xs i x) ≡ true
filled_set [] i x h e = refl
filled_set (y ∷ xs) zero x h e = and_from (is_filled x) (each_filled xs) e (and_parts (is_filled y) (each_filled xs) h).1
filled_set (y ∷ xs) (suc i) x h e = let p = and_parts (is_filled y) (each_filled xs) h in and_from (is_filled y) (each_filled (set xs i x)) p.0 (filled_set xs i x p.1 e)

pub filled_after : (x : TradeCell) (c : Change) → is_filled x ≡ true → is_filled (cell_after x c) ≡ true
filled_after Empty c e = e
filled_after (Unspecified t) (Specify c) e = refl
filled_after (Unspecified t) Cancel e = refl
filled_after (Specified t d) (Specify c) e = refl
filled_after (Specified t d) Cancel e = refl
filled_after (Carried t d) c e = refl
