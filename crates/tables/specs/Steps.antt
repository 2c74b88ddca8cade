-- The rows that say what a table is worked out from. Assumes nothing.
use Rattle.std.specs.Prelude.{ℕ, ◌^◌, cond, List, [], ◌∷◌, ℤ, pos, neg_ℤ, Some, None, codes, Option}
use Rattle.std.specs.Str.{bytes_eq}
use Rattle.figures.specs.Figures.{Position}
use Rattle.figures.specs.Positions.{position_of, position_if}
use Rattle.tables.specs.declared.steps.Step.{Step as Kept}
use Rattle.tables.specs.declared.steps.Step.TheVariants.{Clear, Price, Trade}
use Rattle.tables.specs.Numbers.{below}

-- no prices and no positions, a market price, or one more position
pub data Step : Type 0 where
  clear : Step
  price : ℕ → ℕ → Step
  trade : Position → Step

abbrev pub step_of : Kept → Step
step_of Clear = clear
step_of (Price c t) = price c t
step_of (Trade p) = trade (position_of p)

abbrev pub position_at : Option ℕ → ℤ → Option ℕ → Option Position
position_at None q t = None
position_at (Some c) q None = None
position_at (Some c) q (Some t) = position_if c q t

abbrev pub position_in : ℤ → ℤ → ℤ → Option Position
position_in c q t = position_at (below 256 c) q (below (2 ^ 32) t)

abbrev pub price_at : Option ℕ → Option ℕ → Option Step
price_at None t = None
price_at (Some c) None = None
price_at (Some c) (Some t) = Some (price c t)

-- how many are bought, negative for a sale
abbrev pub quantity_in : List ℕ → ℕ → Option ℤ
quantity_in w n =
    cond (bytes_eq w (codes "buy")) (Some (pos n)) (cond (bytes_eq w (codes "sell")) (Some (neg_ℤ (pos n))) None)

abbrev pub traded_at : ℤ → Option ℤ → ℤ → Option Position
traded_at c None t = None
traded_at c (Some q) t = position_in c q t

-- a position of up to 65,535 contracts, of which those within a position's bounds can be held
abbrev pub traded_of : List ℕ → ℤ → Option ℕ → ℤ → Option Position
traded_of w c None t = None
traded_of w c (Some n) t = traded_at c (quantity_in w n) t

abbrev pub traded_in : List ℕ → ℤ → ℤ → ℤ → Option Position
traded_in w c n t = traded_of w c (below (2 ^ 16) n) t

abbrev pub trade_of : Option Position → Option Step
trade_of None = None
trade_of (Some p) = Some (trade p)

-- what a word says with no number, with two and with three
abbrev pub clear_in : List ℕ → Option Step
clear_in w = cond (bytes_eq w (codes "clear")) (Some clear) None

abbrev pub price_in : List ℕ → ℤ → ℤ → Option Step
price_in w c t = cond (bytes_eq w (codes "price")) (price_at (below 256 c) (below (2 ^ 32) t)) None

abbrev pub trade_in : List ℕ → ℤ → ℤ → ℤ → Option Step
trade_in w c n t = trade_of (traded_in w c n t)

-- what a word says with numbers
abbrev pub stepped : List ℕ → List ℤ → Option Step
stepped w [] = clear_in w
stepped w (c ∷ []) = None
stepped w (c ∷ t ∷ []) = price_in w c t
stepped w (c ∷ n ∷ t ∷ []) = trade_in w c n t
stepped w (c ∷ n ∷ t ∷ x ∷ xs) = None
