-- Market prices in a row, one place for each contract. Assumes nothing.
use Rattle.std.specs.Prelude.{ℕ, Bool, ◌&&◌, List, Some, None, Option, nat_le, slice_index_or}

-- 1 to 100,000 ticks
abbrev pub fair_price : ℕ → Bool
fair_price p = nat_le 1 p && nat_le p 100000

abbrev pub price_at : List (Option ℕ) → ℕ → Option ℕ
price_at ps c = slice_index_or ps c None

-- the price, 0 where there is none
abbrev pub priced : List (Option ℕ) → ℕ → ℕ
priced ps c = elim (price_at ps c) [ Some p ↦ p | None ↦ 0 ]
