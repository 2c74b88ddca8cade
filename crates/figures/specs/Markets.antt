-- What a table of prices tells, and for which positions it suffices. Assumes nothing.
use Rattle.std.specs.Prelude.{ℕ, Bool, cond, ◌&&◌, List, length, ℤ, is_some, Some, None, Option, nat_le, unsigned_abs}
use Rattle.figures.specs.declared.prices.Prices.{Prices}
use Rattle.figures.specs.Every.{every}
use Rattle.figures.specs.Figures.{Position}
use Rattle.figures.specs.Priced.{price_at, priced}

-- the market price, 0 where there is none
abbrev pub market : Prices → ℕ → ℕ
market ps = priced ps.ticks

abbrev pub has_price : Prices → ℕ → Bool
has_price ps c = is_some (price_at ps.ticks c)

-- whether a position's contract has a price
abbrev pub is_priced : Prices → Position → Bool
is_priced ps t = has_price ps t.contract

abbrev pub all_priced : Prices → List Position → Bool
all_priced ps ts = every (is_priced ps) ts

-- at most 1,024 positions stand in one list
abbrev pub few : ℕ → Bool
few n = nat_le n 1024

-- whether figures can be worked out for positions: they are few, and each has a market price
abbrev pub answerable : Prices → List Position → Bool
answerable ps ts = few (length ts) && all_priced ps ts

-- a settlement amount within 10^13 either way
abbrev pub fair_cash : ℤ → Bool
fair_cash z = nat_le (unsigned_abs z) 10000000000000

-- a figure, where it can be worked out
abbrev pub figure_if : Bool → ℤ → Option ℤ
figure_if b x = cond b (Some x) None
