-- The position that a value of the code means. Assumes nothing.
use Rattle.std.specs.Prelude.{ℕ, Bool, cond, ◌&&◌, List, map, ℤ, Some, None, Option, nat_le, unsigned_abs}
use Rattle.figures.specs.declared.position.Position.{Position as Kept}
use Rattle.figures.specs.Figures.{Position}
use Rattle.figures.specs.Priced.{fair_price}

abbrev pub position_of : Kept → Position
position_of p = record { contract = p.contract; quantity = p.quantity; price = p.price }

abbrev pub positions_of : List Kept → List Position
positions_of ps = map position_of ps

-- a quantity of 1 to 10,000, bought or sold
abbrev pub fair_quantity : ℤ → Bool
fair_quantity q = nat_le 1 (unsigned_abs q) && nat_le (unsigned_abs q) 10000

abbrev pub position_if : ℕ → ℤ → ℕ → Option Position
position_if c q p = cond (fair_quantity q && fair_price p) (Some (record { contract = c; quantity = q; price = p })) None

abbrev pub meant : Option Kept → Option Position
meant (Some p) = Some (position_of p)
meant None = None
