-- The settlement amount that a value of the code means. Assumes nothing.
use Rattle.std.specs.Prelude.{ℤ, Some, None, Option}
use Rattle.figures.specs.declared.cash.Cash.{Cash}

abbrev pub settled : Option Cash → Option ℤ
settled (Some c) = Some c.amount
settled None = None
