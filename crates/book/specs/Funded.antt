-- The amount that a fund holds. Assumes nothing.
use Rattle.std.specs.Prelude.{cond, ℤ, pos, Some, None, Option}
use Rattle.rules.specs.Bounds.{most_amount}
use Rattle.rules.specs.Causes.{within}
use Rattle.book.specs.declared.funds.Fund.{Fund}

abbrev pub meant_fund : Option Fund → Option ℤ
meant_fund (Some f) = Some f.amount
meant_fund None = None

-- an amount of 0 to 10^15
abbrev pub fund_if : ℤ → Option ℤ
fund_if a = cond (within (pos 0) (pos most_amount) a) (Some a) None
