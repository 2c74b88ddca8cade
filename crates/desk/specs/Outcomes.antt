-- What becomes of an order. Assumes nothing.
use Rattle.statements.specs.declared.statement.Statement.{Statement}
use Rattle.statements.specs.Stated.{statement_in}
use Rattle.desk.specs.declared.outcomes.Outcome.{Outcome}
use Rattle.desk.specs.declared.outcomes.Outcome.TheVariants.{Replied, Stated}
use Rattle.desk.specs.Told.{Told, told_of, stated}

-- what a desk is told of it, with the place in which a statement stands
abbrev pub outcome_told : Outcome → Statement → Told
outcome_told (Replied r) s = told_of r
outcome_told (Stated t) s = stated t (statement_in s)
