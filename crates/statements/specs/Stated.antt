-- The statement that a value of the code means. Assumes nothing.
use Rattle.std.specs.Prelude.{[], map, pos}
use Rattle.cells.specs.Listed.{listed}
use Rattle.figures.specs.Figures.{percent}
use Rattle.figures.specs.Used.{utilisation_of}
use Rattle.rules.specs.Answers.{Statement}
use Rattle.statements.specs.declared.statement.Statement.{Statement as Kept}
use Rattle.statements.specs.Figured.{figures_in}

abbrev pub statement_in : Kept → Statement
statement_in s = record {
  clients = map figures_in (listed s.clients);
  specified = s.specified;
  unspecified = s.unspecified;
  at_risk = s.risk;
  behind = s.backing;
  left = s.limit;
  used = utilisation_of s.used;
}

-- nothing is stated
abbrev pub blank : Statement
blank = record { clients = []; specified = pos 0; unspecified = pos 0; at_risk = pos 0; behind = pos 0; left = pos 0; used = percent 0 }
