-- The figures of a client that a value of the code means. Assumes nothing.
use Rattle.std.specs.Prelude.{[], pos, Some, None, Option}
use Rattle.cells.specs.Listed.{listed}
use Rattle.rules.specs.Answers.{ClientFigures}
use Rattle.statements.specs.declared.clients.ClientFigures.{ClientFigures as Kept}

abbrev pub figures_in : Kept → ClientFigures
figures_in c = record {
  number = c.number;
  margins = listed c.margins;
  needed = c.need;
  collateral = c.collateral;
  lacking = c.deficit;
}

abbrev pub figured : Option Kept → Option ClientFigures
figured (Some c) = Some (figures_in c)
figured None = None

-- where there are none
abbrev pub no_figures : ClientFigures
no_figures = record { number = 0; margins = []; needed = pos 0; collateral = pos 0; lacking = pos 0 }
