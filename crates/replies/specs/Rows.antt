-- What each line of a statement writes. Assumes nothing.
use Rattle.std.specs.Prelude.{ℕ, List}
use Rattle.replies.specs.declared.statement.ClientFigures.{ClientFigures}
use Rattle.replies.specs.declared.statement.StatementLine.{StatementLine}
use Rattle.replies.specs.declared.statement.StatementLine.TheVariants.{Trader, Client, Specified, Unspecified, Risk, Backing, Limit, Utilisation, End}
use Rattle.replies.specs.Statements.{statement_text, client_figures_text, specified_text, unspecified_text, risk_text, backing_text, limit_text, utilisation_text, end_text}

abbrev pub figures_of_client : ClientFigures → List ℕ
figures_of_client f = client_figures_text f.client f.need f.collateral f.deficit f.margins.now

abbrev pub row_text : StatementLine → List ℕ
row_text (Trader n) = statement_text n
row_text (Client f) = figures_of_client f
row_text (Specified x) = specified_text x
row_text (Unspecified x) = unspecified_text x
row_text (Risk x) = risk_text x
row_text (Backing x) = backing_text x
row_text (Limit x) = limit_text x
row_text (Utilisation percent) = utilisation_text percent
row_text End = end_text
