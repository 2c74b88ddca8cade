-- What the replies to orders and the lines of a statement are shown as. Assumes nothing.
use Rattle.std.specs.Prelude.{ℕ, List, [], ◌∷◌, take}
use Rattle.cells.specs.Listed.{listed}
use Rattle.desk.specs.declared.replies.Misplaced.{Misplaced}
use Rattle.desk.specs.declared.replies.Misplaced.TheVariants.{NotOpen, PreparationOver, NoSlipHeld}
use Rattle.desk.specs.declared.replies.Reply.{Reply}
use Rattle.desk.specs.declared.replies.Reply.TheVariants as desk
use Rattle.replies.specs.declared.notes.Misplaced.{Misplaced as Note}
use Rattle.replies.specs.declared.notes.Misplaced.TheVariants as notes
use Rattle.replies.specs.Texts.{trader_text, client_text, trade_text, slip_text, accepted_text, refused_text, misplaced_text}
use Rattle.replies.specs.Statements.{client_figures_text, specified_text, unspecified_text, risk_text, backing_text, limit_text, utilisation_text, end_text}
use Rattle.statements.specs.declared.clients.ClientFigures.{ClientFigures}
use Rattle.statements.specs.declared.statement.Statement.{Statement}

abbrev pub note_of : Misplaced → Note
note_of NotOpen = notes.NotOpen
note_of PreparationOver = notes.PreparationOver
note_of NoSlipHeld = notes.NoSlipHeld

-- the line that a reply is shown as
abbrev pub line_of : Reply → List ℕ
line_of (desk.Trader n) = trader_text n
line_of (desk.Client n) = client_text n
line_of (desk.Trade n) = trade_text n
line_of (desk.Slip s) = slip_text s.serial
line_of desk.Accepted = accepted_text
line_of (desk.Refused e) = refused_text e
line_of (desk.Misplaced why) = misplaced_text (note_of why)

-- the line of a client, with the margins of so many sheets
abbrev pub client_line : ℕ → ClientFigures → List ℕ
client_line n c = client_figures_text c.number c.need c.collateral c.deficit (take n (listed c.margins))

-- the lines behind those of the clients
abbrev pub total_lines : Statement → List (List ℕ)
total_lines s =
    specified_text s.specified ∷ unspecified_text s.unspecified ∷ risk_text s.risk ∷ backing_text s.backing ∷ limit_text s.limit
    ∷ utilisation_text s.used ∷ end_text ∷ []
