-- The lines of an input. Assumes nothing.
use Rattle.std.specs.Prelude.{◌≡◌, ℕ, ◌+◌, ◌<◌, ◌≤◌, Bool, cond, ◌||◌, List, [], ◌++◌, length, take, nat_lt, ◌==◌, slice_range, Some, None, Ok, Err, Option, Result, ⊤}
use Rattle.std.specs.Io.KnownBytes.{prepend_known}
use Rattle.std.specs.Io.BufRead.{strip_last, first_piece, first_line, drop_through}
use Rattle.cells.specs.Listed.{listed}
use Rattle.reading.specs.declared.line.InputLine.{InputLine}
use Rattle.reading.specs.declared.line.Reached.{Reached}
use Rattle.reading.specs.declared.line.Reached.TheVariants.{Line, TooLong, End}
use Rattle.reading.specs.declared.input.Input.{Input}

-- how many bytes a line has room for
abbrev pub room : ℕ
room = 4096

-- the bytes that an input has still to give, where they are known: those at hand and then those of its source
abbrev pub unread : {R : Type 0} → (R → Option (List ℕ)) → Input R → Option (List ℕ)
unread rest i = prepend_known (slice_range i.chunk i.start i.end) (rest i.source)

-- whether a byte is a line feed
abbrev pub is_feed : ℕ → Bool
is_feed b = b == 10

-- what a line shows: its bytes, but no carriage return before the line feed that ended it
abbrev pub shown : InputLine → List ℕ
shown l = cond l.fed (strip_last 13 (listed l.bytes)) (listed l.bytes)

-- a line holds the bytes bs as far as it has room, and knows whether that is all
abbrev pub Holds : InputLine → List ℕ → Type 0
Holds l bs = (listed l.bytes ≡ take room bs) × (l.over ≡ nat_lt room (length bs))

-- the line k holds what l holds and behind it the bytes bs, as far as it has room, and knows whether that is all
abbrev pub Grown : InputLine → InputLine → List ℕ → Type 0
Grown l k bs = (listed k.bytes ≡ take room (listed l.bytes ++ bs)) × (k.over ≡ (l.over || nat_lt room (length (listed l.bytes) + length bs))) × (k.fed ≡ l.fed)

-- what reading a line tells of the bytes xs of the input, and what bytes it leaves
abbrev pub TellsOf : List ℕ → Option (List ℕ) → Reached → InputLine → Type 0
TellsOf xs left Line l = (0 < length xs) × (length (first_piece 10 xs) ≤ room) × (shown l ≡ first_line xs) × (left ≡ Some (drop_through 10 xs))
TellsOf xs left TooLong l = (room < length (first_piece 10 xs)) × (left ≡ Some (drop_through 10 xs))
TellsOf xs left End l = (xs ≡ []) × (left ≡ Some [])

-- nothing is said where the input fails, nor of one whose bytes are not known
abbrev pub Tells : {E : Type 0} → Option (List ℕ) → Option (List ℕ) → Result Reached E → InputLine → Type 0
Tells None left r l = ⊤
Tells (Some xs) left (Err e) l = ⊤
Tells (Some xs) left (Ok reached) l = TellsOf xs left reached l
