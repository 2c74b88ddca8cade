-- Why a line is not carried out, in words. Assumes nothing.
use Rattle.std.specs.Prelude.{ℕ, List, codes}
use Rattle.replies.specs.declared.notes.Misplaced.{Misplaced}
use Rattle.replies.specs.declared.notes.Misplaced.TheVariants.{NotOpen, PreparationOver, AfterFirstCall, NoSlipHeld, SheetsFull}
use Rattle.replies.specs.declared.notes.Unreadable.{Unreadable}
use Rattle.replies.specs.declared.notes.Unreadable.TheVariants.{NoLine, NoFile, TooLong}

-- a line that stands where it cannot
abbrev pub misplaced_note : Misplaced → List ℕ
misplaced_note NotOpen = codes "the call belongs to the session, which is not open"
misplaced_note PreparationOver = codes "the call belongs to the preparation, which is over"
misplaced_note AfterFirstCall = codes "a sheet is read before the first call"
misplaced_note NoSlipHeld = codes "no such slip is held"
misplaced_note SheetsFull = codes "eight sheets are read already"

-- a line or a file that cannot be read
abbrev pub unreadable_note : Unreadable → List ℕ
unreadable_note NoLine = codes "not a line of this program"
unreadable_note NoFile = codes "the file cannot be read"
unreadable_note TooLong = codes "the line is too long"
