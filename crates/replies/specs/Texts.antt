-- The answers to the orders of a day, as text. Assumes nothing.
use Rattle.std.specs.Prelude.{ℕ, List, ◌++◌, codes, decimal}
use Rattle.refusals.specs.declared.Refusal.{Refusal}
use Rattle.refusals.specs.Numbers.{number_of, text_of}
use Rattle.replies.specs.declared.notes.Misplaced.{Misplaced}
use Rattle.replies.specs.declared.notes.Unreadable.{Unreadable}
use Rattle.replies.specs.Notes.{misplaced_note, unreadable_note}

-- a trader, a client, a trade or a slip that was entered: its number
abbrev pub trader_text : ℕ → List ℕ
trader_text n = codes "trader " ++ decimal n

abbrev pub client_text : ℕ → List ℕ
client_text n = codes "client " ++ decimal n

abbrev pub trade_text : ℕ → List ℕ
trade_text n = codes "trade " ++ decimal n

abbrev pub slip_text : ℕ → List ℕ
slip_text n = codes "slip " ++ decimal n

-- an order that was carried out, and gives no number
abbrev pub accepted_text : List ℕ
accepted_text = codes "accepted"

-- a refusal: its number, and one line for people
abbrev pub refused_text : Refusal → List ℕ
refused_text e = codes "refused " ++ (decimal (number_of e) ++ (codes " " ++ text_of e))

-- a line that stands where it cannot be carried out
abbrev pub misplaced_text : Misplaced → List ℕ
misplaced_text why = codes "misplaced " ++ misplaced_note why

-- a line that cannot be read
abbrev pub unreadable_text : Unreadable → List ℕ
unreadable_text why = codes "unreadable " ++ unreadable_note why
