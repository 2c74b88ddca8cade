-- The number of each refusal, one table for the whole product. Assumes nothing.
use Rattle.std.specs.Prelude.{ℕ, List, Some, None, Ok, Err, codes, Option, Result}
use Rattle.refusals.specs.declared.Refusal.{Refusal}
use Rattle.refusals.specs.declared.Refusal.TheVariants.{WrongLength, WrongKind, WrongCount, WrongArea, WrongNumber, WrongField, MovedFirst, Unknown, TableFull, OutOfRange, NoPrice, WrongState, OtherTrader, TooMuchCollateral, NotCovered, AfterWindow, NoSuchSlip, BeyondWord}

abbrev pub number_of : Refusal → ℕ
number_of WrongLength = 1
number_of WrongKind = 2
number_of WrongCount = 3
number_of WrongArea = 4
number_of WrongNumber = 5
number_of WrongField = 6
number_of MovedFirst = 7
number_of Unknown = 10
number_of TableFull = 11
number_of OutOfRange = 12
number_of NoPrice = 13
number_of WrongState = 16
number_of OtherTrader = 17
number_of TooMuchCollateral = 18
number_of NotCovered = 19
number_of AfterWindow = 20
number_of NoSuchSlip = 21
number_of BeyondWord = 22

-- the number by which a call was refused, if it was
abbrev pub refusal_of : {X : Type 0} → Result X Refusal → Option ℕ
refusal_of (Ok x) = None
refusal_of (Err e) = Some (number_of e)

-- one line for people
abbrev pub text_of : Refusal → List ℕ
text_of WrongLength = codes "the file is shorter than 24 bytes, longer than 65536, or not as long as it says"
text_of WrongKind = codes "the kind of sheet is not 1, 2 or 3"
text_of WrongCount = codes "a count of contracts, scenarios or factors is outside its range"
text_of WrongArea = codes "an area starts before byte 24, ends past the file or overlaps the other"
text_of WrongNumber = codes "a contract number is above 255 or not above the one before"
text_of WrongField = codes "a field is outside its range"
text_of MovedFirst = codes "a shock of scenario 0 is not zero"
text_of Unknown = codes "unknown trader, client, trade, holder or contract"
text_of TableFull = codes "the table is full"
text_of OutOfRange = codes "a quantity, price, amount, limit or count is outside its range"
text_of NoPrice = codes "the contract has no price"
text_of WrongState = codes "the trade is in the wrong state"
text_of OtherTrader = codes "the client belongs to another trader"
text_of TooMuchCollateral = codes "the holder would have too much collateral"
text_of NotCovered = codes "the withdrawal or cancellation is not covered"
text_of AfterWindow = codes "the settlement window has passed"
text_of NoSuchSlip = codes "no such slip is standing"
text_of BeyondWord = codes "the values would go beyond the word"
