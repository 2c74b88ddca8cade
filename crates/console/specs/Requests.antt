-- What a line asks. Assumes nothing.
use Rattle.std.specs.Prelude.{ℕ, cond, List, [], ◌∷◌, Some, None, codes, Option, ◌==◌, slice_index}
use Rattle.std.specs.Str.{bytes_eq}
use Rattle.console.specs.declared.Request.{Request}
use Rattle.console.specs.declared.Request.TheVariants.{Nothing, Sheet, Contract, Unreadable}
use Rattle.console.specs.Numbers.{decimal}
use Rattle.console.specs.Words.{words, only}

-- what a line can ask: nothing, to read the sheet at a path, what a contract gains, or nothing that is known
pub data Asked : Type 0 where
  nothing : Asked
  sheet : List ℕ → Asked
  contract : ℕ → Asked
  unreadable : Asked

abbrev pub sheet_at : Option (List ℕ) → Asked
sheet_at None = unreadable
sheet_at (Some path) = sheet path

abbrev pub contract_of : Option ℕ → Asked
contract_of None = unreadable
contract_of (Some n) = contract n

abbrev pub number_in : Option (List ℕ) → Option ℕ
number_in None = None
number_in (Some w) = decimal w

-- what a line asks by its words: the first says what, the others about what
abbrev pub asked_by : List (List ℕ) → Asked
asked_by [] = nothing
asked_by (w ∷ ws) =
    cond (bytes_eq w (codes "sheet")) (sheet_at (only ws))
    (cond (bytes_eq w (codes "contract")) (contract_of (number_in (only ws))) unreadable)

-- a line that begins with # asks nothing
abbrev pub asked : List ℕ → Asked
asked line = cond (slice_index line 0 == 35) nothing (asked_by (words line))

-- what a request asks
abbrev pub meant : Request → Asked
meant Nothing = nothing
meant (Sheet path) = sheet path.now
meant (Contract n) = contract n
meant Unreadable = unreadable
