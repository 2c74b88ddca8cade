-- What a line holds, and what it holds after more is written. Assumes nothing.
use Rattle.std.specs.Prelude.{ℕ, List, ◌++◌, take}
use Rattle.cells.specs.Listed.{listed}
use Rattle.lines.specs.declared.Line.{Line}

-- how many bytes a line has room for
abbrev pub room : ℕ
room = 4096

-- the bytes of a line
abbrev pub written : Line → List ℕ
written l = listed l.bytes

-- a text followed by another, as far as a line has room for them
unfoldable pub followed : List ℕ → List ℕ → List ℕ
followed text more = take room (text ++ more)
