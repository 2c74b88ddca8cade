-- What a table's room ends as, where its first places are lent. Assumes nothing.
use Rattle.std.specs.Prelude.{List, length}
use Rattle.std.specs.List.{refill}
use Rattle.std.specs.Borrow.{Lends, Fml, RattleType, MutBor, Array}
use Rattle.cells.specs.contracts.cells.Cells.{the_row}

module _ (T N : RattleType) (cells : MutBor (the_row T N).Denot) where
  -- once the borrow r ends, the room begins with what was written through r
  abbrev pub lends_front : MutBor (List T.Denot) → Fml
  lends_front r = Lends (the_row T N) (Array T 0) cells r
      (λ written. record { at = refill (length cells.now.at) cells.now.at written })
