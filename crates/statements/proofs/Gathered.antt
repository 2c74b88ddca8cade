-- Positions of trades that are collected, one trade more at a time. Assumes nothing.
use Rattle.std.proofs.Common.{◌≡◌, ℕ, ◌+◌, ◌<◌, ◌≤◌, Bool, true, false, cond, ltb, List, [], ◌∷◌, ◌++◌, map, length, get_or, take, sym, ap, ◌∙◌, subst, arith}
use Rattle.std.proofs.lemmas.List.{append-nil, length-map, length-take, map-append, map_more, map_push}
use Rattle.std.proofs.lemmas.Bool.{cond-true, cond-false, lt-ltb}
use Rattle.figures.specs.declared.position.Position.{Position as Kept}
use Rattle.figures.specs.Figures.{Position}
use Rattle.figures.specs.Positions.{position_of, positions_of}
use Rattle.figures.specs.Sums.{only}
use Rattle.rules.specs.Ledger.{Trade}
use Rattle.book.specs.declared.trades.standing.TradeCell.{TradeCell}
use Rattle.book.specs.Means.{trade_in}
use Rattle.statements.proofs.Picking.{only_push, length_only}

abbrev pub collected : (Trade → Bool) → List TradeCell → List Position
collected p cells = map (λ (t : Trade). t.position) (only p (map trade_in cells))

pub collected_short : (p : Trade → Bool) (cells : List TradeCell) → length (collected p cells) ≤ length cells
collected_short p cells =
    omega (arith, length-map (only p (map trade_in cells)) (λ (t : Trade). t.position), length_only p (map trade_in cells), length-map cells trade_in)

module _ (p : Trade → Bool) (cells : List TradeCell) (i : ℕ) (cell : TradeCell) (h : i < length cells) (e : cell ≡ get_or cells i cell) where
  next : collected p (take (i + 1) cells) ≡ collected p (take i cells) ++ map (λ (t : Trade). t.position) (cond (p (trade_in cell)) (trade_in cell ∷ []) [])
  next =
      let ts = map trade_in (take i cells) in
      ap (λ (l : List Trade). map (λ (t : Trade). t.position) (only p l)) (map_more trade_in cells i cell h ∙ ap (λ (x : TradeCell). ts ++ trade_in x ∷ []) (sym e))
      ∙ ap (map (λ (t : Trade). t.position)) (only_push p ts (trade_in cell))
      ∙ map-append (λ (t : Trade). t.position) (only p ts) _

  -- there is room for one more
  pub collect_room : (found : List Kept) → length cells ≤ 1024 → positions_of found ≡ collected p (take i cells) → ltb (length found) 1024 ≡ true
  collect_room found few inv =
      let short : length (positions_of found) ≤ length (take i cells) = subst (λ (l : List Position). length l ≤ length (take i cells)) (sym inv) (collected_short p (take i cells)) in
      lt-ltb (length found) 1024 (omega (arith, length-map found position_of, length-take i cells))

  pub collect_yes : (found more : List Kept) (x : Kept) → p (trade_in cell) ≡ true → position_of x ≡ (trade_in cell).position → more ≡ found ++ x ∷ [] → positions_of found ≡ collected p (take i cells) → positions_of more ≡ collected p (take (i + 1) cells)
  collect_yes found more x t is m inv =
      ap positions_of m
      ∙ map_push position_of found x
      ∙ (λ j. inv j ++ is j ∷ [])
      ∙ sym (next ∙ ap (λ (l : List Trade). collected p (take i cells) ++ map (λ (t : Trade). t.position) l) (cond-true (p (trade_in cell)) (trade_in cell ∷ []) [] t))

  pub collect_no : (found : List Kept) → p (trade_in cell) ≡ false → positions_of found ≡ collected p (take i cells) → positions_of found ≡ collected p (take (i + 1) cells)
  collect_no found t inv =
      inv ∙ sym (next ∙ ap (λ (l : List Trade). collected p (take i cells) ++ map (λ (t : Trade). t.position) l) (cond-false (p (trade_in cell)) (trade_in cell ∷ []) [] t) ∙ append-nil (collected p (take i cells)))
