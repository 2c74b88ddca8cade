-- Trades stay few and small, and prices in their range. Assumes nothing.
use Rattle.std.proofs.Common.{◌≡◌, ℕ, ◌<◌, ◌≤◌, Bool, true, false, not, ◌||◌, ltb, leb, List, length, get_or, set, ℤ, Some, None, Option, arith}
use Rattle.std.proofs.lemmas.Int.{ints}
use Rattle.std.proofs.lemmas.List.{length-set, length-append}
use Rattle.std.proofs.lemmas.Bool.{ltb-true, leb-true, not-false, and_parts}
use Rattle.scenario.specs.Table.{ScenarioTable}
use Rattle.rules.specs.Bounds.{contracts, most_trades, most_quantity, most_price}
use Rattle.rules.specs.Ledger.{Side, buy, sell, Holder, of_client, of_trader, of_member, Standing, unspecified, specified, carried, Trade, Ledger, signed, no_trade, client_of, moved, empty_ledger}
use Rattle.rules.specs.Causes.{Call, trader, client, carry, price, deposit, opening, trade, specify, cancel, withdraw, settle, put_back, cash, window, statement, entered, new_trade, standing_now, with_trade, first, entry_rows, cause, absent, between, is_lot, no_such_client, no_such_trader}
use Rattle.rules.specs.Sound.{Near, Small, Cheap, Bounded}
use Rattle.rules.proofs.Places.{all_push, all_set, all_replicate}
use Rattle.rules.proofs.Rows.{row_off}

abbrev pub BoundsKept : Ledger → Type 0
BoundsKept l = Bounded l.trades l.prices

-- ---- an entered trade

lot_small : (t k q p : ℕ) (side : Side) (x : Standing) → is_lot q p ≡ true → Small (new_trade t k side q p x)
lot_small t k q p side x e =
    let r = and_parts (between 1 most_quantity q) (between 1 most_price p) e in
    let a : q ≤ most_quantity = leb-true q most_quantity (and_parts (leb 1 q) (leb q most_quantity) r.0).1 in
    let b : p ≤ most_price = leb-true p most_price (and_parts (leb 1 p) (leb p most_price) r.1).1 in
    (near side q a, b)
  where
    near : (side : Side) (q : ℕ) → q ≤ most_quantity → Near most_quantity (signed side q)
    near buy q h = (omega (arith, ints), omega (arith, ints))
    near sell q h = (omega (arith, ints), omega (arith, ints))

pub bounded_entry : (l : Ledger) (t k q p : ℕ) (side : Side) (x : Standing) → not (ltb (length l.trades) most_trades) ≡ false → not (is_lot q p) ≡ false → BoundsKept l → BoundsKept (with_trade l (new_trade t k side q p x))
bounded_entry l t k q p side x a e b =
    let room : length l.trades < most_trades = ltb-true (length l.trades) most_trades (not-false (ltb (length l.trades) most_trades) a) in
    record {
      few = simp length-append (omega arith);
      small = all_push Small l.trades (new_trade t k side q p x) no_trade b.small (lot_small t k q p side x (not-false (is_lot q p) e));
      cheap = b.cheap;
    }

entry_kept : (m : ScenarioTable) (l : Ledger) (stranger : Bool) (t k q p : ℕ) (side : Side) (x : Standing) → first (entry_rows m l stranger k q p (with_trade l (new_trade t k side q p x))) ≡ None → BoundsKept l → BoundsKept (with_trade l (new_trade t k side q p x))
entry_kept m l stranger t k q p side x e b =
    let r = row_off (stranger || absent (m.place k)) 10 _ e in
    let u = row_off (not (ltb (length l.trades) most_trades)) 11 _ r.1 in
    let v = row_off (not (is_lot q p)) 12 _ u.1 in
    bounded_entry l t k q p side x u.0 v.0 b

-- ---- an accepted call

standing_kept : (ts : List Trade) (ps : List (Option ℕ)) (i : ℕ) (x : Standing) → Bounded ts ps → Bounded (set ts i (standing_now x (get_or ts i no_trade))) ps
standing_kept ts ps i x b =
    record {
      few = simp length-set b.few;
      small = all_set Small ts i (standing_now x (get_or ts i no_trade)) no_trade b.small (b.small i);
      cheap = b.cheap;
    }

moved_kept : (l : Ledger) (h : Holder) (a : ℤ) → BoundsKept l → BoundsKept (moved l h a)
moved_kept l (of_client c) a b = b
moved_kept l (of_trader t) a b = b
moved_kept l (of_member t) a b = b

pub bounded_entered : (m : ScenarioTable) (l : Ledger) (x : Call) → cause m l x ≡ None → BoundsKept l → BoundsKept (entered m l x)
bounded_entered m l (trader a n) e b = b
bounded_entered m l (client t) e b = b
bounded_entered m l (carry c k side q p) e b = entry_kept m l (no_such_client l c) (client_of l c).trader k q p side (carried c) e b
bounded_entered m l (price k p) e b =
    let r = row_off (absent (m.place k)) 10 _ e in
    let u = row_off (not (between 1 most_price p)) 12 _ r.1 in
    let low : p ≤ most_price = leb-true p most_price (and_parts (leb 1 p) (leb p most_price) (not-false (between 1 most_price p) u.0)).1 in
    record { few = b.few; small = b.small; cheap = all_set Cheap l.prices k (Some p) None b.cheap low }
bounded_entered m l (deposit h a) e b = moved_kept l h a b
bounded_entered m l opening e b = b
bounded_entered m l (trade t k side q p) e b = entry_kept m l (no_such_trader l t) t k q p side unspecified e b
bounded_entered m l (specify i c) e b = standing_kept l.trades l.prices i (specified c) b
bounded_entered m l (cancel i) e b = standing_kept l.trades l.prices i unspecified b
bounded_entered m l (withdraw h a) e b = moved_kept l h _ b
bounded_entered m l (settle s) e b = b
bounded_entered m l (put_back s) e b = moved_kept (entered m l (settle s)) s.holder s.amount b
bounded_entered m l (cash c v) e b = b
bounded_entered m l window e b = b
bounded_entered m l (statement t) e b = b

pub bounded_empty : BoundsKept empty_ledger
bounded_empty =
    record { few = omega arith; small = λ i. ((record { le = tt }, record { le = tt }), omega arith); cheap = all_replicate Cheap contracts None (omega arith) }
