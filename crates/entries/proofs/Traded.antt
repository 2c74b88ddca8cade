-- Trades that are entered, given to clients and taken from them. Assumes nothing.
use Rattle.std.proofs.Common.{◌≡◌, ℕ, ◌<◌, Bool, true, false, cond, not, ltb, List, map, length, get_or, set, Some, None, Ok, Err, Option, Result, sym, refl, ap, ◌∙◌, arith}
use Rattle.std.proofs.lemmas.List.{map-set, get_or-map, length-map}
use Rattle.std.proofs.lemmas.Bool.{or_from, eq-eqb, false≢true}
use Rattle.scenario.specs.Table.{ScenarioTable, Lawful}
use Rattle.orders.specs.declared.Lot.{Lot}
use Rattle.orders.specs.Meant.{trade_of_lot, carry_of_lot}
use Rattle.orders.specs.Replied.{answered}
use Rattle.refusals.specs.declared.Refusal.{Refusal}
use Rattle.refusals.specs.Numbers.{number_of}
use Rattle.rules.specs.Bounds.{most_trades}
use Rattle.rules.specs.Ledger.{Ledger, Trade, Standing, unspecified, specified, carried, no_trade, client_of, trade_of, price_of}
use Rattle.rules.specs.Causes.{specify, cause, entered, absent, beyond_the_word, is_lot, is_unspecified, no_such_trader, no_such_client, no_such_trade, standing_now}
use Rattle.rules.specs.Answers.{Answered, numbered}
use Rattle.rules.proofs.Answered.{refuses, accepts}
use Rattle.rules.proofs.Bounded.{BoundsKept}
use Rattle.rules.proofs.Rows.{skip}
use Rattle.rules.proofs.Words.{never}
use Rattle.book.specs.declared.trades.standing.TradeCell.{TradeCell}
use Rattle.book.specs.declared.trades.standing.TradeCell.TheVariants.{Empty, Unspecified, Specified, Carried}
use Rattle.book.specs.declared.trades.standing.Change.{Change}
use Rattle.book.specs.declared.trades.standing.Change.TheVariants.{Specify, Cancel}
use Rattle.book.specs.Filled.{is_filled}
use Rattle.book.specs.Means.{trade_in}
use Rattle.book.specs.Standings.{cell_after, change_answer}
use Rattle.entries.specs.Lots.{placed_in, lot_cause, LotEntered}

-- ---- the contract of a lot

-- a contract that is placed is known, and is the one that was asked for
pub placed_known : (m : ScenarioTable) (k c : ℕ) → Some c ≡ placed_in m k → (absent (m.place k) ≡ false) × (c ≡ k)
placed_known m k c e = go (m.place k) e
  where
    go : (o : Option (ℕ × ℕ)) → Some c ≡ elim o as (λ _. Option ℕ) [ Some p ↦ Some k | None ↦ None ] → (absent o ≡ false) × (c ≡ k)
    go (Some p) q = (refl, cc)
    go None q = let z : ◌≡◌ {A = ℕ} 0 1 = cc in absurd (omega arith)

-- ---- the rows of an entry

-- three rows, and then others
abbrev rows_of_a_lot : Bool → Bool → Bool → Option ℕ → Option ℕ
rows_of_a_lot a b c o = cond a (Some 11) (cond b (Some 12) (cond c (Some 13) o))

-- the last row, that values go beyond the word, never holds
last_row : (a b c d : Bool) → (rows_of_a_lot a b c (cond d (Some 22) None) ≡ Some 22 → ⊥) → rows_of_a_lot a b c (cond d (Some 22) None) ≡ rows_of_a_lot a b c None
last_row true b c d f = refl
last_row false true c d f = refl
last_row false false true d f = refl
last_row false false false true f = absurd (f refl)
last_row false false false false f = refl

module _ (m : ScenarioTable) (w : Lawful m) (l : Ledger) (kept : BoundsKept l) (x : Lot) (k : ℕ) (same : k ≡ x.contract) (known : absent (m.place x.contract) ≡ false) where
  -- a known contract of a known trader or client: the rows of the lot decide
  trade_cause : (t : ℕ) → no_such_trader l t ≡ false → cause m l (trade_of_lot t x) ≡ lot_cause l x.contract x
  trade_cause t e = skip _ 10 _ _ (or_from _ _ e known) (last_row (not (ltb (length l.trades) most_trades)) (not (is_lot x.quantity x.price)) (absent (price_of l x.contract)) (beyond_the_word m (entered m l (trade_of_lot t x))) (λ q. never m w l kept (trade_of_lot t x) (skip _ 10 _ _ (or_from _ _ e known) q)))

  carry_cause : (c : ℕ) → no_such_client l c ≡ false → cause m l (carry_of_lot c x) ≡ lot_cause l x.contract x
  carry_cause c e = skip _ 10 _ _ (or_from _ _ e known) (last_row (not (ltb (length l.trades) most_trades)) (not (is_lot x.quantity x.price)) (absent (price_of l x.contract)) (beyond_the_word m (entered m l (carry_of_lot c x))) (λ q. never m w l kept (carry_of_lot c x) (skip _ 10 _ _ (or_from _ _ e known) q)))

  pub trade_entered : (t t' : ℕ) (r : Result ℕ Refusal) (l' : Ledger) → t' ≡ t → no_such_trader l t ≡ false → LotEntered l t' k x unspecified r l' → Answered m l (trade_of_lot t x) (answered numbered r) l'
  trade_entered t t' r l' q e h = go r (rw (q, same) at h)
    where
      go : (r : Result ℕ Refusal) → LotEntered l t x.contract x unspecified r l' → Answered m l (trade_of_lot t x) (answered numbered r) l'
      go (Ok n) g = accepts m l (trade_of_lot t x) (numbered n) l' (trade_cause t e ∙ sym g.caused) (ap numbered g.numbers) g.leaves
      go (Err f) g = rw g.leaves (refuses m l (trade_of_lot t x) (number_of f) (trade_cause t e ∙ sym g.caused))

  pub carry_entered : (c c' t : ℕ) (r : Result ℕ Refusal) (l' : Ledger) → c' ≡ c → t ≡ (client_of l c).trader → no_such_client l c ≡ false → LotEntered l t k x (carried c') r l' → Answered m l (carry_of_lot c x) (answered numbered r) l'
  carry_entered c c' t r l' q o e h = go r (rw (q, o, same) at h)
    where
      go : (r : Result ℕ Refusal) → LotEntered l (client_of l c).trader x.contract x (carried c) r l' → Answered m l (carry_of_lot c x) (answered numbered r) l'
      go (Ok n) g = accepts m l (carry_of_lot c x) (numbered n) l' (carry_cause c e ∙ sym g.caused) (ap numbered g.numbers) g.leaves
      go (Err f) g = rw g.leaves (refuses m l (carry_of_lot c x) (number_of f) (carry_cause c e ∙ sym g.caused))

-- ---- where a trade stands

pub given : (y : TradeCell) (c : ℕ) → is_filled y ≡ true → (trade_in y).standing ≡ unspecified → (change_answer y (Specify c) ≡ Ok tt) × (trade_in (cell_after y (Specify c)) ≡ standing_now (specified c) (trade_in y))
given Empty c f e = absurd (false≢true f)
given (Unspecified t) c f e = (refl, refl)
given (Specified t d) c f e = let z : ◌≡◌ {A = ℕ} 0 1 = cc in absurd (omega arith)
given (Carried t d) c f e = let z : ◌≡◌ {A = ℕ} 0 1 = cc in absurd (omega arith)

pub taken : (y : TradeCell) (d : ℕ) → (trade_in y).standing ≡ specified d → (change_answer y Cancel ≡ Ok tt) × (trade_in (cell_after y Cancel) ≡ standing_now unspecified (trade_in y))
taken Empty d e = let z : ◌≡◌ {A = ℕ} 0 1 = cc in absurd (omega arith)
taken (Unspecified t) d e = let z : ◌≡◌ {A = ℕ} 0 1 = cc in absurd (omega arith)
taken (Specified t c) d e = (refl, refl)
taken (Carried t c) d e = let z : ◌≡◌ {A = ℕ} 0 1 = cc in absurd (omega arith)

-- a cell that changes is a trade that stands otherwise
pub cell_changed : (xs ys : List TradeCell) (i : ℕ) (c : Change) (s : Standing) → i < length xs → trade_in (cell_after (get_or xs i Empty) c) ≡ standing_now s (trade_in (get_or xs i Empty)) → ys ≡ set xs i (cell_after (get_or xs i Empty) c) → map trade_in ys ≡ set (map trade_in xs) i (standing_now s (get_or (map trade_in xs) i no_trade))
cell_changed xs ys i c s h q p =
    ap (map trade_in) p ∙ map-set trade_in xs i _
    ∙ ap (set (map trade_in xs) i) (q ∙ ap (standing_now s) (sym (get_or-map trade_in xs i Empty no_trade h)))

-- the trade in a cell
pub cell_read : (xs : List TradeCell) (i : ℕ) → i < length (map trade_in xs) → (i < length xs) × (trade_in (get_or xs i Empty) ≡ get_or (map trade_in xs) i no_trade)
cell_read xs i h = let k : i < length xs = omega (arith, length-map xs trade_in) in (k, sym (get_or-map trade_in xs i Empty no_trade k))

pub specify_free : (m : ScenarioTable) (l : Ledger) (i c : ℕ) → no_such_trade l i ≡ false → no_such_client l c ≡ false → is_unspecified (trade_of l i) ≡ true → (client_of l c).trader ≡ (trade_of l i).trader → cause m l (specify i c) ≡ None
specify_free m l i c a b d e = skip _ 10 _ _ (or_from _ _ a b) (skip _ 16 _ _ (ap not d) (skip _ 17 _ _ (ap not (eq-eqb _ _ e)) refl))

-- the ledger with other trades
abbrev pub with_trades : Ledger → List Trade → Ledger
with_trades l xs = record { traders = l.traders; clients = l.clients; trades = xs; prices = l.prices; slips = l.slips; made = l.made; passed = l.passed }

-- a trade whose cell was read
module _ (xs : List TradeCell) (i : ℕ) (h : i < length (map trade_in xs)) (x : TradeCell) (e : trade_in x ≡ get_or (map trade_in xs) i no_trade) where
  same_trade : trade_in (get_or xs i Empty) ≡ trade_in x
  same_trade = (cell_read xs i h).1 ∙ sym e

  -- one with no client goes to a client
  pub given_at : (c : ℕ) (r : Result (Unit {0}) Refusal) (ys : List TradeCell) → is_filled (get_or xs i Empty) ≡ true → (trade_in x).standing ≡ unspecified → (i < length xs → (r ≡ change_answer (get_or xs i Empty) (Specify c)) × (ys ≡ set xs i (cell_after (get_or xs i Empty) (Specify c)))) → (r ≡ Ok tt) × (map trade_in ys ≡ set (map trade_in xs) i (standing_now (specified c) (get_or (map trade_in xs) i no_trade)))
  given_at c r ys f s k =
      let l = (cell_read xs i h).0 in
      let g = given (get_or xs i Empty) c f (ap (λ (t : Trade). t.standing) same_trade ∙ s) in
      ((k l).0 ∙ g.0, cell_changed xs ys i (Specify c) (specified c) l g.1 (k l).1)

  -- one that was given to a client is taken from it
  pub taken_at : (d : ℕ) (r : Result (Unit {0}) Refusal) (ys : List TradeCell) → (trade_in x).standing ≡ specified d → (i < length xs → (r ≡ change_answer (get_or xs i Empty) Cancel) × (ys ≡ set xs i (cell_after (get_or xs i Empty) Cancel))) → (r ≡ Ok tt) × (map trade_in ys ≡ set (map trade_in xs) i (standing_now unspecified (get_or (map trade_in xs) i no_trade)))
  taken_at d r ys s k =
      let l = (cell_read xs i h).0 in
      let g = taken (get_or xs i Empty) d (ap (λ (t : Trade). t.standing) same_trade ∙ s) in
      ((k l).0 ∙ g.0, cell_changed xs ys i Cancel unspecified l g.1 (k l).1)
