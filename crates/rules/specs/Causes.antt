-- The calls of a day, why one is refused, and what an accepted one enters. Assumes nothing.
use Rattle.std.specs.Prelude.{ℕ, ◌+◌, Bool, true, false, cond, not, ◌&&◌, ◌||◌, List, [], ◌∷◌, ◌++◌, map, length, ℤ, pos, negsuc, ◌+ℤ◌, ◌-ℤ◌, neg_ℤ, Some, None, Option, ◌==◌, int_lt, nat_le, nat_lt, slice_set}
use Rattle.scenario.specs.Table.{ScenarioTable}
use Rattle.figures.specs.Sums.{larger, floored, total, greatest_below}
use Rattle.figures.specs.Figures.{value}
use Rattle.rules.specs.Bounds.{most_traders, most_clients, most_trades, most_standing, most_slips, most_defaults, most_quantity, most_price, most_amount, most_cash, most_reach}
use Rattle.rules.specs.Ledger.{Side, Holder, of_client, of_trader, of_member, Slip, Standing, unspecified, specified, carried, Trade, Trader, Client, Ledger, signed, client_of, trade_of, price_of, collateral_of, market, holders_trader, with_traders, with_clients, moved, same_holder, struck, is_standing}
use Rattle.rules.specs.Limits.{need_of, limit}

pub data Call : Type 0 where
  trader : ℤ → ℤ → Call
  client : ℕ → Call
  carry : ℕ → ℕ → Side → ℕ → ℕ → Call
  price : ℕ → ℕ → Call
  deposit : Holder → ℤ → Call
  opening : Call
  trade : ℕ → ℕ → Side → ℕ → ℕ → Call
  specify : ℕ → ℕ → Call
  cancel : ℕ → Call
  withdraw : Holder → ℤ → Call
  settle : Slip → Call
  put_back : Slip → Call
  cash : ℕ → ℤ → Call
  window : Call
  statement : ℕ → Call

-- ---- conditions

abbrev pub within : ℤ → ℤ → ℤ → Bool
within low high x = not (int_lt x low) && not (int_lt high x)

abbrev pub between : ℕ → ℕ → ℕ → Bool
between low high x = nat_le low x && nat_le x high

abbrev pub no_such_trader : Ledger → ℕ → Bool
no_such_trader l t = not (nat_lt t (length l.traders))

abbrev pub no_such_client : Ledger → ℕ → Bool
no_such_client l c = not (nat_lt c (length l.clients))

abbrev pub no_such_trade : Ledger → ℕ → Bool
no_such_trade l i = not (nat_lt i (length l.trades))

abbrev pub no_such_holder : Ledger → Holder → Bool
no_such_holder l (of_client c) = no_such_client l c
no_such_holder l (of_trader t) = no_such_trader l t
no_such_holder l (of_member t) = no_such_trader l t

abbrev pub absent : {A : Type 0} → Option A → Bool
absent None = true
absent (Some x) = false

abbrev pub is_amount : ℤ → Bool
is_amount a = within (pos 1) (pos most_amount) a

abbrev pub is_lot : ℕ → ℕ → Bool
is_lot q p = between 1 most_quantity q && between 1 most_price p

abbrev pub is_unspecified : Trade → Bool
is_unspecified t = elim t.standing [ unspecified ↦ true | specified c ↦ false | carried c ↦ false ]

abbrev pub is_specified : Trade → Bool
is_specified t = elim t.standing [ unspecified ↦ false | specified c ↦ true | carried c ↦ false ]

-- the amounts of a holder's slips, of a list or standing
abbrev pub amounts_of : List Slip → Holder → ℤ
amounts_of ss h = total (λ s. cond (same_holder h s.holder) s.amount (pos 0)) ss

abbrev pub slips_of : Ledger → Holder → ℤ
slips_of l h = amounts_of l.slips h

-- ---- what an accepted call enters

abbrev pub new_trader : ℤ → ℤ → Trader
new_trader a n = record { intraday = a; defaults = elim n [ pos k ↦ k | negsuc k ↦ 0 ]; own = pos 0; favour = pos 0 }

abbrev pub new_client : ℕ → Client
new_client t = record { trader = t; collateral = pos 0; cash = pos 0; opening_need = pos 0 }

abbrev pub new_trade : ℕ → ℕ → Side → ℕ → ℕ → Standing → Trade
new_trade t k side q p x = record { trader = t; position = record { contract = k; quantity = signed side q; price = p }; standing = x }

-- the same trade, standing otherwise
abbrev pub standing_now : Standing → Trade → Trade
standing_now x t = record { trader = t.trader; position = t.position; standing = x }

-- serials rise by one from 1
abbrev pub next_slip : Ledger → Holder → ℤ → Slip
next_slip l h a = record { serial = l.made + 1; holder = h; amount = a }

abbrev pub with_trade : Ledger → Trade → Ledger
with_trade l t = record { traders = l.traders; clients = l.clients; trades = l.trades ++ (t ∷ []); prices = l.prices; slips = l.slips; made = l.made; passed = l.passed }

abbrev pub standing_as : Ledger → ℕ → Standing → Ledger
standing_as l i x = record { traders = l.traders; clients = l.clients; trades = slice_set l.trades i (standing_now x (trade_of l i)); prices = l.prices; slips = l.slips; made = l.made; passed = l.passed }

abbrev pub with_prices : Ledger → List (Option ℕ) → Ledger
with_prices l xs = record { traders = l.traders; clients = l.clients; trades = l.trades; prices = xs; slips = l.slips; made = l.made; passed = l.passed }

abbrev pub with_slips : Ledger → List Slip → ℕ → Ledger
with_slips l xs n = record { traders = l.traders; clients = l.clients; trades = l.trades; prices = l.prices; slips = xs; made = n; passed = l.passed }

abbrev pub with_cash : ℤ → Client → Client
with_cash v x = record { trader = x.trader; collateral = x.collateral; cash = v; opening_need = x.opening_need }

-- the clients from number i on, each with its need as its opening need
abbrev pub opened : (ℕ → ℤ) → ℕ → List Client → List Client
opened f i [] = []
opened f i (x ∷ xs) = record { trader = x.trader; collateral = x.collateral; cash = x.cash; opening_need = f i } ∷ opened f (i + 1) xs

abbrev pub entered : ScenarioTable → Ledger → Call → Ledger
entered m l (trader a n) = with_traders l (l.traders ++ (new_trader a n ∷ []))
entered m l (client t) = with_clients l (l.clients ++ (new_client t ∷ [])) l.passed
entered m l (carry c k side q p) = with_trade l (new_trade (client_of l c).trader k side q p (carried c))
entered m l (price k p) = with_prices l (slice_set l.prices k (Some p))
entered m l (deposit h a) = moved l h a
entered m l opening = with_clients l (opened (need_of m l) 0 l.clients) l.passed
entered m l (trade t k side q p) = with_trade l (new_trade t k side q p unspecified)
entered m l (specify i c) = standing_as l i (specified c)
entered m l (cancel i) = standing_as l i unspecified
entered m l (withdraw h a) = with_slips (moved l h (neg_ℤ a)) (l.slips ++ (next_slip l h a ∷ [])) (l.made + 1)
entered m l (settle s) = with_slips l (struck s l.slips) l.made
entered m l (put_back s) = moved (with_slips l (struck s l.slips) l.made) s.holder s.amount
entered m l (cash c v) = with_clients l (slice_set l.clients c (with_cash v (client_of l c))) l.passed
entered m l window = with_clients l (map (with_cash (pos 0)) l.clients) true
entered m l (statement t) = l

-- ---- why a call is refused

-- the greatest sums, either way, that values of some trades in some scenarios reach
abbrev pub reach : ScenarioTable → Ledger → (ℤ → ℤ) → ℤ
reach m l way = total (λ t. elim (m.place t.position.contract) [ Some p ↦ greatest_below (m.scenarios p.0) (λ s. floored (way (value m (market l) s t.position))) | None ↦ pos 0 ]) l.trades

abbrev pub beyond_the_word : ScenarioTable → Ledger → Bool
beyond_the_word m l = int_lt (pos most_reach) (reach m l (λ v. v)) || int_lt (pos most_reach) (reach m l neg_ℤ)

-- a withdrawal that leaves a client short of its needs
abbrev pub short : ScenarioTable → Ledger → Holder → ℤ → Bool
short m l (of_client c) a = int_lt ((client_of l c).collateral -ℤ a) (larger (client_of l c).opening_need (need_of m l c))
short m l (of_trader t) a = false
short m l (of_member t) a = false

-- the number of the first row that holds, or none
abbrev pub first : List (Bool × ℕ) → Option ℕ
first [] = None
first (r ∷ rs) = cond r.0 (Some r.1) (first rs)

abbrev pub entry_rows : ScenarioTable → Ledger → Bool → ℕ → ℕ → ℕ → Ledger → List (Bool × ℕ)
entry_rows m l stranger k q p after =
    (stranger || absent (m.place k), 10)
    ∷ (not (nat_lt (length l.trades) most_trades), 11)
    ∷ (not (is_lot q p), 12)
    ∷ (absent (price_of l k), 13)
    ∷ (beyond_the_word m after, 22)
    ∷ []

abbrev pub rows : ScenarioTable → Ledger → Call → List (Bool × ℕ)
rows m l (trader a n) = (not (nat_lt (length l.traders) most_traders), 11) ∷ (not (within (pos 0) (pos most_amount) a && within (pos 1) (pos most_defaults) n), 12) ∷ []
rows m l (client t) = (no_such_trader l t, 10) ∷ (not (nat_lt (length l.clients) most_clients), 11) ∷ []
rows m l (carry c k side q p) = entry_rows m l (no_such_client l c) k q p (entered m l (carry c k side q p))
rows m l (price k p) = (absent (m.place k), 10) ∷ (not (between 1 most_price p), 12) ∷ []
rows m l (deposit h a) = (no_such_holder l h, 10) ∷ (not (is_amount a), 12) ∷ (int_lt (pos most_amount) (collateral_of l h +ℤ slips_of l h +ℤ a), 18) ∷ []
rows m l opening = []
rows m l (trade t k side q p) = entry_rows m l (no_such_trader l t) k q p (entered m l (trade t k side q p))
rows m l (specify i c) = (no_such_trade l i || no_such_client l c, 10) ∷ (not (is_unspecified (trade_of l i)), 16) ∷ (not ((client_of l c).trader == (trade_of l i).trader), 17) ∷ []
rows m l (cancel i) =
    let tr = (trade_of l i).trader in
    let left = limit m (entered m l (cancel i)) tr in
    (no_such_trade l i, 10) ∷ (not (is_specified (trade_of l i)), 16) ∷ (int_lt left (limit m l tr) && int_lt left (pos 0), 19) ∷ []
rows m l (withdraw h a) =
    (no_such_holder l h, 10)
    ∷ (not (nat_lt (length l.slips) most_standing) || not (nat_lt l.made most_slips), 11)
    ∷ (not (is_amount a), 12)
    ∷ (int_lt (collateral_of l h) a || short m l h a || int_lt (limit m (entered m l (withdraw h a)) (holders_trader l h)) (pos 0), 19)
    ∷ []
rows m l (settle s) = (not (is_standing s l.slips), 21) ∷ []
rows m l (put_back s) = (not (is_standing s l.slips), 21) ∷ []
rows m l (cash c v) = (no_such_client l c, 10) ∷ (not (within (neg_ℤ (pos most_cash)) (pos most_cash) v), 12) ∷ (l.passed, 20) ∷ []
rows m l window = (l.passed, 20) ∷ []
rows m l (statement t) = (no_such_trader l t, 10) ∷ []

-- why a call is refused, or that it is not
abbrev pub cause : ScenarioTable → Ledger → Call → Option ℕ
cause m l x = first (rows m l x)
