-- The ledger of a day: what the accepted calls have entered, and nothing that an engine keeps. Assumes nothing.
use Rattle.std.specs.Prelude.{ℕ, Bool, true, false, cond, ◌&&◌, List, [], ◌∷◌, get_or, replicate, ℤ, pos, ◌+ℤ◌, neg_ℤ, Some, None, Option, ◌==◌, int_le, slice_index_or, slice_set}
use Rattle.figures.specs.Figures.{Position}
use Rattle.rules.specs.Bounds.{contracts}

pub data Side : Type 0 where
  buy : Side
  sell : Side

-- whose collateral it is: a client's, a trader's own, or the member's in favour of a trader
pub data Holder : Type 0 where
  of_client : ℕ → Holder
  of_trader : ℕ → Holder
  of_member : ℕ → Holder

-- what a withdrawal hands out
pub record Slip : Type 0 where
  pub serial : ℕ
  pub holder : Holder
  pub amount : ℤ

-- where a trade stands: with no client yet, given to a client, or carried from yesterday for a client
pub data Standing : Type 0 where
  unspecified : Standing
  specified : ℕ → Standing
  carried : ℕ → Standing

pub record Trade : Type 0 where
  pub trader : ℕ
  pub position : Position
  pub standing : Standing

pub record Trader : Type 0 where
  -- the intraday limit, and how many of its clients a bad day may name
  pub intraday : ℤ
  pub defaults : ℕ
  -- collateral of its own, and of the member in its favour
  pub own : ℤ
  pub favour : ℤ

pub record Client : Type 0 where
  pub trader : ℕ
  pub collateral : ℤ
  -- the settlement amount of the day
  pub cash : ℤ
  pub opening_need : ℤ

pub record Ledger : Type 0 where
  pub traders : List Trader
  pub clients : List Client
  pub trades : List Trade
  -- the market price of each contract that has one
  pub prices : List (Option ℕ)
  pub slips : List Slip
  -- how many slips were ever made
  pub made : ℕ
  -- whether the settlement window has passed
  pub passed : Bool

abbrev pub empty_ledger : Ledger
empty_ledger = record { traders = []; clients = []; trades = []; prices = replicate contracts None; slips = []; made = 0; passed = false }

abbrev pub signed : Side → ℕ → ℤ
signed buy q = pos q
signed sell q = neg_ℤ (pos q)

-- what stands where a number is not in use
abbrev pub no_trader : Trader
no_trader = record { intraday = pos 0; defaults = 0; own = pos 0; favour = pos 0 }

abbrev pub no_client : Client
no_client = record { trader = 0; collateral = pos 0; cash = pos 0; opening_need = pos 0 }

abbrev pub no_trade : Trade
no_trade = record { trader = 0; position = record { contract = 0; quantity = pos 0; price = 0 }; standing = unspecified }

abbrev pub no_slip : Slip
no_slip = record { serial = 0; holder = of_client 0; amount = pos 0 }

abbrev pub trader_of : Ledger → ℕ → Trader
trader_of l t = slice_index_or l.traders t no_trader

abbrev pub client_of : Ledger → ℕ → Client
client_of l c = slice_index_or l.clients c no_client

abbrev pub trade_of : Ledger → ℕ → Trade
trade_of l i = slice_index_or l.trades i no_trade

abbrev pub price_of : Ledger → ℕ → Option ℕ
price_of l c = slice_index_or l.prices c None

-- the market price, where there is one
abbrev pub market : Ledger → ℕ → ℕ
market l c = elim (price_of l c) [ Some p ↦ p | None ↦ 0 ]

-- a holder's collateral, by lists of traders and of clients
abbrev pub collateral_in : List Trader → List Client → Holder → ℤ
collateral_in ts cs (of_client c) = (get_or cs c no_client).collateral
collateral_in ts cs (of_trader t) = (get_or ts t no_trader).own
collateral_in ts cs (of_member t) = (get_or ts t no_trader).favour

abbrev pub collateral_of : Ledger → Holder → ℤ
collateral_of l h = collateral_in l.traders l.clients h

-- the trader whose limit a holder's collateral stands behind
abbrev pub holders_trader : Ledger → Holder → ℕ
holders_trader l (of_client c) = (client_of l c).trader
holders_trader l (of_trader t) = t
holders_trader l (of_member t) = t

-- an amount more, or less: of a client's collateral, a trader's own, or the member's in favour of a trader
abbrev pub more : ℤ → Client → Client
more a x = record { trader = x.trader; collateral = x.collateral +ℤ a; cash = x.cash; opening_need = x.opening_need }

abbrev pub more_own : ℤ → Trader → Trader
more_own a x = record { intraday = x.intraday; defaults = x.defaults; own = x.own +ℤ a; favour = x.favour }

abbrev pub more_favour : ℤ → Trader → Trader
more_favour a x = record { intraday = x.intraday; defaults = x.defaults; own = x.own; favour = x.favour +ℤ a }

abbrev pub with_traders : Ledger → List Trader → Ledger
with_traders l xs = record { traders = xs; clients = l.clients; trades = l.trades; prices = l.prices; slips = l.slips; made = l.made; passed = l.passed }

-- the clients, and whether the window has passed
abbrev pub with_clients : Ledger → List Client → Bool → Ledger
with_clients l xs p = record { traders = l.traders; clients = xs; trades = l.trades; prices = l.prices; slips = l.slips; made = l.made; passed = p }

-- an amount more, or less, for a holder
abbrev pub moved : Ledger → Holder → ℤ → Ledger
moved l (of_client c) a = with_clients l (slice_set l.clients c (more a (client_of l c))) l.passed
moved l (of_trader t) a = with_traders l (slice_set l.traders t (more_own a (trader_of l t)))
moved l (of_member t) a = with_traders l (slice_set l.traders t (more_favour a (trader_of l t)))

abbrev pub same_holder : Holder → Holder → Bool
same_holder (of_client a) (of_client b) = a == b
same_holder (of_client a) (of_trader b) = false
same_holder (of_client a) (of_member b) = false
same_holder (of_trader a) (of_client b) = false
same_holder (of_trader a) (of_trader b) = a == b
same_holder (of_trader a) (of_member b) = false
same_holder (of_member a) (of_client b) = false
same_holder (of_member a) (of_trader b) = false
same_holder (of_member a) (of_member b) = a == b

abbrev pub same_slip : Slip → Slip → Bool
same_slip a b = a.serial == b.serial && same_holder a.holder b.holder && (int_le a.amount b.amount && int_le b.amount a.amount)

-- a list without the first slip that is the same
abbrev pub struck : Slip → List Slip → List Slip
struck s [] = []
struck s (x ∷ xs) = cond (same_slip s x) xs (x ∷ struck s xs)

abbrev pub is_standing : Slip → List Slip → Bool
is_standing s [] = false
is_standing s (x ∷ xs) = cond (same_slip s x) true (is_standing s xs)
