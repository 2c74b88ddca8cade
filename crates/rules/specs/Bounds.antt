-- How many and how large the things of a ledger may be. Money is in centavos, prices in ticks. Assumes nothing.
use Rattle.std.specs.Prelude.{ℕ}

abbrev pub contracts : ℕ
contracts = 256

abbrev pub most_traders : ℕ
most_traders = 16

abbrev pub most_clients : ℕ
most_clients = 128

abbrev pub most_trades : ℕ
most_trades = 1024

-- slips that stand at one time, and slips of a whole day
abbrev pub most_standing : ℕ
most_standing = 32

abbrev pub most_slips : ℕ
most_slips = 1000000000

-- how many of a trader's clients a bad day may name
abbrev pub most_defaults : ℕ
most_defaults = 128

abbrev pub most_quantity : ℕ
most_quantity = 10000

abbrev pub most_price : ℕ
most_price = 100000

-- an intraday limit, one deposit or withdrawal, and the collateral of a holder with its standing slips
abbrev pub most_amount : ℕ
most_amount = 1000000000000000

-- what stands behind a trader: its intraday limit, its own collateral, and the member's
abbrev pub most_backing : ℕ
most_backing = 3000000000000000

-- a settlement amount, either way
abbrev pub most_cash : ℕ
most_cash = 10000000000000

-- what sums of values may reach, either way
abbrev pub most_reach : ℕ
most_reach = 9000000000000000000

-- what one trade's value can reach by the bounds above and a lawful table, and what all values together can
abbrev pub farthest_value : ℕ
farthest_value = 11000000000000

abbrev pub farthest : ℕ
farthest = 11264000000000000
