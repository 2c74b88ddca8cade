-- What the words of an order mean. Assumes nothing.
use Rattle.std.specs.Prelude.{ℕ}
use Rattle.rules.specs.Ledger.{Side, buy, sell, Holder, of_client, of_trader, of_member}
use Rattle.rules.specs.Causes.{Call, trade, carry}
use Rattle.orders.specs.declared.Side.{Side as SideWord}
use Rattle.orders.specs.declared.Side.TheVariants.{Buy, Sell}
use Rattle.orders.specs.declared.Holder.{Holder as HolderWord}
use Rattle.orders.specs.declared.Holder.TheVariants.{Client, Trader, Member}
use Rattle.orders.specs.declared.Lot.{Lot}

abbrev pub side_of : SideWord → Side
side_of Buy = buy
side_of Sell = sell

abbrev pub holder_of : HolderWord → Holder
holder_of (Client c) = of_client c
holder_of (Trader t) = of_trader t
holder_of (Member t) = of_member t

-- the calls that enter a lot
abbrev pub trade_of_lot : ℕ → Lot → Call
trade_of_lot t x = trade t x.contract (side_of x.side) x.quantity x.price

abbrev pub carry_of_lot : ℕ → Lot → Call
carry_of_lot c x = carry c x.contract (side_of x.side) x.quantity x.price
