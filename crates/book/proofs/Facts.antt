-- What every book keeps, by the types of its rows. Assumes nothing.
use Rattle.std.proofs.Common.{◌≡◌, ℕ, zero, suc, ◌≤◌, List, [], ◌∷◌, map, length, get_or, ℤ, pos, ◌+ℤ◌, nat_abs, ◌≤ℤ◌, None, sym, subst, arith}
use Rattle.std.proofs.lemmas.List.{length-map}
use Rattle.std.proofs.lemmas.Int.{ints}
use Rattle.cells.specs.Listed.{listed}
use Rattle.cells.proofs.Rowed.{length_listed}
use Rattle.figures.specs.declared.position.Position.{Position}
use Rattle.scenario.specs.Table.{ScenarioTable}
use Rattle.rules.specs.Bounds.{most_amount, most_quantity}
use Rattle.rules.specs.Ledger.{Holder, of_client, of_trader, of_member, Slip, Trader, Client, no_slip, no_trader, no_client, no_trade, collateral_in}
use Rattle.rules.specs.Causes.{Call, entered, cause, amounts_of}
use Rattle.rules.specs.Sound.{Upto, Near, Small}
use Rattle.rules.proofs.Funds.{FundsKept, funded_entered}
use Rattle.rules.proofs.Bounded.{BoundsKept}
use Rattle.book.specs.declared.books.Book.{Book}
use Rattle.book.specs.declared.funds.Fund.{Fund}
use Rattle.book.specs.declared.trades.standing.TradeCell.{TradeCell}
use Rattle.book.specs.declared.trades.standing.TradeCell.TheVariants.{Empty, Unspecified, Specified, Carried}
use Rattle.book.specs.Means.{trader_in, client_in, slip_in, trade_in}
use Rattle.book.specs.Ledgers.{ledger_in}
use Rattle.book.specs.Tabled.{cells_in}

all_mapped : {X Y : Type 0} (P : Y → Type 0) (f : X → Y) (d : Y) → ((x : X) → P (f x)) → P d → (xs : List X) (j : ℕ) → P (get_or (map f xs) j d)
all_mapped P f d h e [] j = e
all_mapped P f d h e (x ∷ xs) zero = h x
all_mapped P f d h e (x ∷ xs) (suc j) = all_mapped P f d h e xs j

low : (f : Fund) → pos 0 ≤ℤ f.amount
low f = f.low

none : pos 0 ≤ℤ pos 0
none = omega (arith, ints)

-- no amount is below 0, and no holder has more than it may
pub funded_in : (b : Book) → FundsKept (ledger_in b)
funded_in b =
    record {
      granted = all_mapped (λ (t : Trader). Upto most_amount t.intraday) trader_in no_trader (λ x. (x.intraday.low, x.intraday.high)) (none, omega (arith, ints)) (listed b.traders);
      covered = covered;
      paid = all_mapped (λ (s : Slip). pos 0 ≤ℤ s.amount) slip_in no_slip (λ x. x.amount.low) none (listed b.slips);
      capped = b.capped;
    }
  where
    covered : (h : Holder) → pos 0 ≤ℤ collateral_in (ledger_in b).traders (ledger_in b).clients h
    covered (of_client c) = all_mapped (λ (x : Client). pos 0 ≤ℤ x.collateral) client_in no_client (λ x. x.collateral.low) none (listed b.clients) c
    covered (of_trader t) = all_mapped (λ (x : Trader). pos 0 ≤ℤ x.own) trader_in no_trader (λ x. x.own.low) none (listed b.traders) t
    covered (of_member t) = all_mapped (λ (x : Trader). pos 0 ≤ℤ x.favour) trader_in no_trader (λ x. x.favour.low) none (listed b.traders) t

-- so no holder has more than it may after an accepted call
pub capped_after : (m : ScenarioTable) (b : Book) (x : Call) → cause m (ledger_in b) x ≡ None → (ts : List Trader) (cs : List Client) (ss : List Slip) → ts ≡ (entered m (ledger_in b) x).traders → cs ≡ (entered m (ledger_in b) x).clients → ss ≡ (entered m (ledger_in b) x).slips → (h : Holder) → (collateral_in ts cs h +ℤ amounts_of ss h) ≤ℤ pos most_amount
capped_after m b x e ts cs ss et ec es h =
    subst (λ (us : List Trader). (collateral_in us cs h +ℤ amounts_of ss h) ≤ℤ pos most_amount) (sym et)
    (subst (λ (ds : List Client). (collateral_in (entered m (ledger_in b) x).traders ds h +ℤ amounts_of ss h) ≤ℤ pos most_amount) (sym ec)
    (subst (λ (us : List Slip). (collateral_in (entered m (ledger_in b) x).traders (entered m (ledger_in b) x).clients h +ℤ amounts_of us h) ≤ℤ pos most_amount) (sym es)
    ((funded_entered m (ledger_in b) x e (funded_in b)).capped h)))

near : (p : Position) → Near most_quantity p.quantity
near p = go p.quantity p.few
  where
    go : (q : ℤ) → nat_abs q ≤ 10000 → Near most_quantity q
    go q h = (omega (arith, ints), omega (arith, ints))

-- trades are few and small, and prices are in their range
pub bounded_in : (b : Book) → BoundsKept (ledger_in b)
bounded_in b =
    record {
      few = omega (arith, length-map (cells_in b.trades) trade_in, length_listed b.trades.rows, b.trades.rows.within);
      small = all_mapped Small trade_in no_trade small ((omega (arith, ints), omega (arith, ints)), omega arith) (cells_in b.trades);
      cheap = b.prices.low;
    }
  where
    small : (x : TradeCell) → Small (trade_in x)
    small Empty = ((omega (arith, ints), omega (arith, ints)), omega arith)
    small (Unspecified t) = (near t.position, t.position.low)
    small (Specified t c) = (near t.position, t.position.low)
    small (Carried t c) = (near t.position, t.position.low)

-- numbers of traders and clients are small
pub few_clients : (b : Book) → length (ledger_in b).clients ≤ 128
few_clients b = omega (arith, length-map (listed b.clients) client_in, length_listed b.clients, b.clients.within)

pub few_traders : (b : Book) → length (ledger_in b).traders ≤ 16
few_traders b = omega (arith, length-map (listed b.traders) trader_in, length_listed b.traders, b.traders.within)
