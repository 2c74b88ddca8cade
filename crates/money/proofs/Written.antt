-- A row that was lent and changed, by what it means. Assumes nothing.
use Rattle.std.proofs.Common.{◌≡◌, ℕ, ◌<◌, List, map, length, get_or, set, ℤ, ◌+ℤ◌, sym, ap, ◌∙◌}
use Rattle.std.proofs.lemmas.List.{map-set, get_or-map}
use Rattle.cells.specs.declared.rows.Rows.{Rows}
use Rattle.cells.specs.Lent.{with_row}
use Rattle.cells.specs.Listed.{listed}
use Rattle.cells.proofs.Rowed.{listed_lent}
use Rattle.rules.specs.Ledger.{Client, Trader, more, more_own, more_favour, no_client, no_trader}
use Rattle.rules.specs.Causes.{with_cash}
use Rattle.figures.specs.declared.cash.Cash.{Cash}
use Rattle.book.specs.declared.clients.Client.{Client as ClientRow}
use Rattle.book.specs.declared.traders.Trader.{Trader as TraderRow}
use Rattle.book.specs.declared.funds.Fund.{Fund}
use Rattle.book.specs.Means.{client_in, trader_in, clients_in, traders_in}

module _ {X Y : Type 0} {n : ℕ} (f : X → Y) (t : Rows X n) (i : ℕ) where
  pub row_changed : (z : X) (y : Y) → f z ≡ y → map f (listed (with_row t i z)) ≡ set (map f (listed t)) i y
  row_changed z y q = ap (map f) (listed_lent t i z) ∙ map-set f (listed t) i z ∙ ap (set (map f (listed t)) i) q

  pub row_means : (x : X) (d : Y) → (i < length (listed t)) × (x ≡ get_or (listed t) i x) → f x ≡ get_or (map f (listed t)) i d
  row_means x d r = ap f r.1 ∙ sym (get_or-map f (listed t) i x d r.0)

-- ---- another fund in a row

pub client_paid : (ks : List Client) (t : Rows ClientRow 128) (c : ℕ) (x : ClientRow) (fund : Fund) (a : ℤ) → ks ≡ clients_in t → (c < length (listed t)) × (x ≡ get_or (listed t) c x) → fund.amount ≡ (get_or ks c no_client).collateral +ℤ a → clients_in (with_row t c record { trader = x.trader; collateral = fund; cash = x.cash; opening_need = x.opening_need }) ≡ set ks c (more a (get_or ks c no_client))
client_paid ks t c x fund a e r p =
    let q = row_means client_in t c x no_client r ∙ ap (λ (v : List Client). get_or v c no_client) (sym e) in
    row_changed client_in t c record { trader = x.trader; collateral = fund; cash = x.cash; opening_need = x.opening_need } (more a (get_or ks c no_client)) (λ i. record { trader = (q i).trader; collateral = p i; cash = (q i).cash; opening_need = (q i).opening_need }) ∙ ap (λ (v : List Client). set v c (more a (get_or ks c no_client))) (sym e)

pub own_paid : (us : List Trader) (t : Rows TraderRow 16) (k : ℕ) (x : TraderRow) (fund : Fund) (a : ℤ) → us ≡ traders_in t → (k < length (listed t)) × (x ≡ get_or (listed t) k x) → fund.amount ≡ (get_or us k no_trader).own +ℤ a → traders_in (with_row t k record { intraday = x.intraday; defaults = x.defaults; own = fund; favour = x.favour }) ≡ set us k (more_own a (get_or us k no_trader))
own_paid us t k x fund a e r p =
    let q = row_means trader_in t k x no_trader r ∙ ap (λ (v : List Trader). get_or v k no_trader) (sym e) in
    row_changed trader_in t k record { intraday = x.intraday; defaults = x.defaults; own = fund; favour = x.favour } (more_own a (get_or us k no_trader)) (λ i. record { intraday = (q i).intraday; defaults = (q i).defaults; own = p i; favour = (q i).favour }) ∙ ap (λ (v : List Trader). set v k (more_own a (get_or us k no_trader))) (sym e)

pub favour_paid : (us : List Trader) (t : Rows TraderRow 16) (k : ℕ) (x : TraderRow) (fund : Fund) (a : ℤ) → us ≡ traders_in t → (k < length (listed t)) × (x ≡ get_or (listed t) k x) → fund.amount ≡ (get_or us k no_trader).favour +ℤ a → traders_in (with_row t k record { intraday = x.intraday; defaults = x.defaults; own = x.own; favour = fund }) ≡ set us k (more_favour a (get_or us k no_trader))
favour_paid us t k x fund a e r p =
    let q = row_means trader_in t k x no_trader r ∙ ap (λ (v : List Trader). get_or v k no_trader) (sym e) in
    row_changed trader_in t k record { intraday = x.intraday; defaults = x.defaults; own = x.own; favour = fund } (more_favour a (get_or us k no_trader)) (λ i. record { intraday = (q i).intraday; defaults = (q i).defaults; own = (q i).own; favour = p i }) ∙ ap (λ (v : List Trader). set v k (more_favour a (get_or us k no_trader))) (sym e)

-- ---- another settlement amount in a row
pub cash_set : (t : Rows ClientRow 128) (c : ℕ) (x : ClientRow) (k : Cash) (v : ℤ) → (c < length (listed t)) × (x ≡ get_or (listed t) c x) → k.amount ≡ v → clients_in (with_row t c record { trader = x.trader; collateral = x.collateral; cash = k; opening_need = x.opening_need }) ≡ set (clients_in t) c (with_cash v (get_or (clients_in t) c no_client))
cash_set t c x k v r p =
    let q = row_means client_in t c x no_client r in
    row_changed client_in t c record { trader = x.trader; collateral = x.collateral; cash = k; opening_need = x.opening_need } (with_cash v (get_or (clients_in t) c no_client)) (λ i. record { trader = (q i).trader; collateral = (q i).collateral; cash = p i; opening_need = (q i).opening_need })
