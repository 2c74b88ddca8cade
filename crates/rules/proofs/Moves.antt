-- A holder's amount, moved before other calls or after them. Assumes nothing.
use Rattle.std.proofs.Common.{◌≡◌, ℕ, zero, suc, ◌+◌, ◌<◌, true, false, ltb, List, [], ◌∷◌, ◌++◌, length, get_or, set, ℤ, pos, ◌+ℤ◌, neg_ℤ, refl, ap, arith}
use Rattle.std.proofs.lemmas.Int.{ints}
use Rattle.std.proofs.lemmas.Bool.{ltb-true, not-false}
use Rattle.scenario.specs.Table.{ScenarioTable}
use Rattle.figures.specs.Figures.{need}
use Rattle.rules.specs.Ledger.{Holder, of_client, of_trader, of_member, carried, Trader, Client, Ledger, no_client, no_trader, client_of, market, with_traders, with_clients, more, more_own, more_favour, moved, struck}
use Rattle.rules.specs.Limits.{need_of, held}
use Rattle.rules.specs.Causes.{Call, trader, client, carry, price, deposit, opening, trade, specify, cancel, withdraw, settle, put_back, cash, window, statement, entered, new_trader, new_client, new_trade, next_slip, with_slips, with_trade, with_cash, opened, no_such_holder}
use Rattle.rules.proofs.Places.{field_set, changes, change_map, change_push, change_twice}

abbrev pub Exists : Ledger → Holder → Type 0
Exists l (of_client c) = c < length l.clients
Exists l (of_trader t) = t < length l.traders
Exists l (of_member t) = t < length l.traders

pub holder_exists : (l : Ledger) (h : Holder) → no_such_holder l h ≡ false → Exists l h
holder_exists l (of_client c) e = ltb-true c (length l.clients) (not-false (ltb c (length l.clients)) e)
holder_exists l (of_trader c) e = ltb-true c (length l.traders) (not-false (ltb c (length l.traders)) e)
holder_exists l (of_member c) e = ltb-true c (length l.traders) (not-false (ltb c (length l.traders)) e)

-- ---- two moves

swap_sum : (x a b : ℤ) → (x +ℤ a) +ℤ b ≡ (x +ℤ b) +ℤ a
swap_sum x a b = omega (arith, ints)

join_sum : (x a b : ℤ) → (x +ℤ a) +ℤ b ≡ x +ℤ (a +ℤ b)
join_sum x a b = omega (arith, ints)

more_more : (a b : ℤ) (x : Client) → more b (more a x) ≡ more a (more b x)
more_more a b x = ap (λ (v : ℤ). record { trader = x.trader; collateral = v; cash = x.cash; opening_need = x.opening_need }) (swap_sum x.collateral a b)

own_own : (a b : ℤ) (x : Trader) → more_own b (more_own a x) ≡ more_own a (more_own b x)
own_own a b x = ap (λ (v : ℤ). record { intraday = x.intraday; defaults = x.defaults; own = v; favour = x.favour }) (swap_sum x.own a b)

favour_favour : (a b : ℤ) (x : Trader) → more_favour b (more_favour a x) ≡ more_favour a (more_favour b x)
favour_favour a b x = ap (λ (v : ℤ). record { intraday = x.intraday; defaults = x.defaults; own = x.own; favour = v }) (swap_sum x.favour a b)

pub moves : (l : Ledger) (h k : Holder) (d a : ℤ) → moved (moved l h d) k a ≡ moved (moved l k a) h d
moves l (of_client c) (of_client b) d a = ap (λ (xs : List Client). with_clients l xs l.passed) (changes (more d) (more a) no_client (more_more d a) l.clients c b)
moves l (of_client c) (of_trader t) d a = refl
moves l (of_client c) (of_member t) d a = refl
moves l (of_trader c) (of_client b) d a = refl
moves l (of_trader c) (of_trader t) d a = ap (with_traders l) (changes (more_own d) (more_own a) no_trader (own_own d a) l.traders c t)
moves l (of_trader c) (of_member t) d a = ap (with_traders l) (changes (more_own d) (more_favour a) no_trader (λ x. refl) l.traders c t)
moves l (of_member c) (of_client b) d a = refl
moves l (of_member c) (of_trader t) d a = ap (with_traders l) (changes (more_favour d) (more_own a) no_trader (λ x. refl) l.traders c t)
moves l (of_member c) (of_member t) d a = ap (with_traders l) (changes (more_favour d) (more_favour a) no_trader (favour_favour d a) l.traders c t)

pub moved_twice : (l : Ledger) (h : Holder) (a d : ℤ) → moved (moved l h a) h d ≡ moved l h (a +ℤ d)
moved_twice l (of_client c) a d =
    ap (λ (xs : List Client). with_clients l xs l.passed) (change_twice (more a) (more d) (more (a +ℤ d)) no_client (λ x. ap (λ (v : ℤ). record { trader = x.trader; collateral = v; cash = x.cash; opening_need = x.opening_need }) (join_sum x.collateral a d)) l.clients c)
moved_twice l (of_trader c) a d =
    ap (with_traders l) (change_twice (more_own a) (more_own d) (more_own (a +ℤ d)) no_trader (λ x. ap (λ (v : ℤ). record { intraday = x.intraday; defaults = x.defaults; own = v; favour = x.favour }) (join_sum x.own a d)) l.traders c)
moved_twice l (of_member c) a d =
    ap (with_traders l) (change_twice (more_favour a) (more_favour d) (more_favour (a +ℤ d)) no_trader (λ x. ap (λ (v : ℤ). record { intraday = x.intraday; defaults = x.defaults; own = x.own; favour = v }) (join_sum x.favour a d)) l.traders c)

-- ---- a move and another call

opened_same : (f g : ℕ → ℤ) → ((j : ℕ) → g j ≡ f j) → (i : ℕ) (xs : List Client) → opened g i xs ≡ opened f i xs
opened_same f g h i [] = refl
opened_same f g h i (x ∷ xs) = rw (h i, opened_same f g h (i + 1) xs)

opened_more : (f g : ℕ → ℤ) (d : ℤ) → ((j : ℕ) → g j ≡ f j) → (i : ℕ) (xs : List Client) (c : ℕ) → opened g i (set xs c (more d (get_or xs c no_client))) ≡ set (opened f i xs) c (more d (get_or (opened f i xs) c no_client))
opened_more f g d h i [] c = refl
opened_more f g d h i (x ∷ xs) zero = rw (h i, opened_same f g h (i + 1) xs)
opened_more f g d h i (x ∷ xs) (suc c) = rw (h i, opened_more f g d h (i + 1) xs c)

pub entered_moved : (m : ScenarioTable) (l : Ledger) (h : Holder) (d : ℤ) (x : Call) → Exists l h → entered m (moved l h d) x ≡ moved (entered m l x) h d
entered_moved m l (of_client c) d (trader a n) e = refl
entered_moved m l (of_client c) d (client t) e = ap (λ (xs : List Client). with_clients l xs l.passed) (change_push (more d) no_client (new_client t) l.clients c e)
entered_moved m l (of_client c) d (carry b k side q p) e =
    ap (λ (t : ℕ). moved (with_trade l (new_trade t k side q p (carried b))) (of_client c) d) (field_set (λ (x : Client). x.trader) l.clients c b (more d (client_of l c)) no_client refl)
entered_moved m l (of_client c) d (price k p) e = refl
entered_moved m l (of_client c) d (deposit h a) e = moves l (of_client c) h d a
entered_moved m l (of_client c) d opening e =
    ap (λ (xs : List Client). with_clients l xs l.passed) (opened_more (need_of m l) (need_of m (moved l (of_client c) d)) d (λ j. ap (need m (market l) (held l j)) (field_set (λ (x : Client). x.cash) l.clients c j (more d (client_of l c)) no_client refl)) 0 l.clients c)
entered_moved m l (of_client c) d (trade t k side q p) e = refl
entered_moved m l (of_client c) d (specify i b) e = refl
entered_moved m l (of_client c) d (cancel i) e = refl
entered_moved m l (of_client c) d (withdraw h a) e =
    ap (λ (y : Ledger). with_slips y (l.slips ++ (next_slip l h a ∷ [])) (l.made + 1)) (moves l (of_client c) h d (neg_ℤ a))
entered_moved m l (of_client c) d (settle s) e = refl
entered_moved m l (of_client c) d (put_back s) e = moves (with_slips l (struck s l.slips) l.made) (of_client c) s.holder d s.amount
entered_moved m l (of_client c) d (cash b v) e = ap (λ (xs : List Client). with_clients l xs l.passed) (changes (more d) (with_cash v) no_client (λ x. refl) l.clients c b)
entered_moved m l (of_client c) d window e =
    ap (λ (xs : List Client). with_clients l xs true) (change_map (more d) (with_cash (pos 0)) no_client (λ x. refl) l.clients c)
entered_moved m l (of_client c) d (statement t) e = refl
entered_moved m l (of_trader c) d (trader a n) e =
    ap (with_traders l) (change_push (more_own d) no_trader (new_trader a n) l.traders c e)
entered_moved m l (of_trader c) d (client t) e = refl
entered_moved m l (of_trader c) d (carry b k side q p) e = refl
entered_moved m l (of_trader c) d (price k p) e = refl
entered_moved m l (of_trader c) d (deposit h a) e = moves l (of_trader c) h d a
entered_moved m l (of_trader c) d opening e = refl
entered_moved m l (of_trader c) d (trade t k side q p) e = refl
entered_moved m l (of_trader c) d (specify i b) e = refl
entered_moved m l (of_trader c) d (cancel i) e = refl
entered_moved m l (of_trader c) d (withdraw h a) e =
    ap (λ (y : Ledger). with_slips y (l.slips ++ (next_slip l h a ∷ [])) (l.made + 1)) (moves l (of_trader c) h d (neg_ℤ a))
entered_moved m l (of_trader c) d (settle s) e = refl
entered_moved m l (of_trader c) d (put_back s) e = moves (with_slips l (struck s l.slips) l.made) (of_trader c) s.holder d s.amount
entered_moved m l (of_trader c) d (cash b v) e = refl
entered_moved m l (of_trader c) d window e = refl
entered_moved m l (of_trader c) d (statement t) e = refl
entered_moved m l (of_member c) d (trader a n) e =
    ap (with_traders l) (change_push (more_favour d) no_trader (new_trader a n) l.traders c e)
entered_moved m l (of_member c) d (client t) e = refl
entered_moved m l (of_member c) d (carry b k side q p) e = refl
entered_moved m l (of_member c) d (price k p) e = refl
entered_moved m l (of_member c) d (deposit h a) e = moves l (of_member c) h d a
entered_moved m l (of_member c) d opening e = refl
entered_moved m l (of_member c) d (trade t k side q p) e = refl
entered_moved m l (of_member c) d (specify i b) e = refl
entered_moved m l (of_member c) d (cancel i) e = refl
entered_moved m l (of_member c) d (withdraw h a) e =
    ap (λ (y : Ledger). with_slips y (l.slips ++ (next_slip l h a ∷ [])) (l.made + 1)) (moves l (of_member c) h d (neg_ℤ a))
entered_moved m l (of_member c) d (settle s) e = refl
entered_moved m l (of_member c) d (put_back s) e = moves (with_slips l (struck s l.slips) l.made) (of_member c) s.holder d s.amount
entered_moved m l (of_member c) d (cash b v) e = refl
entered_moved m l (of_member c) d window e = refl
entered_moved m l (of_member c) d (statement t) e = refl
