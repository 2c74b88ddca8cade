-- A trade given to a client stays one of that client's trader. Assumes nothing.
use Rattle.std.proofs.Common.{◌≡◌, ℕ, zero, suc, ◌+◌, ◌<◌, ◌≤◌, not, ◌||◌, eqb, ltb, List, [], ◌∷◌, ◌++◌, map, length, get_or, set, ℤ, pos, neg_ℤ, None, refl, ap, ◌∙◌, arith}
use Rattle.std.proofs.lemmas.List.{length-set, length-append, length-map, get_or_append_left}
use Rattle.std.proofs.lemmas.Bool.{ltb-true, eqb-true, not-false, or_parts}
use Rattle.scenario.specs.Table.{ScenarioTable}
use Rattle.rules.specs.Ledger.{Holder, of_client, of_trader, of_member, unspecified, specified, carried, Trade, Client, Ledger, no_client, no_trade, client_of, trade_of, more, moved, empty_ledger}
use Rattle.rules.specs.Limits.{need_of}
use Rattle.rules.specs.Causes.{Call, trader, client, carry, price, deposit, opening, trade, specify, cancel, withdraw, settle, put_back, cash, window, statement, entered, new_client, new_trade, standing_now, opened, with_cash, cause, no_such_trade, no_such_client, is_unspecified}
use Rattle.rules.specs.Sound.{Given}
use Rattle.rules.proofs.Places.{field_set, field_map, all_push, all_set}
use Rattle.rules.proofs.Rows.{row_off}

abbrev pub AllGiven : List Client → List Trade → Type 0
AllGiven cs ts = (i : ℕ) → Given cs (get_or ts i no_trade)

never_unspecified : (c : ℕ) {P : Type 0} → unspecified ≡ specified c → P
never_unspecified c e = let z : ◌≡◌ {A = ℕ} 0 1 = cc in absurd (omega arith)

never_carried : (b c : ℕ) {P : Type 0} → carried b ≡ specified c → P
never_carried b c e = let z : ◌≡◌ {A = ℕ} 0 1 = cc in absurd (omega arith)

-- ---- clients as far as trades see them

abbrev Alike : List Client → List Client → Type 0
Alike cs ds = (length cs ≤ length ds) × ((j : ℕ) → j < length cs → (get_or ds j no_client).trader ≡ (get_or cs j no_client).trader)

given_alike : (cs ds : List Client) (ts : List Trade) → Alike cs ds → AllGiven cs ts → AllGiven ds ts
given_alike cs ds ts (a, b) g i c e = let r = g i c e in (omega (arith, r.0), b c r.0 ∙ r.1)

pub length_opened : (f : ℕ → ℤ) (i : ℕ) (xs : List Client) → length (opened f i xs) ≡ length xs
length_opened f i [] = refl
length_opened f i (x ∷ xs) = ap suc (length_opened f (i + 1) xs)

trader_opened : (f : ℕ → ℤ) (i : ℕ) (xs : List Client) (j : ℕ) → (get_or (opened f i xs) j no_client).trader ≡ (get_or xs j no_client).trader
trader_opened f i [] j = refl
trader_opened f i (x ∷ xs) zero = refl
trader_opened f i (x ∷ xs) (suc j) = trader_opened f (i + 1) xs j

-- ---- an accepted call

moved_given : (l : Ledger) (h : Holder) (a : ℤ) → AllGiven l.clients l.trades → AllGiven (moved l h a).clients (moved l h a).trades
moved_given l (of_client c) a g =
    given_alike l.clients (set l.clients c (more a (client_of l c))) l.trades (simp length-set (omega arith), λ j k. field_set (λ (x : Client). x.trader) l.clients c j (more a (client_of l c)) no_client refl) g
moved_given l (of_trader t) a g = g
moved_given l (of_member t) a g = g

pub given_entered : (m : ScenarioTable) (l : Ledger) (x : Call) → cause m l x ≡ None → AllGiven l.clients l.trades → AllGiven (entered m l x).clients (entered m l x).trades
given_entered m l (trader a n) e g = g
given_entered m l (client t) e g =
    given_alike l.clients (l.clients ++ (new_client t ∷ [])) l.trades (simp length-append (omega arith), λ j k. ap (λ (x : Client). x.trader) (get_or_append_left l.clients (new_client t ∷ []) no_client j k)) g
given_entered m l (carry c k side q p) e g =
    all_push (Given l.clients) l.trades (new_trade (client_of l c).trader k side q p (carried c)) no_trade g (λ b. never_carried c b)
given_entered m l (price k p) e g = g
given_entered m l (deposit h a) e g = moved_given l h a g
given_entered m l opening e g =
    given_alike l.clients (opened (need_of m l) 0 l.clients) l.trades (omega (arith, length_opened (need_of m l) 0 l.clients), λ j k. trader_opened (need_of m l) 0 l.clients j) g
given_entered m l (trade t k side q p) e g =
    all_push (Given l.clients) l.trades (new_trade t k side q p unspecified) no_trade g (λ b. never_unspecified b)
given_entered m l (specify i c) e g = all_set (Given l.clients) l.trades i (standing_now (specified c) (trade_of l i)) no_trade g now
  where
    now : Given l.clients (standing_now (specified c) (trade_of l i))
    now b k =
        let r = row_off (no_such_trade l i || no_such_client l c) 10 _ e in
        let q = row_off (not (is_unspecified (trade_of l i))) 16 _ r.1 in
        let u = row_off (not (eqb (client_of l c).trader (trade_of l i).trader)) 17 _ q.1 in
        let same : c ≡ b = cc in
        let here : c < length l.clients = ltb-true c (length l.clients) (not-false (ltb c (length l.clients)) (or_parts (no_such_trade l i) (no_such_client l c) r.0).1) in
        rw (← same) (here, eqb-true (client_of l c).trader (trade_of l i).trader (not-false (eqb (client_of l c).trader (trade_of l i).trader) u.0))
given_entered m l (cancel i) e g = all_set (Given l.clients) l.trades i (standing_now unspecified (trade_of l i)) no_trade g (λ b. never_unspecified b)
given_entered m l (withdraw h a) e g = moved_given l h (neg_ℤ a) g
given_entered m l (settle s) e g = g
given_entered m l (put_back s) e g = moved_given (entered m l (settle s)) s.holder s.amount g
given_entered m l (cash c v) e g =
    given_alike l.clients (set l.clients c (with_cash v (client_of l c))) l.trades (simp length-set (omega arith), λ j k. field_set (λ (x : Client). x.trader) l.clients c j (with_cash v (client_of l c)) no_client refl) g
given_entered m l window e g =
    given_alike l.clients (map (with_cash (pos 0)) l.clients) l.trades (simp length-map (omega arith), λ j k. field_map (λ (x : Client). x.trader) (with_cash (pos 0)) l.clients no_client (λ x. refl) j) g
given_entered m l (statement t) e g = g

pub given_empty : AllGiven empty_ledger.clients empty_ledger.trades
given_empty i c = never_unspecified c
