-- No holder's collateral falls below 0, or rises above what it may be with its standing slips. Assumes nothing.
use Rattle.std.proofs.Common.{◌≡◌, ℕ, zero, suc, ◌+◌, Bool, true, false, cond, not, ◌&&◌, ◌||◌, ltb, ◌⊎◌, List, [], ◌∷◌, ◌++◌, map, length, get_or, set, ℤ, pos, ◌+ℤ◌, neg_ℤ, ◌≤ℤ◌, None, refl, ap, ◌∙◌, inl, inr, arith}
use lib.Signed.{lt_z}
use Rattle.std.proofs.lemmas.Int.{ints}
use Rattle.std.proofs.lemmas.Bool.{not-true, not-false, and_parts, or_parts}
use Rattle.scenario.specs.Table.{ScenarioTable}
use Rattle.rules.specs.Bounds.{most_traders, most_defaults, most_amount}
use Rattle.rules.specs.Ledger.{Holder, of_client, of_trader, of_member, Slip, Trader, Client, Ledger, no_slip, no_trader, no_client, trader_of, client_of, collateral_in, collateral_of, holders_trader, more, more_own, more_favour, moved, empty_ledger, same_holder, struck, is_standing}
use Rattle.rules.specs.Limits.{need_of, limit}
use Rattle.rules.specs.Causes.{Call, trader, client, carry, price, deposit, opening, trade, specify, cancel, withdraw, settle, put_back, cash, window, statement, entered, new_trader, new_client, next_slip, opened, with_cash, with_slips, cause, within, is_amount, amounts_of, no_such_holder, short}
use Rattle.rules.specs.Sound.{Upto, Funded}
use Rattle.rules.proofs.Places.{field_set, field_push, field_map, changed_set, all_push}
use Rattle.rules.proofs.Rows.{row_off}
use Rattle.rules.proofs.Moves.{Exists, holder_exists}
use Rattle.rules.proofs.Slips.{all_struck, standing_amount, same_holders, part, amounts_push, amounts_struck}

abbrev pub FundsKept : Ledger → Type 0
FundsKept l = Funded l.traders l.clients l.slips

-- ---- moves

none_more : (x : ℤ) → x ≡ x +ℤ pos 0
none_more x = omega (arith, ints)

-- what a move does to any holder's collateral: it counts for the one that is meant, if that one exists
abbrev Moved : Ledger → Holder → ℤ → Holder → Type 0
Moved l k a h = (collateral_of (moved l k a) h ≡ collateral_of l h +ℤ cond (same_holder h k) a (pos 0)) ⊎ ((Exists l k → ⊥) × (collateral_of (moved l k a) h ≡ collateral_of l h))

collateral_moved : (l : Ledger) (k : Holder) (a : ℤ) (h : Holder) → Moved l k a h
collateral_moved l (of_client c) a (of_client b) = changed_set (λ (x : Client). x.collateral) l.clients c b (more a (client_of l c)) no_client a refl
collateral_moved l (of_client c) a (of_trader b) = inl (none_more (trader_of l b).own)
collateral_moved l (of_client c) a (of_member b) = inl (none_more (trader_of l b).favour)
collateral_moved l (of_trader c) a (of_client b) = inl (none_more (client_of l b).collateral)
collateral_moved l (of_trader c) a (of_trader b) = changed_set (λ (x : Trader). x.own) l.traders c b (more_own a (trader_of l c)) no_trader a refl
collateral_moved l (of_trader c) a (of_member b) = inl (field_set (λ (x : Trader). x.favour) l.traders c b (more_own a (trader_of l c)) no_trader refl ∙ none_more (trader_of l b).favour)
collateral_moved l (of_member c) a (of_client b) = inl (none_more (client_of l b).collateral)
collateral_moved l (of_member c) a (of_trader b) = inl (field_set (λ (x : Trader). x.own) l.traders c b (more_favour a (trader_of l c)) no_trader refl ∙ none_more (trader_of l b).own)
collateral_moved l (of_member c) a (of_member b) = changed_set (λ (x : Trader). x.favour) l.traders c b (more_favour a (trader_of l c)) no_trader a refl

intraday_moved : (l : Ledger) (k : Holder) (a : ℤ) (t : ℕ) → (trader_of (moved l k a) t).intraday ≡ (trader_of l t).intraday
intraday_moved l (of_client c) a t = refl
intraday_moved l (of_trader c) a t = field_set (λ (x : Trader). x.intraday) l.traders c t (more_own a (trader_of l c)) no_trader refl
intraday_moved l (of_member c) a t = field_set (λ (x : Trader). x.intraday) l.traders c t (more_favour a (trader_of l c)) no_trader refl

pub slips_moved : (l : Ledger) (k : Holder) (a : ℤ) → (moved l k a).slips ≡ l.slips
slips_moved l (of_client c) a = refl
slips_moved l (of_trader c) a = refl
slips_moved l (of_member c) a = refl

granted_moved : (l : Ledger) (k : Holder) (a : ℤ) → ((t : ℕ) → Upto most_amount (trader_of l t).intraday) → (t : ℕ) → Upto most_amount (trader_of (moved l k a) t).intraday
granted_moved l k a g t = rw (intraday_moved l k a t) (g t)

-- an amount more, which the slips that stand afterwards leave room for
raised : (l : Ledger) (k : Holder) (a : ℤ) (ss : List Slip) → pos 0 ≤ℤ a → ((t : ℕ) → Upto most_amount (trader_of l t).intraday) → ((h : Holder) → pos 0 ≤ℤ collateral_of l h) → ((i : ℕ) → pos 0 ≤ℤ (get_or ss i no_slip).amount) → ((h : Holder) → (collateral_of l h +ℤ cond (same_holder h k) a (pos 0) +ℤ amounts_of ss h) ≤ℤ pos most_amount) → Funded (moved l k a).traders (moved l k a).clients ss
raised l k a ss z g c p u =
    record {
      granted = granted_moved l k a g;
      covered = λ h. up h (collateral_moved l k a h);
      paid = p;
      capped = λ h. room h (collateral_moved l k a h);
    }
  where
    some : (b : Bool) → pos 0 ≤ℤ cond b a (pos 0)
    some true = z
    some false = omega (arith, ints)

    more_up : (x y e : ℤ) → y ≡ x +ℤ e → pos 0 ≤ℤ x → pos 0 ≤ℤ e → pos 0 ≤ℤ y
    more_up x y e q h i = omega (arith, ints)

    up : (h : Holder) → Moved l k a h → pos 0 ≤ℤ collateral_of (moved l k a) h
    up h (inl e) = more_up (collateral_of l h) (collateral_of (moved l k a) h) (cond (same_holder h k) a (pos 0)) e (c h) (some (same_holder h k))
    up h (inr e) = more_up (collateral_of l h) (collateral_of (moved l k a) h) (pos 0) (e.1 ∙ none_more (collateral_of l h)) (c h) (omega (arith, ints))

    less_room : (x y e s w : ℤ) → y ≤ℤ (x +ℤ e) → (x +ℤ e +ℤ s) ≤ℤ w → (y +ℤ s) ≤ℤ w
    less_room x y e s w h i = omega (arith, ints)

    same_up : (x y e : ℤ) → y ≡ x +ℤ e → y ≤ℤ (x +ℤ e)
    same_up x y e q = omega (arith, ints)

    not_up : (x y e : ℤ) → y ≡ x → pos 0 ≤ℤ e → y ≤ℤ (x +ℤ e)
    not_up x y e q h = omega (arith, ints)

    room : (h : Holder) → Moved l k a h → (collateral_of (moved l k a) h +ℤ amounts_of ss h) ≤ℤ pos most_amount
    room h (inl e) = less_room (collateral_of l h) (collateral_of (moved l k a) h) (cond (same_holder h k) a (pos 0)) (amounts_of ss h) (pos most_amount) (same_up (collateral_of l h) (collateral_of (moved l k a) h) (cond (same_holder h k) a (pos 0)) e) (u h)
    room h (inr e) = less_room (collateral_of l h) (collateral_of (moved l k a) h) (cond (same_holder h k) a (pos 0)) (amounts_of ss h) (pos most_amount) (not_up (collateral_of l h) (collateral_of (moved l k a) h) (cond (same_holder h k) a (pos 0)) e.1 (some (same_holder h k))) (u h)

-- an amount less, for which a slip stands afterwards
pub lowered : (l : Ledger) (k : Holder) (a : ℤ) (s : Slip) → s.holder ≡ k → s.amount ≡ a → pos 0 ≤ℤ a → Exists l k → a ≤ℤ collateral_of l k → FundsKept l → Funded (moved l k (neg_ℤ a)).traders (moved l k (neg_ℤ a)).clients (l.slips ++ s ∷ [])
lowered l k a s eh ea z x le f =
    record {
      granted = granted_moved l k (neg_ℤ a) f.granted;
      covered = λ h. up h (same_holder h k) refl (moves h);
      paid = all_push (λ (y : Slip). pos 0 ≤ℤ y.amount) l.slips s no_slip f.paid (omega (arith, ints));
      capped = λ h. room h (same_holder h k) (collateral_of l h) (collateral_of (moved l k (neg_ℤ a)) h) (amounts_of l.slips h) (amounts_of (l.slips ++ s ∷ []) h) (moves h) (pushed h) (f.capped h);
    }
  where
    moves : (h : Holder) → collateral_of (moved l k (neg_ℤ a)) h ≡ collateral_of l h +ℤ cond (same_holder h k) (neg_ℤ a) (pos 0)
    moves h = go (collateral_moved l k (neg_ℤ a) h)
      where
        go : Moved l k (neg_ℤ a) h → collateral_of (moved l k (neg_ℤ a)) h ≡ collateral_of l h +ℤ cond (same_holder h k) (neg_ℤ a) (pos 0)
        go (inl e) = e
        go (inr e) = absurd (e.0 x)

    pushed : (h : Holder) → amounts_of (l.slips ++ s ∷ []) h ≡ amounts_of l.slips h +ℤ cond (same_holder h k) a (pos 0)
    pushed h =
        amounts_push l.slips s h
        ∙ ap (λ (b : Holder). amounts_of l.slips h +ℤ cond (same_holder h b) s.amount (pos 0)) eh
        ∙ ap (λ (v : ℤ). amounts_of l.slips h +ℤ cond (same_holder h k) v (pos 0)) ea

    left : (x y : ℤ) → a ≤ℤ x → y ≡ x +ℤ neg_ℤ a → pos 0 ≤ℤ y
    left x y h e = omega (arith, ints)

    same : (x y : ℤ) → pos 0 ≤ℤ x → y ≡ x +ℤ pos 0 → pos 0 ≤ℤ y
    same x y h e = omega (arith, ints)

    up : (h : Holder) (t : Bool) → same_holder h k ≡ t → collateral_of (moved l k (neg_ℤ a)) h ≡ collateral_of l h +ℤ cond t (neg_ℤ a) (pos 0) → pos 0 ≤ℤ collateral_of (moved l k (neg_ℤ a)) h
    up h true q e = left (collateral_of l h) (collateral_of (moved l k (neg_ℤ a)) h) (rw (same_holders h k q) le) e
    up h false q e = same (collateral_of l h) (collateral_of (moved l k (neg_ℤ a)) h) (f.covered h) e

    room : (h : Holder) (t : Bool) (c c' u u' : ℤ) → c' ≡ c +ℤ cond t (neg_ℤ a) (pos 0) → u' ≡ u +ℤ cond t a (pos 0) → (c +ℤ u) ≤ℤ pos most_amount → (c' +ℤ u') ≤ℤ pos most_amount
    room h true c c' u u' p q r = omega (arith, ints)
    room h false c c' u u' p q r = omega (arith, ints)

amount_up : (a : ℤ) → not (is_amount a) ≡ false → pos 0 ≤ℤ a
amount_up a e =
    let p : lt_z a (pos 1) ≡ false = not-true (lt_z a (pos 1)) (and_parts (not (lt_z a (pos 1))) (not (lt_z (pos most_amount) a)) (not-false (is_amount a) e)).0 in
    omega (arith, ints)

-- ---- lists in which no collateral changes

same_funds : (ts us : List Trader) (cs ds : List Client) (ss : List Slip) → ((t : ℕ) → Upto most_amount (get_or us t no_trader).intraday) → ((h : Holder) → collateral_in us ds h ≡ collateral_in ts cs h) → Funded ts cs ss → Funded us ds ss
same_funds ts us cs ds ss g e f =
    record {
      granted = g;
      covered = λ h. rw (e h) (f.covered h);
      paid = f.paid;
      capped = λ h. rw (e h) (f.capped h);
    }

-- where the clients' list alone is another
by_clients : (ts : List Trader) (cs ds : List Client) → ((j : ℕ) → (get_or ds j no_client).collateral ≡ (get_or cs j no_client).collateral) → (h : Holder) → collateral_in ts ds h ≡ collateral_in ts cs h
by_clients ts cs ds e (of_client c) = e c
by_clients ts cs ds e (of_trader t) = refl
by_clients ts cs ds e (of_member t) = refl

by_traders : (ts : List Trader) (x : Trader) (cs : List Client) → x.own ≡ pos 0 → x.favour ≡ pos 0 → (h : Holder) → collateral_in (ts ++ x ∷ []) cs h ≡ collateral_in ts cs h
by_traders ts x cs p q (of_client c) = refl
by_traders ts x cs p q (of_trader t) = field_push (λ (y : Trader). y.own) ts x no_trader p t
by_traders ts x cs p q (of_member t) = field_push (λ (y : Trader). y.favour) ts x no_trader q t

pub collateral_opened : (f : ℕ → ℤ) (i : ℕ) (xs : List Client) (j : ℕ) → (get_or (opened f i xs) j no_client).collateral ≡ (get_or xs j no_client).collateral
collateral_opened f i [] j = refl
collateral_opened f i (x ∷ xs) zero = refl
collateral_opened f i (x ∷ xs) (suc j) = collateral_opened f (i + 1) xs j

-- ---- an accepted call

limit_within : (a n : ℤ) → not (within (pos 0) (pos most_amount) a && within (pos 1) (pos most_defaults) n) ≡ false → Upto most_amount a
limit_within a n e =
    let p = and_parts (within (pos 0) (pos most_amount) a) (within (pos 1) (pos most_defaults) n) (not-false (within (pos 0) (pos most_amount) a && within (pos 1) (pos most_defaults) n) e) in
    let q = and_parts (not (lt_z a (pos 0))) (not (lt_z (pos most_amount) a)) p.0 in
    let low : lt_z a (pos 0) ≡ false = not-true (lt_z a (pos 0)) q.0 in
    let high : lt_z (pos most_amount) a ≡ false = not-true (lt_z (pos most_amount) a) q.1 in
    (omega (arith, ints), omega (arith, ints))

pub funded_entered : (m : ScenarioTable) (l : Ledger) (x : Call) → cause m l x ≡ None → FundsKept l → FundsKept (entered m l x)
funded_entered m l (trader a n) e f =
    let r = row_off (not (ltb (length l.traders) most_traders)) 11 _ e in
    let u = row_off (not (within (pos 0) (pos most_amount) a && within (pos 1) (pos most_defaults) n)) 12 _ r.1 in
    same_funds l.traders (l.traders ++ (new_trader a n ∷ [])) l.clients l.clients l.slips
    (all_push (λ (y : Trader). Upto most_amount y.intraday) l.traders (new_trader a n) no_trader f.granted (limit_within a n u.0))
    (by_traders l.traders (new_trader a n) l.clients refl refl) f
funded_entered m l (client t) e f =
    same_funds l.traders l.traders l.clients (l.clients ++ (new_client t ∷ [])) l.slips f.granted
    (by_clients l.traders l.clients (l.clients ++ (new_client t ∷ [])) (field_push (λ (y : Client). y.collateral) l.clients (new_client t) no_client refl)) f
funded_entered m l (carry c k side q p) e f = f
funded_entered m l (price k p) e f = f
funded_entered m l (deposit h a) e f =
    let r = row_off (no_such_holder l h) 10 _ e in
    let u = row_off (not (is_amount a)) 12 _ r.1 in
    let v = row_off (lt_z (pos most_amount) (collateral_of l h +ℤ amounts_of l.slips h +ℤ a)) 18 _ u.1 in
    rw (slips_moved l h a) (raised l h a l.slips (amount_up a u.0) f.granted f.covered f.paid (λ b. room b (same_holder b h) refl v.0))
  where
    here : (c s w : ℤ) → lt_z w (c +ℤ s +ℤ a) ≡ false → (c +ℤ a +ℤ s) ≤ℤ w
    here c s w q = omega (arith, ints)

    other : (c s w : ℤ) → (c +ℤ s) ≤ℤ w → (c +ℤ pos 0 +ℤ s) ≤ℤ w
    other c s w q = omega (arith, ints)

    room : (b : Holder) (t : Bool) → same_holder b h ≡ t → lt_z (pos most_amount) (collateral_of l h +ℤ amounts_of l.slips h +ℤ a) ≡ false → (collateral_of l b +ℤ cond t a (pos 0) +ℤ amounts_of l.slips b) ≤ℤ pos most_amount
    room b true q k = rw (same_holders b h q) (here (collateral_of l h) (amounts_of l.slips h) (pos most_amount) k)
    room b false q k = other (collateral_of l b) (amounts_of l.slips b) (pos most_amount) (f.capped b)
funded_entered m l opening e f =
    same_funds l.traders l.traders l.clients (opened (need_of m l) 0 l.clients) l.slips f.granted
    (by_clients l.traders l.clients (opened (need_of m l) 0 l.clients) (collateral_opened (need_of m l) 0 l.clients)) f
funded_entered m l (trade t k side q p) e f = f
funded_entered m l (specify i c) e f = f
funded_entered m l (cancel i) e f = f
funded_entered m l (withdraw h a) e f =
    let r = row_off (no_such_holder l h) 10 _ e in
    let q = row_off _ 11 _ r.1 in
    let u = row_off (not (is_amount a)) 12 _ q.1 in
    let v = row_off (lt_z (collateral_of l h) a || short m l h a || lt_z (limit m (entered m l (withdraw h a)) (holders_trader l h)) (pos 0)) 19 _ u.1 in
    let w = or_parts (lt_z (collateral_of l h) a || short m l h a) (lt_z (limit m (entered m l (withdraw h a)) (holders_trader l h)) (pos 0)) v.0 in
    let y = or_parts (lt_z (collateral_of l h) a) (short m l h a) w.0 in
    lowered l h a (next_slip l h a) refl refl (amount_up a u.0) (holder_exists l h r.0) (enough (collateral_of l h) y.0) f
  where
    enough : (c : ℤ) → lt_z c a ≡ false → a ≤ℤ c
    enough c q = omega (arith, ints)
funded_entered m l (settle s) e f =
    let r = row_off (not (is_standing s l.slips)) 21 _ e in
    let z : is_standing s l.slips ≡ true = not-false (is_standing s l.slips) r.0 in
    record {
      granted = f.granted;
      covered = f.covered;
      paid = all_struck (λ (x : Slip). pos 0 ≤ℤ x.amount) s no_slip l.slips f.paid;
      capped = λ h. room (collateral_of l h) (amounts_of l.slips h) (amounts_of (struck s l.slips) h) (same_holder h s.holder) (standing_amount s l.slips z f.paid) (amounts_struck s l.slips h z) (f.capped h);
    }
  where
    room : (c u u' : ℤ) (t : Bool) → pos 0 ≤ℤ s.amount → u' +ℤ cond t s.amount (pos 0) ≡ u → (c +ℤ u) ≤ℤ pos most_amount → (c +ℤ u') ≤ℤ pos most_amount
    room c u u' true p q k = omega (arith, ints)
    room c u u' false p q k = omega (arith, ints)
funded_entered m l (put_back s) e f =
    let r = row_off (not (is_standing s l.slips)) 21 _ e in
    let z : is_standing s l.slips ≡ true = not-false (is_standing s l.slips) r.0 in
    let k : Ledger = with_slips l (struck s l.slips) l.made in
    rw (slips_moved k s.holder s.amount) (raised k s.holder s.amount (struck s l.slips) (standing_amount s l.slips z f.paid) f.granted f.covered (all_struck (λ (x : Slip). pos 0 ≤ℤ x.amount) s no_slip l.slips f.paid) (λ h. room (collateral_of l h) (part h s) (amounts_of (struck s l.slips) h) (amounts_of l.slips h) (amounts_struck s l.slips h z) (f.capped h)))
  where
    room : (c p u' u : ℤ) → u' +ℤ p ≡ u → (c +ℤ u) ≤ℤ pos most_amount → (c +ℤ p +ℤ u') ≤ℤ pos most_amount
    room c p u' u q k = omega (arith, ints)
funded_entered m l (cash c v) e f =
    same_funds l.traders l.traders l.clients (set l.clients c (with_cash v (client_of l c))) l.slips f.granted
    (by_clients l.traders l.clients (set l.clients c (with_cash v (client_of l c))) (λ j. field_set (λ (y : Client). y.collateral) l.clients c j (with_cash v (client_of l c)) no_client refl)) f
funded_entered m l window e f =
    same_funds l.traders l.traders l.clients (map (with_cash (pos 0)) l.clients) l.slips f.granted
    (by_clients l.traders l.clients (map (with_cash (pos 0)) l.clients) (field_map (λ (y : Client). y.collateral) (with_cash (pos 0)) l.clients no_client (λ y. refl))) f
funded_entered m l (statement t) e f = f

pub funded_empty : FundsKept empty_ledger
funded_empty = record { granted = λ t. (omega (arith, ints), omega (arith, ints)); covered = none; paid = λ i. omega (arith, ints); capped = room }
  where
    none : (h : Holder) → pos 0 ≤ℤ collateral_of empty_ledger h
    none (of_client c) = omega (arith, ints)
    none (of_trader t) = omega (arith, ints)
    none (of_member t) = omega (arith, ints)

    room : (h : Holder) → (collateral_of empty_ledger h +ℤ amounts_of empty_ledger.slips h) ≤ℤ pos most_amount
    room (of_client c) = omega (arith, ints)
    room (of_trader t) = omega (arith, ints)
    room (of_member t) = omega (arith, ints)
