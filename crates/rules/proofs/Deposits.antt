-- Two runs that are alike but for one deposit. Assumes nothing.
use Rattle.std.proofs.Common.{◌≡◌, ◌≤◌, Bool, true, false, cond, List, [], ◌∷◌, length, ℤ, pos, neg_ℤ, ◌≤ℤ◌, sym, refl, ap, ◌∙◌, subst, arith}
use Rattle.std.proofs.lemmas.List.{length-set, length-append, length-map}
use Rattle.scenario.specs.Table.{ScenarioTable}
use Rattle.rules.specs.Ledger.{Holder, of_client, of_trader, of_member, Ledger, moved, empty_ledger}
use Rattle.rules.specs.Limits.{need_of}
use Rattle.rules.specs.Causes.{Call, trader, client, carry, price, deposit, opening, trade, specify, cancel, withdraw, settle, put_back, cash, window, statement, entered, cause, no_such_holder}
use Rattle.rules.specs.Runs.{Event, fed, Ruled, Run, ledger, opened_ledger}
use Rattle.rules.specs.Law.{Larger, here, later, DepositHelps}
use Rattle.rules.proofs.Rows.{row_off, no_cause}
use Rattle.rules.proofs.Given.{length_opened}
use Rattle.rules.proofs.Moves.{Exists, holder_exists, entered_moved, moved_twice}
use Rattle.rules.proofs.Helps.{helps}

-- ---- who exists stays

-- no list of traders or of clients gets shorter
abbrev Grows : Ledger → Ledger → Type 0
Grows l l' = (length l.clients ≤ length l'.clients) × (length l.traders ≤ length l'.traders)

moved_grows : (l : Ledger) (h : Holder) (a : ℤ) → Grows l (moved l h a)
moved_grows l (of_client c) a = (simp length-set (omega arith), omega arith)
moved_grows l (of_trader c) a = (omega arith, simp length-set (omega arith))
moved_grows l (of_member c) a = (omega arith, simp length-set (omega arith))

grows : (m : ScenarioTable) (l : Ledger) (x : Call) → Grows l (entered m l x)
grows m l (trader a n) = (omega arith, simp length-append (omega arith))
grows m l (client t) = (simp length-append (omega arith), omega arith)
grows m l (carry c k side q p) = (omega arith, omega arith)
grows m l (price k p) = (omega arith, omega arith)
grows m l (deposit h a) = moved_grows l h a
grows m l opening = (omega (arith, length_opened (need_of m l) 0 l.clients), omega arith)
grows m l (trade t k side q p) = (omega arith, omega arith)
grows m l (specify i c) = (omega arith, omega arith)
grows m l (cancel i) = (omega arith, omega arith)
grows m l (withdraw h a) = moved_grows l h (neg_ℤ a)
grows m l (settle s) = (omega arith, omega arith)
grows m l (put_back s) = moved_grows (entered m l (settle s)) s.holder s.amount
grows m l (cash c v) = (simp length-set (omega arith), omega arith)
grows m l window = (simp length-map (omega arith), omega arith)
grows m l (statement t) = (omega arith, omega arith)

exists_in : (l l' : Ledger) (h : Holder) → Grows l l' → Exists l h → Exists l' h
exists_in l l' (of_client c) (p, q) e = omega arith
exists_in l l' (of_trader c) (p, q) e = omega arith
exists_in l l' (of_member c) (p, q) e = omega arith

stays : (m : ScenarioTable) (l : Ledger) (x : Call) (h : Holder) → Exists l h → Exists (entered m l x) h
stays m l x h e = exists_in l (entered m l x) h (grows m l x) e

-- ---- the same events, from an amount more

pub fed_moved : (m : ScenarioTable) (h : Holder) (d : ℤ) (es : List Event) (l : Ledger) → Exists l h → (fed m (moved l h d) es ≡ moved (fed m l es) h d) × Exists (fed m l es) h
fed_moved m h d [] l x = (refl, x)
fed_moved m h d (e ∷ es) l x = go e.accepted (λ k. fed_moved m h d es k)
  where
    go : (t : Bool) → ((k : Ledger) → Exists k h → (fed m (moved k h d) es ≡ moved (fed m k es) h d) × Exists (fed m k es) h) → (fed m (cond t (entered m (moved l h d) e.call) (moved l h d)) es ≡ moved (fed m (cond t (entered m l e.call) l) es) h d) × Exists (fed m (cond t (entered m l e.call) l) es) h
    go true r =
        let s = r (entered m l e.call) (stays m l e.call h x) in
        (ap (λ (k : Ledger). fed m k es) (entered_moved m l h d e.call x) ∙ s.0, s.1)
    go false r = r l x

pub fed_larger : (m : ScenarioTable) (h : Holder) (d : ℤ) (xs ys : List Event) → Larger h d xs ys → (l : Ledger) → Ruled m l xs → (fed m l ys ≡ moved (fed m l xs) h d) × Exists (fed m l xs) h
fed_larger m h d xs ys (here a es) l (e, r) =
    let x : Exists l h = holder_exists l h (row_off (no_such_holder l h) 10 _ (no_cause (cause m l (deposit h a)) e)).0 in
    let s = fed_moved m h d es (moved l h a) (stays m l (deposit h a) h x) in
    (ap (λ (k : Ledger). fed m k es) (sym (moved_twice l h a d)) ∙ s.0, s.1)
fed_larger m h d xs ys (later e {xs = us} {ys = vs} k) l (p, r) = fed_larger m h d us vs k (cond e.accepted (entered m l e.call) l) r

-- ---- runs

pub larger_before : (m : ScenarioTable) (r : Run m) (h : Holder) (d : ℤ) → pos 0 ≤ℤ d → (r' : Run m) → Larger h d r.before r'.before → r.after ≡ r'.after → DepositHelps m h d (ledger m r) (ledger m r')
larger_before m r h d z r' k e = subst (λ (x : Ledger). DepositHelps m h d (ledger m r) x) (sym same) (helps m (ledger m r) h d z)
  where
    same : ledger m r' ≡ moved (ledger m r) h d
    same =
        let s = fed_larger m h d r.before r'.before k empty_ledger r.prepared in
        ap (λ (es : List Event). fed m (opened_ledger m r') es) (sym e)
        ∙ ap (λ (x : Ledger). fed m (entered m x opening) r.after) s.0
        ∙ ap (λ (x : Ledger). fed m x r.after) (entered_moved m (fed m empty_ledger r.before) h d opening s.1)
        ∙ (fed_moved m h d r.after (opened_ledger m r) (stays m (fed m empty_ledger r.before) opening h s.1)).0

pub larger_after : (m : ScenarioTable) (r : Run m) (h : Holder) (d : ℤ) → pos 0 ≤ℤ d → (r' : Run m) → r.before ≡ r'.before → Larger h d r.after r'.after → DepositHelps m h d (ledger m r) (ledger m r')
larger_after m r h d z r' e k = subst (λ (x : Ledger). DepositHelps m h d (ledger m r) x) (sym same) (helps m (ledger m r) h d z)
  where
    same : ledger m r' ≡ moved (ledger m r) h d
    same =
        ap (λ (es : List Event). fed m (entered m (fed m empty_ledger es) opening) r'.after) (sym e)
        ∙ (fed_larger m h d r.after r'.after k (opened_ledger m r) r.ruled).0
