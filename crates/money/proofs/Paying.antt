-- Money that comes in and goes out. Assumes nothing.
use Rattle.std.proofs.Common.{◌≡◌, ℕ, ◌+◌, Bool, true, false, cond, not, ◌||◌, ltb, List, [], ◌∷◌, ◌++◌, map, length, get_or, take, drop, ℤ, pos, ◌+ℤ◌, neg_ℤ, ◌≤ℤ◌, Some, None, Option, MatchOption, sym, refl, ap, ◌∙◌, subst, arith}
use lib.Signed.{lt_z}
use Rattle.std.proofs.lemmas.List.{get_or_past, map_push}
use Rattle.std.proofs.lemmas.Int.{ints}
use Rattle.std.proofs.lemmas.Bool.{ltb-false, not-true, not-false, and_parts, and_from}
use Rattle.figures.specs.Markets.{figure_if}
use Rattle.scenario.specs.Table.{ScenarioTable}
use Rattle.rules.specs.Bounds.{most_amount, most_standing, most_slips}
use Rattle.rules.specs.Ledger.{Ledger, Holder, of_client, of_trader, of_member, Slip, Trader, Client, no_slip, no_trader, no_client, struck, is_standing, collateral_in, collateral_of, moved}
use Rattle.rules.specs.Causes.{deposit, cause, within, opened, no_such_holder, is_amount, slips_of, amounts_of, next_slip, with_slips}
use Rattle.rules.proofs.Funds.{lowered, collateral_opened}
use Rattle.rules.proofs.Moves.{holder_exists}
use Rattle.rules.proofs.Rows.{hit, skip, row_off}
use Rattle.rules.proofs.Slips.{holder_itself, all_struck, standing_amount, amounts_struck, amounts_not_below}
use Rattle.book.specs.declared.books.Book.{Book}
use Rattle.book.specs.declared.stubs.Stub.{Stub}
use Rattle.std.specs.Option.{UnwrapsOrElse}
use Rattle.book.specs.declared.funds.Fund.{Fund}
use Rattle.book.specs.Funded.{fund_if}
use Rattle.book.specs.Ledgers.{ledger_in}
use Rattle.book.specs.Means.{slip_in}
use Rattle.book.proofs.Facts.{funded_in}
use Rattle.money.specs.Paid.{pay_cause}

-- a table that knows no contract: where a call does not ask the table, any will do
abbrev pub no_contracts : ScenarioTable
no_contracts = record { subportfolios = 1; scenarios = λ k. 1; place = λ c. None; shock = λ c s. pos 0 }

pub figure_some : (b : Bool) (y x : ℤ) → Some x ≡ figure_if b y → (b ≡ true) × (x ≡ y)
figure_some true y x e = (refl, cc)
figure_some false y x e = let z : ◌≡◌ {A = ℕ} 0 1 = cc in absurd (omega arith)

-- ---- a ledger whose money has moved, field by field

abbrev pub other_money : Ledger → List Trader → List Client → List Slip → ℕ → Ledger
other_money l ts cs ss n = record { traders = ts; clients = cs; trades = l.trades; prices = l.prices; slips = ss; made = n; passed = l.passed }

pub moved_is : (l : Ledger) (h : Holder) (a : ℤ) → other_money l (moved l h a).traders (moved l h a).clients l.slips l.made ≡ moved l h a
moved_is l (of_client c) a = refl
moved_is l (of_trader t) a = refl
moved_is l (of_member t) a = refl

pub paid_is : (l : Ledger) (h : Holder) (a : ℤ) (ss : List Slip) (n : ℕ) → other_money l (moved l h a).traders (moved l h a).clients ss n ≡ with_slips (moved l h a) ss n
paid_is l (of_client c) a ss n = refl
paid_is l (of_trader t) a ss n = refl
paid_is l (of_member t) a ss n = refl

-- an unknown holder has nothing
pub nothing_held : (l : Ledger) (h : Holder) → no_such_holder l h ≡ true → collateral_of l h ≡ pos 0
nothing_held l (of_client c) e = ap (λ (x : Client). x.collateral) (get_or_past l.clients c no_client (ltb-false _ _ (not-true _ e)))
nothing_held l (of_trader t) e = ap (λ (x : Trader). x.own) (get_or_past l.traders t no_trader (ltb-false _ _ (not-true _ e)))
nothing_held l (of_member t) e = ap (λ (x : Trader). x.favour) (get_or_past l.traders t no_trader (ltb-false _ _ (not-true _ e)))

-- so what is unwrapped for a holder is what it has
pub held_or_none : (l : Ledger) (h : Holder) (o : Option Fund) (x : Fund) → MatchOption o (no_such_holder l h ≡ true) (λ y. (no_such_holder l h ≡ false) × (y.amount ≡ collateral_of l h)) → UnwrapsOrElse o (λ y. y.amount ≡ pos 0) x → x.amount ≡ collateral_of l h
held_or_none l h None x e u = u ∙ sym (nothing_held l h e)
held_or_none l h (Some y) x e u = ap (λ (f : Fund). f.amount) u ∙ e.1

-- an amount in range is a fund
pub fits_fund : (a : ℤ) → pos 0 ≤ℤ a → a ≤ℤ pos most_amount → None ≡ fund_if a → ⊥
fits_fund a l h e =
    let low : lt_z a (pos 0) ≡ false = grind (arith, ints) in
    let high : lt_z (pos most_amount) a ≡ false = grind (arith, ints) in
    let is : within (pos 0) (pos most_amount) a ≡ true = and_from _ _ (ap not low) (ap not high) in
    let some : ◌≡◌ {A = Option ℤ} None (Some a) = e ∙ ap (λ (b : Bool). cond {A = Option ℤ} b (Some a) None) is in
    let z : ◌≡◌ {A = ℕ} 0 1 = cc in
    omega arith

-- an amount that is no fund is too large
pub no_fund : (a : ℤ) → pos 0 ≤ℤ a → None ≡ fund_if a → lt_z (pos most_amount) a ≡ true
no_fund a l e = go (lt_z (pos most_amount) a) refl
  where
    go : (t : Bool) → lt_z (pos most_amount) a ≡ t → t ≡ true
    go true q = refl
    go false q = absurd (fits_fund a l (omega (arith, ints)) e)

pub some_fund : (f : Fund) (a : ℤ) → Some f.amount ≡ fund_if a → f.amount ≡ a
some_fund f a e = go (within (pos 0) (pos most_amount) a) e
  where
    go : (t : Bool) → Some f.amount ≡ cond {A = Option ℤ} t (Some a) None → f.amount ≡ a
    go true q = cc
    go false q = let z : ◌≡◌ {A = ℕ} 0 1 = cc in absurd (omega arith)

-- ---- what is free

pub deposit_free : (m : ScenarioTable) (l : Ledger) (h : Holder) (a : ℤ) → no_such_holder l h ≡ false → is_amount a ≡ true → lt_z (pos most_amount) (collateral_of l h +ℤ slips_of l h +ℤ a) ≡ false → cause m l (deposit h a) ≡ None
deposit_free m l h a x y z = skip _ 10 _ _ x (skip _ 12 _ _ (ap not y) (skip _ 18 _ _ z refl))

pub deposit_over : (m : ScenarioTable) (l : Ledger) (h : Holder) (a : ℤ) → no_such_holder l h ≡ false → is_amount a ≡ true → lt_z (pos most_amount) (collateral_of l h +ℤ slips_of l h +ℤ a) ≡ true → cause m l (deposit h a) ≡ Some 18
deposit_over m l h a x y z = skip _ 10 _ _ x (skip _ 12 _ _ (ap not y) (hit _ 18 _ z))

-- ---- the rows of a withdrawal

module _ (l : Ledger) (h : Holder) (a : ℤ) (known : no_such_holder l h ≡ false) (room : (not (ltb (length l.slips) most_standing) || not (ltb l.made most_slips)) ≡ false) where
  pub no_amount : is_amount a ≡ false → Some 12 ≡ pay_cause l h a
  no_amount e = sym (skip _ 10 _ _ known (skip _ 11 _ _ room (hit _ 12 _ (ap not e))))

  pub not_enough : is_amount a ≡ true → lt_z (collateral_of l h) a ≡ true → Some 19 ≡ pay_cause l h a
  not_enough e f = sym (skip _ 10 _ _ known (skip _ 11 _ _ room (skip _ 12 _ _ (ap not e) (hit _ 19 _ f))))

  pub pay_free : is_amount a ≡ true → lt_z (collateral_of l h) a ≡ false → None ≡ pay_cause l h a
  pay_free e f = sym (skip _ 10 _ _ known (skip _ 11 _ _ room (skip _ 12 _ _ (ap not e) (skip _ 19 _ _ f refl))))

-- what a free withdrawal tells
pub record FreeToPay (l : Ledger) (h : Holder) (a : ℤ) : Type 0 where
  pub known : no_such_holder l h ≡ false
  pub room : (not (ltb (length l.slips) most_standing) || not (ltb l.made most_slips)) ≡ false
  pub fair : is_amount a ≡ true
  pub enough : lt_z (collateral_of l h) a ≡ false

pub free_to_pay : (l : Ledger) (h : Holder) (a : ℤ) → None ≡ pay_cause l h a → FreeToPay l h a
free_to_pay l h a e =
    let p = row_off (no_such_holder l h) 10 _ (sym e) in
    let q = row_off (not (ltb (length l.slips) most_standing) || not (ltb l.made most_slips)) 11 _ p.1 in
    let r = row_off (not (is_amount a)) 12 _ q.1 in
    let s = row_off (lt_z (collateral_of l h) a) 19 _ r.1 in
    record { known = p.0; room = q.0; fair = not-false _ r.0; enough = s.0 }

-- after a free withdrawal no holder has more than it may
pub capped_paid : (b : Book) (h : Holder) (a : ℤ) → FreeToPay (ledger_in b) h a → (k : Holder) → (collateral_in (moved (ledger_in b) h (neg_ℤ a)).traders (moved (ledger_in b) h (neg_ℤ a)).clients k +ℤ amounts_of ((ledger_in b).slips ++ next_slip (ledger_in b) h a ∷ []) k) ≤ℤ pos most_amount
capped_paid b h a f =
    let l = ledger_in b in
    (lowered l h a (next_slip l h a) refl refl (up (and_parts _ _ f.fair).0) (holder_exists l h f.known) (enough (collateral_of l h) f.enough) (funded_in b)).capped
  where
    up : not (lt_z a (pos 1)) ≡ true → pos 0 ≤ℤ a
    up e = let p : lt_z a (pos 1) ≡ false = not-true (lt_z a (pos 1)) e in omega (arith, ints)

    enough : (c : ℤ) → lt_z c a ≡ false → a ≤ℤ c
    enough c q = omega (arith, ints)

-- the opening moves no money
pub capped_opened : (b : Book) (f : ℕ → ℤ) (cs : List Client) → cs ≡ opened f 0 (ledger_in b).clients → (h : Holder) → (collateral_in (ledger_in b).traders cs h +ℤ amounts_of (ledger_in b).slips h) ≤ℤ pos most_amount
capped_opened b f cs e h = subst (λ (x : ℤ). (x +ℤ amounts_of (ledger_in b).slips h) ≤ℤ pos most_amount) (same h) (b.capped h)
  where
    same : (h : Holder) → collateral_in (ledger_in b).traders (ledger_in b).clients h ≡ collateral_in (ledger_in b).traders cs h
    same (of_client c) = sym (collateral_opened f 0 (ledger_in b).clients c) ∙ ap (λ (v : List Client). (get_or v c no_client).collateral) (sym e)
    same (of_trader t) = refl
    same (of_member t) = refl

-- a slip that stands leaves room for its amount
pub room_for_back : (b : Book) (s : Slip) → is_standing s (ledger_in b).slips ≡ true → (pos 0 ≤ℤ s.amount) × ((collateral_of (ledger_in b) s.holder +ℤ s.amount) ≤ℤ pos most_amount)
room_for_back b s e =
    let l = ledger_in b in
    let f = funded_in b in
    let k = amounts_struck s l.slips s.holder e in
    let n = amounts_not_below (struck s l.slips) s.holder (all_struck (λ (x : Slip). pos 0 ≤ℤ x.amount) s no_slip l.slips f.paid) in (
      standing_amount s l.slips e f.paid,
      by (collateral_of l s.holder) s.amount (amounts_of (struck s l.slips) s.holder) (amounts_of l.slips s.holder) (sym (ap (λ (t : Bool). amounts_of (struck s l.slips) s.holder +ℤ cond t s.amount (pos 0)) (holder_itself s.holder)) ∙ k) n (f.capped s.holder),
    )
  where
    by : (x a u v : ℤ) → u +ℤ a ≡ v → pos 0 ≤ℤ u → (x +ℤ v) ≤ℤ pos most_amount → (x +ℤ a) ≤ℤ pos most_amount
    by x a u v e n h = omega (arith, ints)

-- a slip more, by what it says
pub pushed_slip : (xs ys : List Stub) (x : Stub) (s : Slip) → ys ≡ xs ++ x ∷ [] → slip_in x ≡ s → map slip_in ys ≡ map slip_in xs ++ s ∷ []
pushed_slip xs ys x s e q = ap (map slip_in) e ∙ map_push slip_in xs x ∙ ap (λ (v : Slip). map slip_in xs ++ v ∷ []) q

-- what holds of some money holds of the same
pub capped_at : (ts ts' : List Trader) (cs cs' : List Client) (ss ss' : List Slip) → ts ≡ ts' → cs ≡ cs' → ss ≡ ss' → ((h : Holder) → (collateral_in ts' cs' h +ℤ amounts_of ss' h) ≤ℤ pos most_amount) → (h : Holder) → (collateral_in ts cs h +ℤ amounts_of ss h) ≤ℤ pos most_amount
capped_at ts ts' cs cs' ss ss' p q r f h = subst (λ (z : ℤ). z ≤ℤ pos most_amount) (λ i. collateral_in (sym p i) (sym q i) h +ℤ amounts_of (sym r i) h) (f h)

-- a slip that was found among the rows
pub found_struck : (s : Slip) (xs zs : List Stub) (k : ℕ) → struck s (map slip_in xs) ≡ map slip_in (take k xs ++ drop (k + 1) xs) → zs ≡ take k xs ++ drop (k + 1) xs → map slip_in zs ≡ struck s (map slip_in xs)
found_struck s xs zs k h q = ap (map slip_in) q ∙ sym h
