-- Slips: which are the same, which stand, and what a holder has of them. Assumes nothing.
use Rattle.std.proofs.Common.{◌≡◌, ℕ, zero, suc, ◌<◌, Bool, true, false, cond, ◌&&◌, eqb, List, [], ◌∷◌, ◌++◌, length, get_or, ℤ, pos, ◌+ℤ◌, ◌≤ℤ◌, None, sym, refl, ap, ◌∙◌, arith}
use lib.Signed.{le_z}
use Rattle.std.proofs.lemmas.Int.{ints}
use Rattle.std.proofs.lemmas.Bool.{eq-eqb, eqb-true, false≢true, and_parts}
use Rattle.scenario.specs.Table.{ScenarioTable}
use Rattle.rules.specs.Ledger.{Holder, of_client, of_trader, of_member, Slip, Ledger, no_slip, same_slip, same_holder, struck, is_standing}
use Rattle.rules.specs.Causes.{settle, put_back, cause, amounts_of}
use Rattle.rules.proofs.Totals.{total_append}

-- ---- the same

pub same_holders : (a b : Holder) → same_holder a b ≡ true → a ≡ b
same_holders (of_client a) (of_client b) e = ap of_client (eqb-true a b e)
same_holders (of_client a) (of_trader b) e = absurd (false≢true e)
same_holders (of_client a) (of_member b) e = absurd (false≢true e)
same_holders (of_trader a) (of_client b) e = absurd (false≢true e)
same_holders (of_trader a) (of_trader b) e = ap of_trader (eqb-true a b e)
same_holders (of_trader a) (of_member b) e = absurd (false≢true e)
same_holders (of_member a) (of_client b) e = absurd (false≢true e)
same_holders (of_member a) (of_trader b) e = absurd (false≢true e)
same_holders (of_member a) (of_member b) e = ap of_member (eqb-true a b e)

pub holder_itself : (h : Holder) → same_holder h h ≡ true
holder_itself (of_client c) = eq-eqb c c refl
holder_itself (of_trader t) = eq-eqb t t refl
holder_itself (of_member t) = eq-eqb t t refl

pub slip_itself : (s : Slip) → same_slip s s ≡ true
slip_itself s = rw (eq-eqb s.serial s.serial refl, holder_itself s.holder, amount_itself s.amount)
  where
    amount_itself : (x : ℤ) → le_z x x ≡ true
    amount_itself x = grind (arith, ints)

-- ---- which stand

-- a slip of the list stands
pub stands : (ss : List Slip) (i : ℕ) → i < length ss → is_standing (get_or ss i no_slip) ss ≡ true
stands [] i l = absurd (omega arith)
stands (x ∷ ss) zero l = rw (slip_itself x)
stands (x ∷ ss) (suc i) l = go (same_slip (get_or ss i no_slip) x) (stands ss i (omega arith))
  where
    go : (t : Bool) → is_standing (get_or ss i no_slip) ss ≡ true → cond t true (is_standing (get_or ss i no_slip) ss) ≡ true
    go true e = refl
    go false e = e

-- and is settled or put back without fail
pub settled : (m : ScenarioTable) (l : Ledger) (s : Slip) → is_standing s l.slips ≡ true → cause m l (settle s) ≡ None
settled m l s e = rw e

pub given_back : (m : ScenarioTable) (l : Ledger) (s : Slip) → is_standing s l.slips ≡ true → cause m l (put_back s) ≡ None
given_back m l s e = rw e

pub all_struck : (P : Slip → Type 0) (s d : Slip) (xs : List Slip) → ((i : ℕ) → P (get_or xs i d)) → (i : ℕ) → P (get_or (struck s xs) i d)
all_struck P s d [] h i = h i
all_struck P s d (x ∷ xs) h i = go (same_slip s x) i (λ k. all_struck P s d xs (λ j. h (suc j)) k)
  where
    go : (t : Bool) (i : ℕ) → ((k : ℕ) → P (get_or (struck s xs) k d)) → P (get_or (cond t xs (x ∷ struck s xs)) i d)
    go true i r = h (suc i)
    go false zero r = h 0
    go false (suc i) r = r i

same_amount : (s x : Slip) → same_slip s x ≡ true → x.amount ≤ℤ s.amount
same_amount s x e =
    let p = and_parts (eqb s.serial x.serial && same_holder s.holder x.holder) (le_z s.amount x.amount && le_z x.amount s.amount) e in
    let q : le_z x.amount s.amount ≡ true = (and_parts (le_z s.amount x.amount) (le_z x.amount s.amount) p.1).1 in
    omega (arith, ints)

pub standing_amount : (s : Slip) (xs : List Slip) → is_standing s xs ≡ true → ((i : ℕ) → pos 0 ≤ℤ (get_or xs i no_slip).amount) → pos 0 ≤ℤ s.amount
standing_amount s [] e h = absurd (false≢true e)
standing_amount s (x ∷ xs) e h = go (same_slip s x) refl e (λ k. standing_amount s xs k (λ i. h (suc i)))
  where
    go : (t : Bool) → same_slip s x ≡ t → cond t true (is_standing s xs) ≡ true → (is_standing s xs ≡ true → pos 0 ≤ℤ s.amount) → pos 0 ≤ℤ s.amount
    go true q k r = omega (arith, ints, same_amount s x q, h 0)
    go false q k r = r k

-- ---- what a holder has of them

-- what a holder has of a slip
abbrev pub part : Holder → Slip → ℤ
part h s = cond (same_holder h s.holder) s.amount (pos 0)

same_part : (h : Holder) (s x : Slip) → same_slip s x ≡ true → part h x ≡ part h s
same_part h s x e =
    let p = and_parts (eqb s.serial x.serial && same_holder s.holder x.holder) (le_z s.amount x.amount && le_z x.amount s.amount) e in
    let q = and_parts (eqb s.serial x.serial) (same_holder s.holder x.holder) p.0 in
    let u = and_parts (le_z s.amount x.amount) (le_z x.amount s.amount) p.1 in
    let amounts : x.amount ≡ s.amount = even s.amount x.amount u.0 u.1 in
    ap (λ (k : Holder). cond (same_holder h k) x.amount (pos 0)) (sym (same_holders s.holder x.holder q.1))
    ∙ ap (λ (v : ℤ). cond (same_holder h s.holder) v (pos 0)) amounts
  where
    even : (a b : ℤ) → le_z a b ≡ true → le_z b a ≡ true → b ≡ a
    even a b h k = omega (arith, ints)

pub amounts_push : (ss : List Slip) (s : Slip) (h : Holder) → amounts_of (ss ++ s ∷ []) h ≡ amounts_of ss h +ℤ part h s
amounts_push ss s h = omega (arith, ints, total_append (part h) ss (s ∷ []))

pub amounts_struck : (s : Slip) (ss : List Slip) (h : Holder) → is_standing s ss ≡ true → amounts_of (struck s ss) h +ℤ part h s ≡ amounts_of ss h
amounts_struck s [] h e = absurd (false≢true e)
amounts_struck s (x ∷ ss) h e = go (same_slip s x) refl e (λ k. amounts_struck s ss h k)
  where
    go : (t : Bool) → same_slip s x ≡ t → cond t true (is_standing s ss) ≡ true → (is_standing s ss ≡ true → amounts_of (struck s ss) h +ℤ part h s ≡ amounts_of ss h) → amounts_of (cond t ss (x ∷ struck s ss)) h +ℤ part h s ≡ amounts_of (x ∷ ss) h
    go true q k r = omega (arith, ints, same_part h s x q)
    go false q k r = omega (arith, ints, r k)

pub amounts_not_below : (ss : List Slip) (h : Holder) → ((i : ℕ) → pos 0 ≤ℤ (get_or ss i no_slip).amount) → pos 0 ≤ℤ amounts_of ss h
amounts_not_below [] h p = omega (arith, ints)
amounts_not_below (s ∷ ss) h p = go (same_holder h s.holder) (p 0) (amounts_not_below ss h (λ i. p (suc i)))
  where
    go : (t : Bool) → pos 0 ≤ℤ s.amount → pos 0 ≤ℤ amounts_of ss h → pos 0 ≤ℤ (cond t s.amount (pos 0) +ℤ amounts_of ss h)
    go true a b = omega (arith, ints)
    go false a b = omega (arith, ints)
