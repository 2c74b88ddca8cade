-- Rows of clients that are all changed, and settlement amounts. Assumes nothing.
use Rattle.std.proofs.Common.{◌≡◌, ℕ, suc, ◌+◌, ◌<◌, ◌≤◌, true, false, not, List, [], ◌∷◌, map, length, get_or, ℤ, pos, neg_ℤ, nat_abs, None, refl, ap, ◌∙◌, arith}
use lib.Signed.{lt_z}
use Rattle.std.proofs.lemmas.Int.{ints}
use Rattle.std.proofs.lemmas.Bool.{and_from, leb-true}
use Rattle.figures.specs.Markets.{fair_cash}
use Rattle.scenario.specs.Table.{ScenarioTable}
use Rattle.rules.specs.Bounds.{most_cash}
use Rattle.rules.specs.Ledger.{Ledger, Client}
use Rattle.rules.specs.Causes.{cash, cause, within, opened, with_cash, no_such_client}
use Rattle.rules.proofs.Rows.{skip}
use Rattle.book.specs.declared.clients.Client.{Client as ClientRow}
use Rattle.book.specs.Means.{client_in}

-- ---- all rows, each changed alike

-- a client with an opening need
abbrev pub with_need : ℤ → Client → Client
with_need n x = record { trader = x.trader; collateral = x.collateral; cash = x.cash; opening_need = n }

pub all_cash : (v : ℤ) (ys xs : List ClientRow) → length ys ≡ length xs → ((i : ℕ) (d : ClientRow) → i < length xs → client_in (get_or ys i d) ≡ with_cash v (client_in (get_or xs i d))) → map client_in ys ≡ map (with_cash v) (map client_in xs)
all_cash v [] [] e h = refl
all_cash v [] (x ∷ xs) e h = absurd (omega arith)
all_cash v (y ∷ ys) [] e h = absurd (omega arith)
all_cash v (y ∷ ys) (x ∷ xs) e h = λ j. h 0 x (omega arith) j ∷ all_cash v ys xs (omega arith) (λ i d l. h (suc i) d (omega arith)) j

pub all_needs : (f : ℕ → ℤ) (k : ℕ) (ys xs : List ClientRow) → length ys ≡ length xs → ((i : ℕ) (d : ClientRow) → i < length xs → client_in (get_or ys i d) ≡ with_need (f (k + i)) (client_in (get_or xs i d))) → map client_in ys ≡ opened f k (map client_in xs)
all_needs f k [] [] e h = refl
all_needs f k [] (x ∷ xs) e h = absurd (omega arith)
all_needs f k (y ∷ ys) [] e h = absurd (omega arith)
all_needs f k (y ∷ ys) (x ∷ xs) e h =
    let here : k + 0 ≡ k = omega arith in
    let first : client_in y ≡ with_need (f k) (client_in x) = h 0 x (omega arith) ∙ ap (λ (n : ℕ). with_need (f n) (client_in x)) here in
    λ j. first j ∷ all_needs f (k + 1) ys xs (omega arith) (λ i d l. let next : k + suc i ≡ k + 1 + i = omega arith in h (suc i) d (omega arith) ∙ ap (λ (n : ℕ). with_need (f n) (client_in (get_or xs i d))) next) j

-- ---- settlement amounts

pub fair_is_within : (z : ℤ) → fair_cash z ≡ true → within (neg_ℤ (pos most_cash)) (pos most_cash) z ≡ true
fair_is_within z e =
    let h : nat_abs z ≤ 10000000000000 = leb-true (nat_abs z) 10000000000000 e in
    and_from (not (lt_z z (neg_ℤ (pos most_cash)))) (not (lt_z (pos most_cash) z)) (ap not (low z h)) (ap not (high z h))
  where
    low : (z : ℤ) → nat_abs z ≤ 10000000000000 → lt_z z (neg_ℤ (pos most_cash)) ≡ false
    low z h = grind (arith, ints)

    high : (z : ℤ) → nat_abs z ≤ 10000000000000 → lt_z (pos most_cash) z ≡ false
    high z h = grind (arith, ints)

pub cash_free : (m : ScenarioTable) (l : Ledger) (c : ℕ) (v : ℤ) → no_such_client l c ≡ false → fair_cash v ≡ true → l.passed ≡ false → cause m l (cash c v) ≡ None
cash_free m l c v a b d = skip _ 10 _ _ a (skip _ 12 _ _ (ap not (fair_is_within v b)) (skip _ 20 _ _ d refl))
