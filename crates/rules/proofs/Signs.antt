-- Backing and risk are not below 0. Assumes nothing.
use Rattle.std.proofs.Common.{ℕ, zero, suc, Bool, true, false, cond, List, [], ◌∷◌, map, ℤ, pos, ◌+ℤ◌, neg_ℤ, ◌≤ℤ◌, arith}
use Rattle.std.specs.Int.{int_max}
use Rattle.std.proofs.lemmas.Int.{ints, clamps}
use Rattle.scenario.specs.Table.{ScenarioTable}
use Rattle.figures.specs.Sums.{total, total_below, greatest_below, floored}
use Rattle.figures.specs.Figures.{Position, lies_in, value, losers_in, open_risk}
use Rattle.figures.proofs.Chosen.{greatest}
use Rattle.rules.specs.Bounds.{most_amount, most_backing}
use Rattle.rules.specs.Ledger.{of_trader, of_member, Ledger, trader_of, market}
use Rattle.rules.specs.Limits.{open_trades, clients_of, deficit_of, specified_risk, unspecified_risk, risk, backing}
use Rattle.rules.specs.Causes.{amounts_of}
use Rattle.rules.specs.Runs.{ledger}
use Rattle.rules.specs.Sound.{Upto, BackingAndRiskNotNegative}
use Rattle.rules.proofs.Funds.{FundsKept}
use Rattle.rules.proofs.Helps.{specified_is}
use Rattle.rules.proofs.Slips.{amounts_not_below}
use Rattle.rules.proofs.Sound.{sound_ledger}

-- ---- backing

pub backing_upto : (m : ScenarioTable) (l : Ledger) → FundsKept l → (tr : ℕ) → Upto most_backing (backing m l tr)
backing_upto m l f tr =
    sums (trader_of l tr).intraday (trader_of l tr).own (trader_of l tr).favour (amounts_of l.slips (of_trader tr)) (amounts_of l.slips (of_member tr)) (f.granted tr) (f.covered (of_trader tr)) (f.covered (of_member tr)) (amounts_not_below l.slips (of_trader tr) f.paid) (amounts_not_below l.slips (of_member tr) f.paid) (f.capped (of_trader tr)) (f.capped (of_member tr))
  where
    sums : (x y z s t : ℤ) → Upto most_amount x → pos 0 ≤ℤ y → pos 0 ≤ℤ z → pos 0 ≤ℤ s → pos 0 ≤ℤ t → (y +ℤ s) ≤ℤ pos most_amount → (z +ℤ t) ≤ℤ pos most_amount → Upto most_backing (x +ℤ y +ℤ z)
    sums x y z s t (a, b) c d e g h k = (omega (arith, ints), omega (arith, ints))

-- ---- risk

total_up : {A : Type 0} (f : A → ℤ) → ((x : A) → pos 0 ≤ℤ f x) → (xs : List A) → pos 0 ≤ℤ total f xs
total_up f h [] = omega (arith, ints)
total_up f h (x ∷ xs) = omega (arith, ints, h x, total_up f h xs)

below_up : (n : ℕ) (f : ℕ → ℤ) → ((j : ℕ) → pos 0 ≤ℤ f j) → pos 0 ≤ℤ total_below n f
below_up zero f h = omega (arith, ints)
below_up (suc n) f h = omega (arith, ints, below_up n f h, h n)

greatest_below_up : (n : ℕ) (f : ℕ → ℤ) → ((j : ℕ) → pos 0 ≤ℤ f j) → pos 0 ≤ℤ greatest_below n f
greatest_below_up zero f h = h 0
greatest_below_up (suc n) f h = omega (arith, ints, clamps, greatest_below_up n f h)

greatest_up : (n : ℕ) (xs : List ℤ) → pos 0 ≤ℤ greatest n xs
greatest_up zero xs = omega (arith, ints)
greatest_up (suc n) [] = omega (arith, ints)
greatest_up (suc n) (x ∷ xs) = omega (arith, ints, clamps, greatest_up (suc n) xs)

pub open_risk_not_below : (m : ScenarioTable) (mk : ℕ → ℕ) (ts : List Position) → pos 0 ≤ℤ open_risk m mk ts
open_risk_not_below m mk ts =
    below_up m.subportfolios (λ k. greatest_below (m.scenarios k) (losers_in m mk ts k))
    (λ k. greatest_below_up (m.scenarios k) (losers_in m mk ts k) (λ s. total_up (λ t. cond (lies_in m k t) (floored (neg_ℤ (value m mk s t))) (pos 0)) (λ t. one (lies_in m k t) (neg_ℤ (value m mk s t))) ts))
  where
    one : (b : Bool) (x : ℤ) → pos 0 ≤ℤ cond b (int_max (pos 0) x) (pos 0)
    one true x = omega (arith, ints, clamps)
    one false x = omega (arith, ints)

pub specified_risk_not_below : (m : ScenarioTable) (l : Ledger) (tr : ℕ) → pos 0 ≤ℤ specified_risk m l tr
specified_risk_not_below m l tr = rw (specified_is m l (trader_of l tr).defaults (clients_of l tr)) (greatest_up (trader_of l tr).defaults (map (deficit_of m l) (clients_of l tr)))

pub risk_not_below : (m : ScenarioTable) (l : Ledger) (tr : ℕ) → pos 0 ≤ℤ risk m l tr
risk_not_below m l tr = both (specified_risk m l tr) (unspecified_risk m l tr) (specified_risk_not_below m l tr) (open_risk_not_below m (market l) (open_trades l tr))
  where
    both : (x y : ℤ) → pos 0 ≤ℤ x → pos 0 ≤ℤ y → pos 0 ≤ℤ (x +ℤ y)
    both x y h k = omega (arith, ints)

pub backing_and_risk_not_negative : BackingAndRiskNotNegative
backing_and_risk_not_negative m w r tr = (backing_upto m (ledger m r) (sound_ledger m r).funded tr, risk_not_below m (ledger m r) tr)
