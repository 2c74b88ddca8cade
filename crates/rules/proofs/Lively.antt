-- The table of the small day is lawful, and its runs show that the law speaks of something. Assumes nothing.
use Rattle.std.proofs.Common.{◌≡◌, ℕ, ◌≤◌, Bool, true, false, cond, ◌&&◌, eqb, pos, negsuc, ◌≤ℤ◌, Some, None, refl, ap, arith}
use Rattle.std.proofs.lemmas.Bool.{ne_eqb, eq-eqb}
use Rattle.scenario.specs.Table.{Lawful}
use Rattle.rules.specs.Ledger.{of_trader}
use Rattle.rules.specs.Runs.{Run}
use Rattle.rules.specs.Law.{here, later}
use Rattle.rules.specs.Lively.{Lively}
use Rattle.rules.specs.SmallDay.{known, table, preparing, trading, sinking}

placed : (t : Bool) (k n : ℕ) → known t ≡ Some (k, n) → (k ≡ 0) × (n ≡ 10)
placed true k n e =
    let q : ◌≡◌ {A = ℕ × ℕ} (k, n) (0, 10) = cc in
    (ap (λ (p : ℕ × ℕ). p.0) q, ap (λ (p : ℕ × ℕ). p.1) q)
placed false k n e = let z : ◌≡◌ {A = ℕ} 0 1 = cc in absurd (omega arith)

unplaced : (t : Bool) → known t ≡ None → t ≡ false
unplaced true e = let z : ◌≡◌ {A = ℕ} 0 1 = cc in absurd (omega arith)
unplaced false e = refl

shocks : (t u : Bool) → (negsuc 99999999 ≤ℤ cond (t && u) (negsuc 99) (pos 0)) × (cond (t && u) (negsuc 99) (pos 0) ≤ℤ pos 100000000)
shocks true true = (record { le = tt }, record { le = tt })
shocks true false = (record { le = tt }, record { le = tt })
shocks false u = (record { le = tt }, record { le = tt })

still : (t u : Bool) → u ≡ false → cond (t && u) (negsuc 99) (pos 0) ≡ pos 0
still true true e = absurd (let z : ◌≡◌ {A = ℕ} 0 1 = cc in omega arith)
still true false e = refl
still false u e = refl

lawful : Lawful table
lawful = record {
  some_subportfolio = omega arith;
  few_subportfolios = omega arith;
  some_scenario = λ k h. rw (eq-eqb k 0 (omega arith)) (omega arith);
  few_scenarios = λ k. few (eqb k 0);
  none_beyond = λ k h. ap (λ (t : Bool). cond t 2 0) (ne_eqb k 0 (λ e. omega arith));
  contracts_known = λ c h. ap known (ne_eqb c 7 (λ e. omega arith));
  placed_within = λ c k n e. omega (arith, (placed (eqb c 7) k n e).0);
  multiplier_small = λ c k n e. omega (arith, (placed (eqb c 7) k n e).1);
  unmoved = λ c. still (eqb c 7) false refl;
  shock_low = λ c s. (shocks (eqb c 7) (eqb s 1)).0;
  shock_high = λ c s. (shocks (eqb c 7) (eqb s 1)).1;
  unknown_still = λ c s e. ap (λ (t : Bool). cond (t && eqb s 1) (negsuc 99) (pos 0)) (unplaced (eqb c 7) e);
  missing_still = λ c k n s e h. still (eqb c 7) (eqb s 1) (ne_eqb s 1 (λ q. beyond k s (placed (eqb c 7) k n e).0 h q));
}
  where
    few : (t : Bool) → cond t 2 0 ≤ 64
    few true = omega arith
    few false = omega arith

    beyond : (k s : ℕ) → k ≡ 0 → cond (eqb k 0) 2 0 ≤ s → s ≡ 1 → ⊥
    beyond k s e h q = omega (arith, ap {B = ℕ} (λ (t : Bool). cond t 2 0) (eq-eqb k 0 e))

units : Unit {0} × (Unit {0} × (Unit {0} × (Unit {0} × (Unit {0} × (Unit {0} × Unit {0})))))
units = (tt, (tt, (tt, (tt, (tt, (tt, tt))))))

abbrev run : Run table
run = record { before = preparing (pos 250); after = trading; prepares = units; trades = units; prepared = (refl, (refl, (refl, (refl, (refl, (refl, tt)))))); ruled = (refl, (refl, (refl, (refl, (refl, (refl, tt)))))) }

abbrev richer : Run table
richer = record { before = preparing (pos 350); after = trading; prepares = units; trades = units; prepared = (refl, (refl, (refl, (refl, (refl, (refl, tt)))))); ruled = (refl, (refl, (refl, (refl, (refl, (refl, tt)))))) }

abbrev sunk : Run table
sunk = record { before = preparing (pos 250); after = sinking; prepares = units; trades = (tt, tt); prepared = (refl, (refl, (refl, (refl, (refl, (refl, tt)))))); ruled = (refl, tt) }

pub lively : Lively
lively = record {
  table = table;
  lawful = lawful;
  sunk = sunk;
  below = record { lt = tt };
  run = run;
  holder = of_trader 0;
  amount = pos 20;
  withdrawn = refl;
  lower = record { lt = tt };
  number = 0;
  cancelled = refl;
  lower_too = record { lt = tt };
  richer = richer;
  same_after = refl;
  larger = later _ (later _ (later _ (later _ (here (pos 250) _))));
  higher = record { lt = tt };
  not_by_all = record { lt = tt };
}
