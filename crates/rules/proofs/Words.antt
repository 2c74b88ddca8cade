-- The bounds on lots, prices and tables keep every sum far from the word's end. Assumes nothing.
use Rattle.std.proofs.Common.{◌≡◌, ℕ, zero, suc, ◌*◌, ◌≤◌, Bool, true, false, cond, not, ◌||◌, eqb, ltb, List, [], ◌∷◌, length, get_or, ℤ, pos, negsuc, ◌+ℤ◌, ◌-ℤ◌, ◌*ℤ◌, neg_ℤ, ◌≤ℤ◌, Some, None, Option, sym, refl, ◌∙◌, mul-le-mul, arith}
use lib.Signed.{lt_z}
use Rattle.std.specs.Int.{int_max}
use Rattle.std.proofs.lemmas.Int.{ints, clamps}
use Rattle.std.proofs.lemmas.Bool.{eqb-false, or_from, false≢true}
use Rattle.scenario.specs.Table.{ScenarioTable, Lawful}
use Rattle.figures.specs.Sums.{total, greatest_below, floored}
use Rattle.figures.specs.Figures.{Position, multiplier, value}
use Rattle.rules.specs.Bounds.{most_trades, most_quantity, most_price, most_reach, farthest_value, farthest}
use Rattle.rules.specs.Ledger.{Side, Standing, unspecified, carried, Trade, Ledger, no_trade, client_of, trade_of, price_of, market, empty_ledger}
use Rattle.rules.specs.Causes.{Call, trader, client, carry, price, deposit, opening, trade, specify, cancel, withdraw, settle, put_back, cash, window, statement, new_trade, with_trade, first, cause, rows, entry_rows, absent, is_lot, no_such_client, no_such_trader, reach, beyond_the_word}
use Rattle.rules.specs.Runs.{fed, ledger}
use Rattle.rules.specs.Sound.{Near, Small}
use Rattle.rules.specs.Words.{FarFromTheWord, AllFarFromTheWord}
use Rattle.rules.proofs.Bounded.{BoundsKept, bounded_entry}
use Rattle.rules.proofs.Sound.{sound_empty, sound_fed, sound_ledger}

-- ---- amounts within a bound

near_mul : (n k : ℕ) (x y : ℤ) → Near n x → Near k y → Near (n * k) (x *ℤ y)
near_mul n k (pos a) (pos b) (p, q) (r, s) =
    let z : a * b ≤ n * k = mul-le-mul (omega (arith, ints)) (omega (arith, ints)) in (omega (arith, ints), omega (arith, ints))
near_mul n k (pos a) (negsuc b) (p, q) (r, s) =
    let z : a * suc b ≤ n * k = mul-le-mul (omega (arith, ints)) (omega (arith, ints)) in (omega (arith, ints), omega (arith, ints))
near_mul n k (negsuc a) (pos b) (p, q) (r, s) =
    let z : suc a * b ≤ n * k = mul-le-mul (omega (arith, ints)) (omega (arith, ints)) in (omega (arith, ints), omega (arith, ints))
near_mul n k (negsuc a) (negsuc b) (p, q) (r, s) =
    let z : suc a * suc b ≤ n * k = mul-le-mul (omega (arith, ints)) (omega (arith, ints)) in (omega (arith, ints), omega (arith, ints))

-- ---- the values of a sound ledger

module _ (m : ScenarioTable) (w : Lawful m) where
  multiplier_near : (c : ℕ) → multiplier m c ≤ 10000
  multiplier_near c = go (m.place c) refl
    where
      go : (o : Option (ℕ × ℕ)) → m.place c ≡ o → elim o as (λ _. ℕ) [ Some p ↦ p.1 | None ↦ 0 ] ≤ 10000
      go (Some p) e = w.multiplier_small c p.0 p.1 e
      go None e = omega arith

  value_near : (mk : ℕ → ℕ) (s : ℕ) (t : Position) → mk t.contract ≤ most_price → Near most_quantity t.quantity → t.price ≤ most_price → Near farthest_value (value m mk s t)
  value_near mk s t h n p =
      both (t.quantity *ℤ pos (multiplier m t.contract) *ℤ (pos (mk t.contract) -ℤ pos t.price)) (t.quantity *ℤ m.shock t.contract s)
      (near_mul 100000000 100000 (t.quantity *ℤ pos (multiplier m t.contract)) (pos (mk t.contract) -ℤ pos t.price) (near_mul 10000 10000 t.quantity (pos (multiplier m t.contract)) n (natural 10000 (multiplier m t.contract) (multiplier_near t.contract))) (apart 100000 (mk t.contract) t.price h p))
      (near_mul 10000 100000000 t.quantity (m.shock t.contract s) n (shocked (m.shock t.contract s) (w.shock_low t.contract s) (w.shock_high t.contract s)))
    where
      natural : (b a : ℕ) → a ≤ b → Near b (pos a)
      natural b a h = (omega (arith, ints), omega (arith, ints))

      apart : (b x y : ℕ) → x ≤ b → y ≤ b → Near b (pos x -ℤ pos y)
      apart b x y h k = (omega (arith, ints), omega (arith, ints))

      shocked : (x : ℤ) → negsuc 99999999 ≤ℤ x → x ≤ℤ pos 100000000 → Near 100000000 x
      shocked x h k = (omega (arith, ints), omega (arith, ints))

      both : (x y : ℤ) → Near 10000000000000 x → Near 1000000000000 y → Near farthest_value (x +ℤ y)
      both x y (a, b) (c, d) = (omega (arith, ints), omega (arith, ints))

greatest_least : (n : ℕ) (f : ℕ → ℤ) (b : ℤ) → ((j : ℕ) → f j ≤ℤ b) → greatest_below n f ≤ℤ b
greatest_least zero f b h = h 0
greatest_least (suc n) f b h = omega (arith, ints, clamps, greatest_least n f b h, h n)

total_least : {A : Type 0} (f : A → ℤ) (xs : List A) (d : A) → ((i : ℕ) → f (get_or xs i d) ≤ℤ pos farthest_value) → total f xs ≤ℤ pos (length xs * farthest_value)
total_least f [] d h = omega (arith, ints)
total_least f (x ∷ xs) d h = omega (arith, ints, h 0, total_least f xs d (λ i. h (suc i)))

module _ (m : ScenarioTable) (w : Lawful m) (l : Ledger) (b : BoundsKept l) (way : ℤ → ℤ) (keeps : (x : ℤ) → Near farthest_value x → way x ≤ℤ pos farthest_value) where
  one_reach : (t : Trade) → Small t → elim (m.place t.position.contract) as (λ _. ℤ) [ Some p ↦ greatest_below (m.scenarios p.0) (λ s. floored (way (value m (market l) s t.position))) | None ↦ pos 0 ] ≤ℤ pos farthest_value
  one_reach t (n, p) = go (m.place t.position.contract)
    where
      floor : (x : ℤ) → x ≤ℤ pos farthest_value → int_max (pos 0) x ≤ℤ pos farthest_value
      floor x h = omega (arith, ints, clamps)

      go : (o : Option (ℕ × ℕ)) → elim o as (λ _. ℤ) [ Some p ↦ greatest_below (m.scenarios p.0) (λ s. floored (way (value m (market l) s t.position))) | None ↦ pos 0 ] ≤ℤ pos farthest_value
      go (Some q) =
          greatest_least (m.scenarios q.0) (λ s. floored (way (value m (market l) s t.position))) (pos farthest_value)
          (λ s. floor (way (value m (market l) s t.position)) (keeps (value m (market l) s t.position) (value_near m w (market l) s t.position (b.cheap t.position.contract) n p)))
      go None = record { le = tt }

  reach_near : reach m l way ≤ℤ pos farthest
  reach_near =
      by (reach m l way) (length l.trades) b.few
      (total_least (λ (t : Trade). elim (m.place t.position.contract) as (λ _. ℤ) [ Some p ↦ greatest_below (m.scenarios p.0) (λ s. floored (way (value m (market l) s t.position))) | None ↦ pos 0 ]) l.trades no_trade (λ i. one_reach (trade_of l i) (b.small i)))
    where
      by : (x : ℤ) (n : ℕ) → n ≤ most_trades → x ≤ℤ pos (n * farthest_value) → x ≤ℤ pos farthest
      by x n h k = omega (arith, ints)

module _ (m : ScenarioTable) (w : Lawful m) (l : Ledger) (b : BoundsKept l) where
  gains_near : reach m l (λ v. v) ≤ℤ pos farthest
  gains_near = reach_near m w l b (λ v. v) (λ x n. n.1)

  losses_near : reach m l neg_ℤ ≤ℤ pos farthest
  losses_near = reach_near m w l b neg_ℤ (λ x n. turn x n.0)
    where
      turn : (x : ℤ) → neg_ℤ (pos farthest_value) ≤ℤ x → neg_ℤ x ≤ℤ pos farthest_value
      turn x h = omega (arith, ints)

  pub not_beyond : beyond_the_word m l ≡ false
  not_beyond =
      or_from (lt_z (pos most_reach) (reach m l (λ v. v))) (lt_z (pos most_reach) (reach m l neg_ℤ)) (by (reach m l (λ v. v)) gains_near) (by (reach m l neg_ℤ) losses_near)
    where
      by : (x : ℤ) → x ≤ℤ pos farthest → lt_z (pos most_reach) x ≡ false
      by x h = grind (arith, ints)

-- ---- the row of cause 22

-- of a trade or carry
entry_never : (m : ScenarioTable) → Lawful m → (l : Ledger) → BoundsKept l → (stranger : Bool) (t k q p : ℕ) (side : Side) (x : Standing) → first (entry_rows m l stranger k q p (with_trade l (new_trade t k side q p x))) ≡ Some 22 → ⊥
entry_never m w l b stranger t k q p side x e =
    go (stranger || absent (m.place k)) (not (ltb (length l.trades) most_trades)) refl (not (is_lot q p)) refl (absent (price_of l k)) (beyond_the_word m (with_trade l (new_trade t k side q p x))) refl e
  where
    differ : (n : ℕ) → (n ≡ 22 → ⊥) → Some n ≡ Some 22 → ⊥
    differ n h k = let z : n ≡ 22 = cc in h z

    go : (c d : Bool) → not (ltb (length l.trades) most_trades) ≡ d → (f : Bool) → not (is_lot q p) ≡ f → (y z : Bool) → beyond_the_word m (with_trade l (new_trade t k side q p x)) ≡ z → cond {A = Option ℕ} c (Some 10) (cond {A = Option ℕ} d (Some 11) (cond {A = Option ℕ} f (Some 12) (cond {A = Option ℕ} y (Some 13) (cond {A = Option ℕ} z (Some 22) None)))) ≡ Some 22 → ⊥
    go true d u f v y z r e = differ 10 (λ z. omega arith) e
    go false true u f v y z r e = differ 11 (λ z. omega arith) e
    go false false u true v y z r e = differ 12 (λ z. omega arith) e
    go false false u false v true z r e = differ 13 (λ z. omega arith) e
    go false false u false v false true r e = false≢true (sym (not_beyond m w (with_trade l (new_trade t k side q p x)) (bounded_entry l t k q p side x u v b)) ∙ r)
    go false false u false v false false r e = let z : ◌≡◌ {A = ℕ} 0 1 = cc in omega arith

-- whether no row has the number 22
abbrev without : List (Bool × ℕ) → Bool
without [] = true
without (r ∷ rs) = cond (eqb r.1 22) false (without rs)

first_never : (rs : List (Bool × ℕ)) → without rs ≡ true → first rs ≡ Some 22 → ⊥
first_never [] e k = let z : ◌≡◌ {A = ℕ} 0 1 = cc in omega arith
first_never (r ∷ rs) e k = go r.0 r.1 (eqb r.1 22) refl e k (first_never rs)
  where
    go : (t : Bool) (n : ℕ) (u : Bool) → eqb n 22 ≡ u → cond u false (without rs) ≡ true → cond t (Some n) (first rs) ≡ Some 22 → (without rs ≡ true → first rs ≡ Some 22 → ⊥) → ⊥
    go t n true q e k f = false≢true e
    go true n false q e k f = let z : n ≡ 22 = cc in eqb-false n 22 q z
    go false n false q e k f = f e k

pub never : (m : ScenarioTable) → Lawful m → (l : Ledger) → BoundsKept l → (x : Call) → cause m l x ≡ Some 22 → ⊥
never m w l b (trader a n) e = first_never (rows m l (trader a n)) refl e
never m w l b (client t) e = first_never (rows m l (client t)) refl e
never m w l b (carry c k side q p) e = entry_never m w l b (no_such_client l c) (client_of l c).trader k q p side (carried c) e
never m w l b (price k p) e = first_never (rows m l (price k p)) refl e
never m w l b (deposit h a) e = first_never (rows m l (deposit h a)) refl e
never m w l b opening e = first_never (rows m l opening) refl e
never m w l b (trade t k side q p) e = entry_never m w l b (no_such_trader l t) t k q p side unspecified e
never m w l b (specify i c) e = first_never (rows m l (specify i c)) refl e
never m w l b (cancel i) e = first_never (rows m l (cancel i)) refl e
never m w l b (withdraw h a) e = first_never (rows m l (withdraw h a)) refl e
never m w l b (settle s) e = first_never (rows m l (settle s)) refl e
never m w l b (put_back s) e = first_never (rows m l (put_back s)) refl e
never m w l b (cash c v) e = first_never (rows m l (cash c v)) refl e
never m w l b window e = first_never (rows m l window) refl e
never m w l b (statement t) e = first_never (rows m l (statement t)) refl e

-- ---- runs

pub far : (m : ScenarioTable) → Lawful m → (l : Ledger) → BoundsKept l → FarFromTheWord m l
far m w l b = record { gains = gains_near m w l b; losses = losses_near m w l b; never = never m w l b }

pub far_from_the_word : AllFarFromTheWord
far_from_the_word m w =
    ((λ es r. far m w (fed m empty_ledger es) (sound_fed m es empty_ledger r sound_empty).bounded), (λ r. far m w (ledger m r) (sound_ledger m r).bounded))
