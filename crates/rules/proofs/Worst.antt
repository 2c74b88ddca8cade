-- The worst day of a trader costs its risk. Assumes nothing.
use Rattle.std.proofs.Common.{◌≡◌, ℕ, suc, ◌+◌, ◌<◌, ◌≤◌, Bool, true, false, cond, eqb, List, [], ◌∷◌, map, length, get_or, ℤ, pos, ◌+ℤ◌, ◌-ℤ◌, ◌*ℤ◌, neg_ℤ, ◌≤ℤ◌, ◌<ℤ◌, Some, None, Option, sym, refl, ap, ◌∙◌, arith}
use lib.Signed.{lt_z}
use Rattle.std.specs.Int.{int_max}
use Rattle.std.proofs.lemmas.Int.{ints, clamps}
use Rattle.scenario.specs.Table.{ScenarioTable, Lawful}
use Rattle.figures.specs.Sums.{smaller, floored, total, total_below, greatest_below}
use Rattle.figures.specs.Figures.{Position, multiplier, lies_in, loss_in, margin, mark, value, losers_in, open_risk}
use Rattle.figures.proofs.Greatest.{below_mono, below_same, greatest_bound, argmax, greatest_met, argmax_below}
use Rattle.rules.proofs.Totals.{below_zero, below_one, total_cong, total_swap}
use Rattle.figures.proofs.Chosen.{greatest}
use Rattle.rules.specs.Ledger.{of_client, Ledger, client_of, trader_of, market}
use Rattle.rules.specs.Limits.{held, open_trades, clients_of, deficit_of, specified_risk, unspecified_risk, risk, backing, limit}
use Rattle.rules.specs.Days.{Scenarios, BadDay, counted, InRange, Possible, unpaid, place_of, taken, loss}
use Rattle.rules.specs.Law.{BelowZeroByABadDay}
use Rattle.rules.proofs.Chosen.{chosen_bound, worst_choice}
use Rattle.rules.proofs.Helps.{specified_is}
use Rattle.rules.specs.Sound.{Sound}

-- ---- one client

module _ (m : ScenarioTable) (l : Ledger) (c : ℕ) where
  unpaid_at_most : (s : Scenarios) → InRange m s → unpaid m l c s ≤ℤ deficit_of m l c
  unpaid_at_most s r =
      by (total_below m.subportfolios (λ k. loss_in m (held l c) k (s k))) (total_below m.subportfolios (margin m (held l c))) (total (mark m (market l)) (held l c)) (smaller (pos 0) (client_of l c).cash) (client_of l c).collateral
      (below_mono m.subportfolios (λ k. loss_in m (held l c) k (s k)) (margin m (held l c)) (λ k h. greatest_bound (m.scenarios k) (loss_in m (held l c) k) (s k) (r k h)))
    where
      by : (x y a b k : ℤ) → x ≤ℤ y → (x -ℤ a -ℤ b -ℤ k) ≤ℤ int_max (pos 0) (int_max (pos 0) (y -ℤ a -ℤ b) -ℤ k)
      by x y a b k h = omega (arith, ints, clamps)

  -- the scenario of each subportfolio in which it loses most
  worst_for : Scenarios
  worst_for k = argmax (m.scenarios k) (loss_in m (held l c) k)

  worst_in_range : Lawful m → InRange m worst_for
  unfolding worst_for
  worst_in_range w k h = argmax_below (m.scenarios k) (loss_in m (held l c) k) (w.some_scenario k h)

  -- where collateral is not negative, a deficit is what the worst scenarios leave unpaid, where they leave anything
  deficit_is : pos 0 ≤ℤ (client_of l c).collateral → deficit_of m l c ≡ int_max (pos 0) (unpaid m l c worst_for)
  unfolding worst_for
  deficit_is z =
      by (total_below m.subportfolios (λ k. loss_in m (held l c) k (worst_for k))) (total_below m.subportfolios (margin m (held l c))) (total (mark m (market l)) (held l c)) (smaller (pos 0) (client_of l c).cash) (client_of l c).collateral
      (below_same m.subportfolios (λ k. loss_in m (held l c) k (worst_for k)) (margin m (held l c)) (λ k h. greatest_met (m.scenarios k) (loss_in m (held l c) k))) z
    where
      by : (x y a b k : ℤ) → x ≡ y → pos 0 ≤ℤ k → int_max (pos 0) (int_max (pos 0) (y -ℤ a -ℤ b) -ℤ k) ≡ int_max (pos 0) (x -ℤ a -ℤ b -ℤ k)
      by x y a b k h z = omega (arith, ints, clamps)

-- ---- trades without a client

times_zero : (a : ℤ) → a *ℤ pos 0 ≡ pos 0
times_zero a = omega (arith, ints)

zero_times : (a : ℤ) → pos 0 *ℤ a ≡ pos 0
zero_times a = omega (arith, ints)

no_position : Position
no_position = record { contract = 0; quantity = pos 0; price = 0 }

module _ (m : ScenarioTable) (w : Lawful m) (l : Ledger) where
  -- what a trade costs in a scenario, where it costs anything
  abbrev cost : ℕ → Position → ℤ
  cost s t = floored (neg_ℤ (value m (market l) s t))

  unplaced : (s : ℕ) (t : Position) → m.place t.contract ≡ None → cost s t ≡ pos 0
  unplaced s t e =
      by (t.quantity *ℤ pos (multiplier m t.contract)) (pos (market l t.contract) -ℤ pos t.price) t.quantity (m.shock t.contract s)
      (ap (λ (o : Option (ℕ × ℕ)). t.quantity *ℤ pos (elim o as (λ _. ℕ) [ Some p ↦ p.1 | None ↦ 0 ])) e ∙ times_zero t.quantity) (w.unknown_still t.contract s e)
    where
      by : (a b q x : ℤ) → a ≡ pos 0 → x ≡ pos 0 → int_max (pos 0) (neg_ℤ (a *ℤ b +ℤ q *ℤ x)) ≡ pos 0
      by a b q x h k = rw (h, k, zero_times b, times_zero q)

  -- a trade costs in its own subportfolio alone
  by_place : (tog : Scenarios) (t : Position) → total_below m.subportfolios (λ k. cond (lies_in m k t) (cost (tog k) t) (pos 0)) ≡ cost (tog (place_of m l t)) t
  by_place tog t = go (m.place t.contract) refl
    where
      go : (o : Option (ℕ × ℕ)) → m.place t.contract ≡ o → total_below m.subportfolios (λ k. cond (elim o as (λ _. Bool) [ Some p ↦ eqb p.0 k | None ↦ false ]) (cost (tog k) t) (pos 0)) ≡ cost (tog (elim o as (λ _. ℕ) [ Some p ↦ p.0 | None ↦ 0 ])) t
      go (Some p) e = below_one m.subportfolios p.0 (λ k. cost (tog k) t) (w.placed_within t.contract p.0 p.1 e)
      go None e = below_zero m.subportfolios ∙ sym (unplaced (tog 0) t e)

  costs : (tog : Scenarios) (ts : List Position) → total (λ t. cost (tog (place_of m l t)) t) ts ≡ total_below m.subportfolios (λ k. losers_in m (market l) ts k (tog k))
  costs tog ts =
      sym (total_cong (λ t. total_below m.subportfolios (λ k. cond (lies_in m k t) (cost (tog k) t) (pos 0))) (λ t. cost (tog (place_of m l t)) t) ts (by_place tog))
      ∙ sym (total_swap m.subportfolios (λ k t. cond (lies_in m k t) (cost (tog k) t) (pos 0)) ts)

  one_cost : (t : Bool) (x : ℤ) → cond t (neg_ℤ x) (pos 0) ≤ℤ int_max (pos 0) (neg_ℤ x)
  one_cost true x = omega (arith, ints, clamps)
  one_cost false x = omega (arith, ints, clamps)

  taken_at_most : (d : BadDay) (i : ℕ) (ts : List Position) → taken m l d i ts ≤ℤ total (λ t. cost (d.together (place_of m l t)) t) ts
  taken_at_most d i [] = omega (arith, ints)
  taken_at_most d i (t ∷ ts) =
      by (cond (d.loses i) (neg_ℤ (value m (market l) (d.together (place_of m l t)) t)) (pos 0)) (taken m l d (i + 1) ts) (cost (d.together (place_of m l t)) t) (total (λ t. cost (d.together (place_of m l t)) t) ts) (one_cost (d.loses i) (value m (market l) (d.together (place_of m l t)) t)) (taken_at_most d (i + 1) ts)
    where
      by : (x a y b : ℤ) → x ≤ℤ y → a ≤ℤ b → (x +ℤ a) ≤ℤ (y +ℤ b)
      by x a y b h k = omega (arith, ints)

  open-at-most : (d : BadDay) (ts : List Position) → InRange m d.together → taken m l d 0 ts ≤ℤ open_risk m (market l) ts
  open-at-most d ts r =
      by (taken m l d 0 ts) (total (λ t. cost (d.together (place_of m l t)) t) ts) (total_below m.subportfolios (λ k. losers_in m (market l) ts k (d.together k))) (open_risk m (market l) ts) (taken_at_most d 0 ts) (costs d.together ts)
      (below_mono m.subportfolios (λ k. losers_in m (market l) ts k (d.together k)) (λ k. greatest_below (m.scenarios k) (losers_in m (market l) ts k)) (λ k h. greatest_bound (m.scenarios k) (losers_in m (market l) ts k) (d.together k) (r k h)))
    where
      by : (a b c e : ℤ) → a ≤ℤ b → b ≡ c → c ≤ℤ e → a ≤ℤ e
      by a b c e h k p = omega (arith, ints)

  -- the scenario of each subportfolio in which the losing trades lose most
  worst_turn : List Position → Scenarios
  worst_turn ts k = argmax (m.scenarios k) (losers_in m (market l) ts k)

  worst_turn_in_range : (ts : List Position) → InRange m (worst_turn ts)
  unfolding worst_turn
  worst_turn_in_range ts k h = argmax_below (m.scenarios k) (losers_in m (market l) ts k) (w.some_scenario k h)

  costs_worst : (ts : List Position) → total (λ t. cost (worst_turn ts (place_of m l t)) t) ts ≡ open_risk m (market l) ts
  unfolding worst_turn
  costs_worst ts =
      costs (worst_turn ts) ts
      ∙ below_same m.subportfolios (λ k. losers_in m (market l) ts k (worst_turn ts k)) (λ k. greatest_below (m.scenarios k) (losers_in m (market l) ts k)) (λ k h. greatest_met (m.scenarios k) (losers_in m (market l) ts k))

  -- whether a trade loses in its subportfolio's scenario
  abbrev loses_at : Scenarios → Position → Bool
  loses_at tog t = lt_z (value m (market l) (tog (place_of m l t)) t) (pos 0)

  one_lost : (x : ℤ) (t : Bool) → t ≡ lt_z x (pos 0) → cond t (neg_ℤ x) (pos 0) ≡ int_max (pos 0) (neg_ℤ x)
  one_lost x true e = omega (arith, ints, clamps)
  one_lost x false e = omega (arith, ints, clamps)

  taken_is : (d : BadDay) (i : ℕ) (ts : List Position) → ((j : ℕ) → j < length ts → d.loses (i + j) ≡ loses_at d.together (get_or ts j no_position)) → taken m l d i ts ≡ total (λ t. cost (d.together (place_of m l t)) t) ts
  taken_is d i [] h = refl
  taken_is d i (t ∷ ts) h =
      by (cond (d.loses i) (neg_ℤ (value m (market l) (d.together (place_of m l t)) t)) (pos 0)) (taken m l d (i + 1) ts) (cost (d.together (place_of m l t)) t) (total (λ t. cost (d.together (place_of m l t)) t) ts)
      (one_lost (value m (market l) (d.together (place_of m l t)) t) (d.loses i) (ap d.loses here ∙ h 0 (omega arith)))
      (taken_is d (i + 1) ts (λ j k. ap d.loses (there j) ∙ h (suc j) (omega arith)))
    where
      by : (x a y b : ℤ) → x ≡ y → a ≡ b → x +ℤ a ≡ y +ℤ b
      by x a y b h k = omega (arith, ints)

      here : i ≡ i + 0
      here = omega arith

      there : (j : ℕ) → i + 1 + j ≡ i + suc j
      there j = omega arith

-- ---- the days of a trader

module _ (m : ScenarioTable) (w : Lawful m) (l : Ledger) (tr : ℕ) where
  pub no_day_worse : (d : BadDay) → Possible m l tr d → loss m l tr d ≤ℤ risk m l tr
  no_day_worse d p =
      by (total (λ c. cond (d.defaults c) (unpaid m l c (d.scenarios c)) (pos 0)) (clients_of l tr)) (greatest (trader_of l tr).defaults (map (deficit_of m l) (clients_of l tr))) (specified_risk m l tr) (taken m l d 0 (open_trades l tr)) (unspecified_risk m l tr)
      (chosen_bound (trader_of l tr).defaults (clients_of l tr) (deficit_of m l) (λ c. unpaid m l c (d.scenarios c)) d.defaults (λ c. unpaid_at_most m l c (d.scenarios c) (p.each c)) p.few)
      (specified_is m l (trader_of l tr).defaults (clients_of l tr))
      (open-at-most m w l d (open_trades l tr) p.all)
    where
      by : (x g s y u : ℤ) → x ≤ℤ g → s ≡ g → y ≤ℤ u → (x +ℤ y) ≤ℤ (s +ℤ u)
      by x g s y u a b c = omega (arith, ints)

  pub some_day_as_bad : Sound l → (d : BadDay) × (Possible m l tr d × (loss m l tr d ≡ risk m l tr))
  some_day_as_bad s =
      go (worst_choice (length l.clients) (λ c. eqb (client_of l c).trader tr) (deficit_of m l) (λ c. unpaid m l c (worst_for m l c)) (trader_of l tr).defaults (λ c. deficit_is m l c (s.funded.covered (of_client c))))
    where
      ts : List Position
      ts = open_trades l tr

      by : (x g s y u : ℤ) → x ≡ g → s ≡ g → y ≡ u → x +ℤ y ≡ s +ℤ u
      by x g s y u a b c = omega (arith, ints)

      go : (p : ℕ → Bool) × (counted p (clients_of l tr) ≤ (trader_of l tr).defaults) × (total (λ c. cond (p c) (unpaid m l c (worst_for m l c)) (pos 0)) (clients_of l tr) ≡ greatest (trader_of l tr).defaults (map (deficit_of m l) (clients_of l tr))) → (d : BadDay) × (Possible m l tr d × (loss m l tr d ≡ risk m l tr))
      go (p, few, e) =
          let d : BadDay = record { defaults = p; scenarios = worst_for m l; loses = λ i. loses_at m w l (worst_turn m w l ts) (get_or ts i no_position); together = worst_turn m w l ts } in (
            d,
            (
              record { few = few; each = λ c. worst_in_range m l c w; all = worst_turn_in_range m w l ts },
              by (total (λ c. cond (p c) (unpaid m l c (worst_for m l c)) (pos 0)) (clients_of l tr)) (greatest (trader_of l tr).defaults (map (deficit_of m l) (clients_of l tr))) (specified_risk m l tr) (taken m l d 0 ts) (unspecified_risk m l tr) e
                  (specified_is m l (trader_of l tr).defaults (clients_of l tr))
                  (taken_is m w l d 0 ts (λ j k. ap (λ i. loses_at m w l (worst_turn m w l ts) (get_or ts i no_position)) (first j)) ∙ costs_worst m w l ts),
            ),
          )
        where
          first : (j : ℕ) → 0 + j ≡ j
          first j = omega arith

  pub worst_day : Sound l → BelowZeroByABadDay m l tr
  worst_day s = (to, from)
    where
      under : (b r x : ℤ) → x ≡ r → (b -ℤ r) <ℤ pos 0 → b <ℤ x
      under b r x e h = omega (arith, ints)

      over : (b r x : ℤ) → x ≤ℤ r → b <ℤ x → (b -ℤ r) <ℤ pos 0
      over b r x e h = omega (arith, ints)

      to : limit m l tr <ℤ pos 0 → (d : BadDay) × (Possible m l tr d × (backing m l tr <ℤ loss m l tr d))
      to h = let r = some_day_as_bad s in (r.0, (r.1.0, under (backing m l tr) (risk m l tr) (loss m l tr r.0) r.1.1 h))

      from : (d : BadDay) × (Possible m l tr d × (backing m l tr <ℤ loss m l tr d)) → limit m l tr <ℤ pos 0
      from (d, (p, h)) = over (backing m l tr) (risk m l tr) (loss m l tr d) (no_day_worse d p) h
