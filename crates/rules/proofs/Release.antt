-- A release leaves no limit lower and below 0. Assumes nothing.
use Rattle.std.proofs.Common.{◌≡◌, ℕ, Bool, true, false, not, ◌&&◌, ◌||◌, eqb, List, map, length, ℤ, pos, ◌+ℤ◌, ◌-ℤ◌, neg_ℤ, ◌≤ℤ◌, ◌<ℤ◌, None, sym, refl, ap, ◌∙◌, subst, arith}
use native.Mathlib.Decide.{ℕ_discrete}
use lib.Signed.{lt_z}
use Rattle.std.proofs.lemmas.Int.{ints}
use Rattle.std.proofs.lemmas.Bool.{eqb-true, ne_eqb, not-false, false≢true, or_parts}
use Rattle.scenario.specs.Table.{ScenarioTable}
use Rattle.figures.specs.Sums.{total_greatest}
use Rattle.figures.specs.Figures.{Position, need, deficit, open_risk}
use Rattle.rules.specs.Ledger.{Standing, unspecified, specified, carried, Trade, Ledger, no_trade, client_of, trader_of, trade_of, collateral_of, holders_trader, market}
use Rattle.rules.specs.Limits.{held_by, open_for, held, open_trades, clients_of, deficit_of, specified_risk, unspecified_risk, backing, limit}
use Rattle.rules.specs.Causes.{Call, trader, client, carry, price, deposit, opening, trade, specify, cancel, withdraw, settle, put_back, cash, window, statement, entered, cause, standing_now, is_amount, no_such_holder, no_such_trade, is_specified, short}
use Rattle.rules.specs.Law.{Releases}
use Rattle.rules.proofs.Places.{only_set}
use Rattle.rules.proofs.Chosen.{those_map}
use Rattle.rules.proofs.Helps.{others}
use Rattle.rules.proofs.Rows.{row_off}
use Rattle.rules.specs.Sound.{Sound}

not_below : (x : ℤ) → lt_z x (pos 0) ≡ false → pos 0 ≤ℤ x
not_below x e = omega (arith, ints)

same_not_less : (x y : ℤ) → x ≡ y → x <ℤ y → ⊥
same_not_less x y e l = omega (arith, ints)

less_not_below : (x y : ℤ) → (lt_z x y && lt_z x (pos 0)) ≡ false → x <ℤ y → pos 0 ≤ℤ x
less_not_below x y e l = go (lt_z x y) refl (lt_z x (pos 0)) refl e
  where
    go : (t : Bool) → lt_z x y ≡ t → (u : Bool) → lt_z x (pos 0) ≡ u → (t && u) ≡ false → pos 0 ≤ℤ x
    go true p true q k = absurd (false≢true (sym k))
    go true p false q k = omega (arith, ints)
    go false p u q k = absurd (omega (arith, ints))

-- ---- what a trade without its client any more leaves as it was

module _ (m : ScenarioTable) (l : Ledger) (i : ℕ) (s : Sound l) (given : is_specified (trade_of l i) ≡ true) (tr : ℕ) (ne : tr ≡ (trade_of l i).trader → ⊥) where
  held_kept : (j : ℕ) → eqb (client_of l j).trader tr ≡ true → held (entered m l (cancel i)) j ≡ held l j
  held_kept j e = ap (map (λ (t : Trade). t.position)) (only_set (held_by j) l.trades i (standing_now unspecified (trade_of l i)) no_trade (was (trade_of l i).standing refl given) refl)
    where
      was : (st : Standing) → (trade_of l i).standing ≡ st → elim st as (λ _. Bool) [ unspecified ↦ false | specified c ↦ true | carried c ↦ false ] ≡ true → elim st as (λ _. Bool) [ unspecified ↦ false | specified d ↦ eqb j d | carried d ↦ eqb j d ] ≡ false
      was unspecified q k = refl
      was (specified c) q k = ne_eqb j c (λ r. ne (sym (eqb-true (client_of l j).trader tr e) ∙ ap (λ n. (client_of l n).trader) r ∙ (s.given i c q).1))
      was (carried c) q k = absurd (false≢true k)

  open_kept : open_trades (entered m l (cancel i)) tr ≡ open_trades l tr
  open_kept = ap (map (λ (t : Trade). t.position)) (only_set (open_for tr) l.trades i (standing_now unspecified (trade_of l i)) no_trade (was (trade_of l i).standing given) (ne_eqb tr (trade_of l i).trader ne))
    where
      was : (st : Standing) → elim st as (λ _. Bool) [ unspecified ↦ false | specified c ↦ true | carried c ↦ false ] ≡ true → elim st as (λ _. Bool) [ unspecified ↦ eqb tr (trade_of l i).trader | specified d ↦ false | carried d ↦ false ] ≡ false
      was unspecified k = absurd (false≢true k)
      was (specified c) k = refl
      was (carried c) k = refl

  deficits_kept : map (deficit_of m (entered m l (cancel i))) (clients_of l tr) ≡ map (deficit_of m l) (clients_of l tr)
  deficits_kept =
      those_map (length l.clients) (λ j. eqb (client_of l j).trader tr) (deficit_of m (entered m l (cancel i))) (deficit_of m l)
      (λ j e. ap (λ (ts : List Position). deficit (need m (market l) ts (client_of l j).cash) (client_of l j).collateral) (held_kept j e))

  cancel_others : limit m (entered m l (cancel i)) tr ≡ limit m l tr
  cancel_others =
      ap (λ (ds : List ℤ). backing m l tr -ℤ (total_greatest (trader_of l tr).defaults ds +ℤ unspecified_risk m (entered m l (cancel i)) tr)) deficits_kept
      ∙ ap (λ (ts : List Position). backing m l tr -ℤ (specified_risk m l tr +ℤ open_risk m (market l) ts)) open_kept

-- ---- the releases

pub release : (m : ScenarioTable) (l : Ledger) → Sound l → (x : Call) → Releases x → cause m l x ≡ None → (tr : ℕ) → limit m (entered m l x) tr <ℤ limit m l tr → pos 0 ≤ℤ limit m (entered m l x) tr
release m l s (trader a n) k e tr b = absurd k
release m l s (client t) k e tr b = absurd k
release m l s (carry c q side z p) k e tr b = absurd k
release m l s (price c p) k e tr b = absurd k
release m l s (deposit h a) k e tr b = absurd k
release m l s opening k e tr b = absurd k
release m l s (trade t c side z p) k e tr b = absurd k
release m l s (specify i c) k e tr b = absurd k
release m l s (cancel i) k e tr b = go (ℕ_discrete tr (trade_of l i).trader)
  where
    go : Dec (tr ≡ (trade_of l i).trader) → pos 0 ≤ℤ limit m (entered m l (cancel i)) tr
    go (yes q) =
        let r = row_off (no_such_trade l i) 10 _ e in
        let u = row_off (not (is_specified (trade_of l i))) 16 _ r.1 in
        let v = row_off (lt_z (limit m (entered m l (cancel i)) (trade_of l i).trader) (limit m l (trade_of l i).trader) && lt_z (limit m (entered m l (cancel i)) (trade_of l i).trader) (pos 0)) 19 _ u.1 in
        subst (λ n. limit m (entered m l (cancel i)) n <ℤ limit m l n → pos 0 ≤ℤ limit m (entered m l (cancel i)) n) (sym q) (less_not_below (limit m (entered m l (cancel i)) (trade_of l i).trader) (limit m l (trade_of l i).trader) v.0) b
    go (no q) =
        let r = row_off (no_such_trade l i) 10 _ e in
        let u = row_off (not (is_specified (trade_of l i))) 16 _ r.1 in
        absurd (same_not_less (limit m (entered m l (cancel i)) tr) (limit m l tr) (cancel_others m l i s (not-false (is_specified (trade_of l i)) u.0) tr q) b)
release m l s (withdraw h a) k e tr b = go (ℕ_discrete tr (holders_trader l h))
  where
    go : Dec (tr ≡ holders_trader l h) → pos 0 ≤ℤ limit m (entered m l (withdraw h a)) tr
    go (yes q) =
        let r = row_off (no_such_holder l h) 10 _ e in
        let p = row_off _ 11 _ r.1 in
        let u = row_off (not (is_amount a)) 12 _ p.1 in
        let v = row_off (lt_z (collateral_of l h) a || short m l h a || lt_z (limit m (entered m l (withdraw h a)) (holders_trader l h)) (pos 0)) 19 _ u.1 in
        let w = or_parts (lt_z (collateral_of l h) a || short m l h a) (lt_z (limit m (entered m l (withdraw h a)) (holders_trader l h)) (pos 0)) v.0 in
        subst (λ n. pos 0 ≤ℤ limit m (entered m l (withdraw h a)) n) (sym q) (not_below (limit m (entered m l (withdraw h a)) (holders_trader l h)) w.1)
    go (no q) = absurd (same_not_less (limit m (entered m l (withdraw h a)) tr) (limit m l tr) (others m l h (neg_ℤ a) tr q) b)
release m l s (settle z) k e tr b = absurd k
release m l s (put_back z) k e tr b = absurd k
release m l s (cash c v) k e tr b = absurd k
release m l s window k e tr b = absurd k
release m l s (statement t) k e tr b = absurd k
