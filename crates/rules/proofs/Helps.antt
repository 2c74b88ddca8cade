-- What a holder's amount does to the limits. Assumes nothing.
use Rattle.std.proofs.Common.{◌≡◌, ℕ, Bool, true, false, cond, eqb, List, map, length, get_or, set, ℤ, pos, ◌+ℤ◌, ◌-ℤ◌, ◌≤ℤ◌, sym, refl, ap, ◌∙◌, arith}
use Rattle.std.specs.Int.{int_max}
use Rattle.std.proofs.lemmas.Int.{ints, clamps}
use Rattle.std.proofs.lemmas.List.{length-set, get_or-set_other}
use Rattle.std.proofs.lemmas.Bool.{eqb-true}
use Rattle.scenario.specs.Table.{ScenarioTable}
use Rattle.figures.specs.Sums.{those_below, total_greatest}
use Rattle.figures.specs.Figures.{need, deficit}
use Rattle.figures.proofs.Chosen.{greatest, total_greatest_is, none_negative_map}
use Rattle.rules.specs.Ledger.{Holder, of_client, of_trader, of_member, Trader, Client, Ledger, no_client, no_trader, client_of, trader_of, market, more, more_own, more_favour, moved, holders_trader}
use Rattle.rules.specs.Limits.{need_of, held, deficit_of, clients_of, specified_risk, unspecified_risk, backing, limit}
use Rattle.rules.specs.Law.{DepositHelps}
use Rattle.rules.proofs.Places.{field_set, raised_set}
use Rattle.rules.proofs.Chosen.{those_same, those_map, greatest_mono, greatest_near}

pub deficit_not_below : (m : ScenarioTable) (l : Ledger) (j : ℕ) → pos 0 ≤ℤ deficit_of m l j
deficit_not_below m l j = floor (need_of m l j -ℤ (client_of l j).collateral)
  where
    floor : (x : ℤ) → pos 0 ≤ℤ int_max (pos 0) x
    floor x = omega (arith, ints, clamps)

-- the sum of the greatest deficits, as a greatest sum
pub specified_is : (m : ScenarioTable) (l : Ledger) (n : ℕ) (cs : List ℕ) → total_greatest n (map (deficit_of m l) cs) ≡ greatest n (map (deficit_of m l) cs)
specified_is m l n cs = total_greatest_is n (map (deficit_of m l) cs) (none_negative_map (deficit_of m l) (deficit_not_below m l) cs)

-- ---- a client's amount

module _ (m : ScenarioTable) (l : Ledger) (c : ℕ) (d : ℤ) where
  trader_kept : (j : ℕ) → (client_of (moved l (of_client c) d) j).trader ≡ (client_of l j).trader
  trader_kept j = field_set (λ (x : Client). x.trader) l.clients c j (more d (client_of l c)) no_client refl

  need_kept : (j : ℕ) → need_of m (moved l (of_client c) d) j ≡ need_of m l j
  need_kept j = ap (need m (market l) (held l j)) (field_set (λ (x : Client). x.cash) l.clients c j (more d (client_of l c)) no_client refl)

  clients_kept : (tr : ℕ) → clients_of (moved l (of_client c) d) tr ≡ clients_of l tr
  clients_kept tr =
      ap (λ n. those_below n (λ j. eqb (client_of (moved l (of_client c) d) j).trader tr)) (length-set l.clients c (more d (client_of l c)))
      ∙ those_same (length l.clients) (λ j. eqb (client_of (moved l (of_client c) d) j).trader tr) (λ j. eqb (client_of l j).trader tr) (λ j. ap (λ t. eqb t tr) (trader_kept j))

  deficits_kept : (tr : ℕ) → (tr ≡ (client_of l c).trader → ⊥) → map (deficit_of m (moved l (of_client c) d)) (clients_of (moved l (of_client c) d) tr) ≡ map (deficit_of m l) (clients_of l tr)
  deficits_kept tr ne =
      ap (map (deficit_of m (moved l (of_client c) d))) (clients_kept tr)
      ∙ those_map (length l.clients) (λ j. eqb (client_of l j).trader tr) (deficit_of m (moved l (of_client c) d)) (deficit_of m l) same
    where
      same : (j : ℕ) → eqb (client_of l j).trader tr ≡ true → deficit_of m (moved l (of_client c) d) j ≡ deficit_of m l j
      same j e =
          ap (λ (x : Client). deficit (need m (market l) (held l j) x.cash) x.collateral) (get_or-set_other l.clients c j (more d (client_of l c)) no_client (λ q. ne (sym (eqb-true (client_of l j).trader tr e) ∙ ap (λ i. (client_of l i).trader) q)))

  client_others : (tr : ℕ) → (tr ≡ (client_of l c).trader → ⊥) → limit m (moved l (of_client c) d) tr ≡ limit m l tr
  client_others tr ne =
      ap (λ (ds : List ℤ). backing m l tr -ℤ (total_greatest (trader_of l tr).defaults ds +ℤ unspecified_risk m l tr)) (deficits_kept tr ne)

  module _ (z : pos 0 ≤ℤ d) where
    amounts : (j : ℕ) → ((client_of l j).collateral ≤ℤ (client_of (moved l (of_client c) d) j).collateral) × ((client_of (moved l (of_client c) d) j).collateral ≤ℤ ((client_of l j).collateral +ℤ cond (eqb c j) d (pos 0)))
    amounts j = raised_set (λ (x : Client). x.collateral) l.clients c j (more d (client_of l c)) no_client d z refl

    less : (n k k' e : ℤ) → k ≤ℤ k' → k' ≤ℤ (k +ℤ e) → (int_max (pos 0) (n -ℤ k') ≤ℤ int_max (pos 0) (n -ℤ k)) × (int_max (pos 0) (n -ℤ k) ≤ℤ (int_max (pos 0) (n -ℤ k') +ℤ e))
    less n k k' e a b = (omega (arith, ints, clamps), omega (arith, ints, clamps))

    deficits : (j : ℕ) → (deficit_of m (moved l (of_client c) d) j ≤ℤ deficit_of m l j) × (deficit_of m l j ≤ℤ (deficit_of m (moved l (of_client c) d) j +ℤ cond (eqb c j) d (pos 0)))
    deficits j =
        rw (need_kept j) (less (need_of m l j) (client_of l j).collateral (client_of (moved l (of_client c) d) j).collateral (cond (eqb c j) d (pos 0)) (amounts j).0 (amounts j).1)

    client_limits : (tr : ℕ) → (limit m l tr ≤ℤ limit m (moved l (of_client c) d) tr) × (limit m (moved l (of_client c) d) tr ≤ℤ (limit m l tr +ℤ d))
    client_limits tr =
        by (backing m l tr) (specified_risk m l tr) (specified_risk m (moved l (of_client c) d) tr) (unspecified_risk m l tr) (greatest n (map (deficit_of m l) cs)) (greatest n (map (deficit_of m (moved l (of_client c) d)) cs))
        (specified_is m l n cs)
        (ap (λ (xs : List ℕ). total_greatest n (map (deficit_of m (moved l (of_client c) d)) xs)) (clients_kept tr) ∙ specified_is m (moved l (of_client c) d) n cs)
        (greatest_mono n cs (deficit_of m (moved l (of_client c) d)) (deficit_of m l) (λ j. (deficits j).0))
        (greatest_near (length l.clients) (λ j. eqb (client_of l j).trader tr) n c d (deficit_of m l) (deficit_of m (moved l (of_client c) d)) z (λ j. (deficits j).1))
      where
        n : ℕ
        n = (trader_of l tr).defaults

        cs : List ℕ
        cs = clients_of l tr

        by : (b r r' u g g' : ℤ) → r ≡ g → r' ≡ g' → g' ≤ℤ g → g ≤ℤ (g' +ℤ d) → ((b -ℤ (r +ℤ u)) ≤ℤ (b -ℤ (r' +ℤ u))) × ((b -ℤ (r' +ℤ u)) ≤ℤ ((b -ℤ (r +ℤ u)) +ℤ d))
        by b r r' u g g' p q x y = (omega (arith, ints), omega (arith, ints))

-- ---- a trader's amount, or the member's for a trader

-- a limit, by what the traders' list has of the trader
abbrev of_entry : ScenarioTable → Ledger → ℕ → Trader → ℤ
of_entry m l tr t = t.intraday +ℤ t.own +ℤ t.favour -ℤ (total_greatest t.defaults (map (deficit_of m l) (clients_of l tr)) +ℤ unspecified_risk m l tr)

module _ (m : ScenarioTable) (l : Ledger) (t : ℕ) (d : ℤ) where
  entry_others : (y : Trader) (tr : ℕ) → (tr ≡ t → ⊥) → of_entry m l tr (get_or (set l.traders t y) tr no_trader) ≡ of_entry m l tr (trader_of l tr)
  entry_others y tr ne = ap (of_entry m l tr) (get_or-set_other l.traders t tr y no_trader ne)

  -- of two entries that are alike but for an amount more
  by : (tr : ℕ) (x y : Trader) → x.defaults ≡ y.defaults → (x.intraday +ℤ x.own +ℤ x.favour) ≤ℤ (y.intraday +ℤ y.own +ℤ y.favour) → (y.intraday +ℤ y.own +ℤ y.favour) ≤ℤ ((x.intraday +ℤ x.own +ℤ x.favour) +ℤ d) → (of_entry m l tr x ≤ℤ of_entry m l tr y) × (of_entry m l tr y ≤ℤ (of_entry m l tr x +ℤ d))
  by tr x y e a b =
      sums (x.intraday +ℤ x.own +ℤ x.favour) (y.intraday +ℤ y.own +ℤ y.favour) (total_greatest x.defaults (map (deficit_of m l) (clients_of l tr)) +ℤ unspecified_risk m l tr) (total_greatest y.defaults (map (deficit_of m l) (clients_of l tr)) +ℤ unspecified_risk m l tr) a b (ap (λ n. total_greatest n (map (deficit_of m l) (clients_of l tr)) +ℤ unspecified_risk m l tr) e)
    where
      sums : (p q r s : ℤ) → p ≤ℤ q → q ≤ℤ (p +ℤ d) → r ≡ s → ((p -ℤ r) ≤ℤ (q -ℤ s)) × ((q -ℤ s) ≤ℤ ((p -ℤ r) +ℤ d))
      sums p q r s a b e = (omega (arith, ints), omega (arith, ints))

  module _ (z : pos 0 ≤ℤ d) where
    upto : (x y : ℤ) (b : Bool) → x ≤ℤ y → y ≤ℤ (x +ℤ cond b d (pos 0)) → y ≤ℤ (x +ℤ d)
    upto x y true a k = k
    upto x y false a k = omega (arith, ints)

    own_limits : (limit m l t ≤ℤ limit m (moved l (of_trader t) d) t) × (limit m (moved l (of_trader t) d) t ≤ℤ (limit m l t +ℤ d))
    own_limits =
        by t (trader_of l t) (trader_of (moved l (of_trader t) d) t) (sym (kept (λ x. x.defaults) refl)) (omega (arith, ints, kept (λ x. x.intraday) refl, kept (λ x. x.favour) refl, r.0)) (omega (arith, ints, kept (λ x. x.intraday) refl, kept (λ x. x.favour) refl, upto (trader_of l t).own (trader_of (moved l (of_trader t) d) t).own (eqb t t) r.0 r.1))
      where
        kept : {B : Type 0} (F : Trader → B) → F (more_own d (trader_of l t)) ≡ F (trader_of l t) → F (trader_of (moved l (of_trader t) d) t) ≡ F (trader_of l t)
        kept F e = field_set F l.traders t t (more_own d (trader_of l t)) no_trader e

        r : ((trader_of l t).own ≤ℤ (trader_of (moved l (of_trader t) d) t).own) × ((trader_of (moved l (of_trader t) d) t).own ≤ℤ ((trader_of l t).own +ℤ cond (eqb t t) d (pos 0)))
        r = raised_set (λ (x : Trader). x.own) l.traders t t (more_own d (trader_of l t)) no_trader d z refl

    favour_limits : (limit m l t ≤ℤ limit m (moved l (of_member t) d) t) × (limit m (moved l (of_member t) d) t ≤ℤ (limit m l t +ℤ d))
    favour_limits =
        by t (trader_of l t) (trader_of (moved l (of_member t) d) t) (sym (kept (λ x. x.defaults) refl)) (omega (arith, ints, kept (λ x. x.intraday) refl, kept (λ x. x.own) refl, r.0)) (omega (arith, ints, kept (λ x. x.intraday) refl, kept (λ x. x.own) refl, upto (trader_of l t).favour (trader_of (moved l (of_member t) d) t).favour (eqb t t) r.0 r.1))
      where
        kept : {B : Type 0} (F : Trader → B) → F (more_favour d (trader_of l t)) ≡ F (trader_of l t) → F (trader_of (moved l (of_member t) d) t) ≡ F (trader_of l t)
        kept F e = field_set F l.traders t t (more_favour d (trader_of l t)) no_trader e

        r : ((trader_of l t).favour ≤ℤ (trader_of (moved l (of_member t) d) t).favour) × ((trader_of (moved l (of_member t) d) t).favour ≤ℤ ((trader_of l t).favour +ℤ cond (eqb t t) d (pos 0)))
        r = raised_set (λ (x : Trader). x.favour) l.traders t t (more_favour d (trader_of l t)) no_trader d z refl

-- ---- any holder's

pub others : (m : ScenarioTable) (l : Ledger) (h : Holder) (d : ℤ) (tr : ℕ) → (tr ≡ holders_trader l h → ⊥) → limit m (moved l h d) tr ≡ limit m l tr
others m l (of_client c) d tr ne = client_others m l c d tr ne
others m l (of_trader t) d tr ne = entry_others m l t d (more_own d (trader_of l t)) tr ne
others m l (of_member t) d tr ne = entry_others m l t d (more_favour d (trader_of l t)) tr ne

pub helps : (m : ScenarioTable) (l : Ledger) (h : Holder) (d : ℤ) → pos 0 ≤ℤ d → DepositHelps m h d l (moved l h d)
helps m l (of_client c) d z =
    record { at_least = (client_limits m l c d z (client_of l c).trader).0; at_most = (client_limits m l c d z (client_of l c).trader).1; others = others m l (of_client c) d }
helps m l (of_trader t) d z = record { at_least = (own_limits m l t d z).0; at_most = (own_limits m l t d z).1; others = others m l (of_trader t) d }
helps m l (of_member t) d z = record { at_least = (favour_limits m l t d z).0; at_most = (favour_limits m l t d z).1; others = others m l (of_member t) d }
