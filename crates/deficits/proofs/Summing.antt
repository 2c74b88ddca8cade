-- Deficits that can be summed, and their sum as 64 bits hold it. Assumes nothing.
use Rattle.std.proofs.Common.{◌≡◌, ℕ, ◌*◌, ◌≤◌, min, Bool, true, false, cond, ◌&&◌, leb, List, [], ◌∷◌, fold, length, take, ℤ, pos, ◌+ℤ◌, nat_abs, ◌≤ℤ◌, Some, None, Option, sym, refl, ap, subst, arith, w64, SFits}
use lib.Signed.{le_z}
use Rattle.std.specs.List.{AllByRecursion, list_all}
use Rattle.std.specs.Option.{option_map, IfSome}
use Rattle.std.proofs.ByRecursion.{All-take}
use Rattle.std.proofs.lemmas.List.{length-map, length-take, take-map}
use Rattle.std.proofs.lemmas.Int.{ints}
use Rattle.std.proofs.lemmas.Bool.{and_parts, and_from, leb-true, le-leb}
use Rattle.figures.specs.Sums.{total, total_greatest}
use Rattle.keeper.specs.Kept.{kept}
use Rattle.keeper.proofs.Kept.{all_kept, length_kept}
use Rattle.deficits.specs.declared.Deficit.{Deficit}
use Rattle.deficits.specs.declared.Picked.{Picked}
use Rattle.deficits.specs.Ahead.{ahead}
use Rattle.figures.specs.Chosen.{NoneNegative}
use Rattle.deficits.specs.Summed.{amounts, most_deficits, most_amount, most_sum, fair, all_fair, summable, if_summable, picked_of}
use Rattle.figures.proofs.Chosen.{total_greatest_most}
use Rattle.figures.proofs.SignedSums.{total_folded}

-- ---- fair amounts
abbrev pub Fair : Deficit → Type 0
Fair d = fair d.amount ≡ true

le_true : (a b : ℤ) → le_z a b ≡ true → a ≤ℤ b
le_true a b e = grind (arith, ints)

pub fair_low : (x : ℤ) → fair x ≡ true → pos 0 ≤ℤ x
fair_low x e = le_true (pos 0) x (and_parts (le_z (pos 0) x) (le_z x (pos most_amount)) e).0

fair_high : (x : ℤ) → fair x ≡ true → x ≤ℤ pos most_amount
fair_high x e = le_true x (pos most_amount) (and_parts (le_z (pos 0) x) (le_z x (pos most_amount)) e).1

pub fair_small : (x : ℤ) → fair x ≡ true → nat_abs x ≤ most_amount
fair_small x e = omega (arith, ints, fair_low x e, fair_high x e)

each_fair : (ds : List Deficit) → all_fair (amounts ds) ≡ true → AllByRecursion Fair ds
each_fair [] e = tt
each_fair (d ∷ ds) e = let p = and_parts (fair d.amount) (all_fair (amounts ds)) e in (p.0, each_fair ds p.1)

from_each : (ds : List Deficit) → AllByRecursion Fair ds → all_fair (amounts ds) ≡ true
from_each [] a = refl
from_each (d ∷ ds) a = and_from (fair d.amount) (all_fair (amounts ds)) a.0 (from_each ds a.1)

pub none_negative : (ds : List Deficit) → AllByRecursion Fair ds → NoneNegative (amounts ds)
none_negative [] a = tt
none_negative (d ∷ ds) a = (fair_low d.amount a.0, none_negative ds a.1)

-- each passes, of the deficits as of the amounts
pub fair_listed : (ds : List Deficit) → list_all (λ d. fair d.amount) ds ≡ all_fair (amounts ds)
fair_listed [] = refl
fair_listed (d ∷ ds) = ap (λ t. fair d.amount && t) (fair_listed ds)

-- ---- deficits that can be summed
module _ (ds : List Deficit) (e : summable ds ≡ true) where
  pub summable_few : length ds ≤ most_deficits
  summable_few = leb-true (length ds) most_deficits (and_parts (leb (length ds) most_deficits) (all_fair (amounts ds)) e).0

  pub summable_fair : AllByRecursion Fair ds
  summable_fair = each_fair ds (and_parts (leb (length ds) most_deficits) (all_fair (amounts ds)) e).1

  -- those that are kept of them can be summed too
  pub summable_kept : (n : ℕ) → summable (kept ahead n ds) ≡ true
  summable_kept n =
      let few : length (kept ahead n ds) ≤ most_deficits = omega (arith, length_kept ahead n ds, summable_few) in
      and_from (leb (length (kept ahead n ds)) most_deficits) (all_fair (amounts (kept ahead n ds))) (le-leb _ _ few) (from_each (kept ahead n ds) (all_kept ahead Fair n ds summable_fair))

pub now_summable : (ds : List Deficit) → length ds ≤ most_deficits → true ≡ all_fair (amounts ds) → summable ds ≡ true
now_summable ds h e = and_from (leb (length ds) most_deficits) (all_fair (amounts ds)) (le-leb (length ds) most_deficits h) (sym e)

-- an answer is there only for such
pub if_holds : {A : Type 0} (ds : List Deficit) (r : Option A) (x : A) (P : A → Type 0) → r ≡ if_summable ds x → (summable ds ≡ true → P x) → IfSome r P
if_holds {A} ds r x P e f = subst (λ o. IfSome o P) (sym e) (at (summable ds) refl)
  where
    at : (t : Bool) → summable ds ≡ t → IfSome (cond t (Some x) None) P
    at true h = f h
    at false h = tt

-- the sum of the greatest, as many as n says or as there is room for
pub picked_sum : (ds : List Deficit) (n m : ℕ) → m ≡ min n most_deficits → option_map (λ (p : Picked). p.sum) (if_summable ds (picked_of m ds)) ≡ if_summable ds (total_greatest n (amounts ds))
picked_sum ds n m h = at (summable ds) refl
  where
    at : (t : Bool) → summable ds ≡ t → option_map (λ (p : Picked). p.sum) (cond t (Some (picked_of m ds)) None) ≡ cond t (Some (total_greatest n (amounts ds))) None
    at true e = ap Some (total_greatest_most n most_deficits m (amounts ds) (omega (arith, length-map ds (λ (d : Deficit). d.amount), summable_few ds e)) h)
    at false e = refl

-- ---- the sum of the amounts
fair_total : (ds : List Deficit) → AllByRecursion Fair ds → nat_abs (total (λ x. x) (amounts ds)) ≤ most_amount * length ds
fair_total [] a = omega arith
fair_total (d ∷ ds) a = omega (arith, ints, fair_small d.amount a.0, fair_total ds a.1)

module _ (ds : List Deficit) (e : summable ds ≡ true) where
  pub amounts_fit : (n : ℕ) → SFits w64 (fold ◌+ℤ◌ (pos 0) (take n (amounts ds)))
  amounts_fit n =
      let few : length (take n ds) ≤ most_deficits = omega (arith, length-take n ds, summable_few ds e) in
      let same : fold ◌+ℤ◌ (pos 0) (take n (amounts ds)) ≡ total (λ x. x) (amounts (take n ds)) = omega (arith, ints, total_folded (pos 0) (take n (amounts ds)), ap (total (λ (x : ℤ). x)) (take-map (λ (d : Deficit). d.amount) n ds)) in
      let small = fair_total (take n ds) (All-take Fair n ds (summable_fair ds e)) in
      rw same (omega (arith, ints, small, few))

  pub amounts_sum : (r : ℤ) → r ≡ fold ◌+ℤ◌ (pos 0) (amounts ds) → (r ≡ total (λ x. x) (amounts ds)) × (nat_abs r ≤ most_sum)
  amounts_sum r is =
      let same : r ≡ total (λ x. x) (amounts ds) = omega (arith, ints, is, total_folded (pos 0) (amounts ds)) in
      (same, omega (arith, ints, same, fair_total ds (summable_fair ds e), summable_few ds e))
