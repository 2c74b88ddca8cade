-- The amounts of ranked deficits are the amounts, greatest first. Assumes nothing.
use Rattle.std.proofs.Common.{◌≡◌, ℕ, Bool, true, false, cond, List, [], ◌∷◌, ◌++◌, take, ℤ, ◌≤ℤ◌, ◌<ℤ◌, fold, sym, refl, ap, ◌∙◌, arith}
use lib.Signed.{lt_z}
use Rattle.std.specs.Cmp.{IsStrictWeakOrder}
use Rattle.std.specs.Ordering.{is_gt}
use Rattle.std.specs.List.{AllByRecursion}
use Rattle.std.proofs.lemmas.List.{take-map}
use Rattle.std.proofs.lemmas.Int.{ints, by_lt_z}
use Rattle.std.proofs.lemmas.Bool.{cond-true, cond-false, true≢false}
use Rattle.std.proofs.lemmas.Bool.Decides.{nat_tests}
use Rattle.figures.specs.Sums.{total, placed_in, descending, total_greatest}
use Rattle.keeper.specs.Order.{ahead_by}
use Rattle.keeper.specs.Kept.{insert, ranked, kept}
use Rattle.keeper.specs.Greatest.{Falling}
use Rattle.keeper.proofs.Kept.{ranked_push}
use Rattle.keeper.proofs.Greatest.{falling_ranked}
use Rattle.deficits.specs.declared.Deficit.{Deficit}
use Rattle.deficits.specs.Ahead.{by_amount, ahead}
use Rattle.deficits.specs.Summed.{amounts}

lt_true : (a b : ℤ) → a <ℤ b → lt_z a b ≡ true
lt_true a b h = grind (arith, ints)

lt_false : (a b : ℤ) → a <ℤ b → lt_z b a ≡ false
lt_false a b h = grind (arith, ints)

le_false : (a b : ℤ) → b ≤ℤ a → lt_z a b ≡ false
le_false a b h = grind (arith, ints)

same : (a b : ℤ) → a ≤ℤ b → b ≤ℤ a → a ≡ b
same a b h k = omega (arith, ints)

below : (a b c : ℤ) → a <ℤ b → b ≤ℤ c → a <ℤ c
below a b c h k = omega (arith, ints)

chain : (a b c : ℤ) → a ≤ℤ b → b ≤ℤ c → a ≤ℤ c
chain a b c h k = omega (arith, ints)

-- ---- the place of an amount
module _ (x y : ℤ) (ys : List ℤ) where
  placed_behind : x <ℤ y → placed_in x (y ∷ ys) ≡ y ∷ placed_in x ys
  placed_behind h = cond-true (lt_z x y) _ _ (lt_true x y h)

  placed_first : y ≤ℤ x → placed_in x (y ∷ ys) ≡ x ∷ y ∷ ys
  placed_first h = cond-false (lt_z x y) _ _ (le_false x y h)

front_two : (x y : ℤ) (zs : List ℤ) → cond (lt_z x y) (y ∷ x ∷ zs) (x ∷ y ∷ zs) ≡ cond (lt_z y x) (x ∷ y ∷ zs) (y ∷ x ∷ zs)
front_two x y zs =
    by_lt_z x y
    (λ h. cond-true (lt_z x y) _ _ (lt_true x y h) ∙ sym (cond-false (lt_z y x) _ _ (lt_false x y h)))
    (λ h. by_lt_z y x
    (λ k. cond-false (lt_z x y) _ _ (le_false x y h) ∙ sym (cond-true (lt_z y x) _ _ (lt_true y x k)))
    (λ k. cond-false (lt_z x y) _ _ (le_false x y h) ∙ (λ i. same x y k h i ∷ sym (same x y k h) i ∷ zs) ∙ sym (cond-false (lt_z y x) _ _ (le_false y x k))))

low_high : (x y z : ℤ) (zs : List ℤ) → x <ℤ z → z ≤ℤ y → placed_in x (placed_in y (z ∷ zs)) ≡ placed_in y (placed_in x (z ∷ zs))
low_high x y z zs h k =
    ap (placed_in x) (placed_first y z zs k)
    ∙ placed_behind x y (z ∷ zs) (below x z y h k)
    ∙ ap (λ l. y ∷ l) (placed_behind x z zs h)
    ∙ sym (ap (placed_in y) (placed_behind x z zs h) ∙ placed_first y z (placed_in x zs) k)

commute : (x y : ℤ) (zs : List ℤ) → placed_in x (placed_in y zs) ≡ placed_in y (placed_in x zs)
commute x y [] = front_two x y []
commute x y (z ∷ zs) =
    by_lt_z y z
    (λ h. by_lt_z x z
    (λ k. ap (placed_in x) (placed_behind y z zs h) ∙ placed_behind x z (placed_in y zs) k ∙ ap (λ l. z ∷ l) (commute x y zs) ∙ sym (ap (placed_in y) (placed_behind x z zs k) ∙ placed_behind y z (placed_in x zs) h))
    (λ k. sym (low_high y x z zs h k)))
    (λ h. by_lt_z x z
    (λ k. low_high x y z zs k h)
    (λ k.
    ap (placed_in x) (placed_first y z zs h)
    ∙ ap (λ l. cond (lt_z x y) (y ∷ l) (x ∷ y ∷ z ∷ zs)) (placed_first x z zs k)
    ∙ front_two x y (z ∷ zs)
    ∙ sym (ap (placed_in y) (placed_first x z zs k) ∙ ap (λ l. cond (lt_z y x) (x ∷ l) (y ∷ x ∷ z ∷ zs)) (placed_first y z zs h))))

-- placed one after the other, from the first on
placed_folded : (y : ℤ) (ys l : List ℤ) → fold (λ t a. placed_in a t) (placed_in y l) ys ≡ placed_in y (fold (λ t a. placed_in a t) l ys)
placed_folded y [] l = refl
placed_folded y (z ∷ ys) l = ap (λ t. fold (λ t a. placed_in a t) t ys) (commute z y l) ∙ placed_folded y ys (placed_in z l)

folded_descending : (ys : List ℤ) → fold (λ t a. placed_in a t) [] ys ≡ descending ys
folded_descending [] = refl
folded_descending (y ∷ ys) = placed_folded y ys [] ∙ ap (placed_in y) (folded_descending ys)

-- ---- the place of a deficit
-- the same order, said by tests and by `cmp`
pub by_tests : ahead_by by_amount ≡ ahead
by_tests i x y = same_test i
  where
    same_test : ahead_by by_amount x y ≡ ahead x y
    same_test = grind (arith, ints, nat_tests)

-- what `>` answers
pub greater_ahead : (x y : Deficit) → is_gt (by_amount x y) ≡ ahead x y
greater_ahead x y = turned ∙ (λ i. by_tests i x y)
  where
    turned : is_gt (by_amount x y) ≡ ahead_by by_amount x y
    turned = grind (arith, ints, nat_tests)

pub ahead_ranks : IsStrictWeakOrder ahead
ahead_ranks = record { one_way = λ x y h. grind (arith, ints, nat_tests); chain = λ x y z h k. grind (arith, ints, nat_tests) }

not_ahead : (x y : Deficit) → ahead x y ≡ false → x.amount ≤ℤ y.amount
not_ahead x y e = by_lt_z y.amount x.amount (λ h. absurd (true≢false (sym (cond-true (lt_z y.amount x.amount) _ _ (lt_true y.amount x.amount h)) ∙ e))) (λ h. h)

is_behind : (x y : Deficit) → x.amount <ℤ y.amount → ahead x y ≡ false
is_behind x y h = cond-false (lt_z y.amount x.amount) _ _ (lt_false x.amount y.amount h) ∙ cond-true (lt_z x.amount y.amount) _ _ (lt_true x.amount y.amount h)

insert_first : (d : Deficit) (ys : List Deficit) → AllByRecursion (λ z. z.amount ≤ℤ d.amount) ys → amounts (insert ahead d ys) ≡ d.amount ∷ amounts ys
insert_first d [] a = refl
insert_first d (z ∷ zs) a = at (insert_first d zs a.1) (ahead d z) refl
  where
    at : amounts (insert ahead d zs) ≡ d.amount ∷ amounts zs → (t : Bool) → ahead d z ≡ t → amounts (cond t (d ∷ z ∷ zs) (z ∷ insert ahead d zs)) ≡ d.amount ∷ z.amount ∷ amounts zs
    at more true e = refl
    at more false e =
        let q = same z.amount d.amount a.0 (not_ahead d z e) in
        ap (λ l. z.amount ∷ l) more ∙ (λ i. q i ∷ sym q i ∷ amounts zs)

all_below : (d y : Deficit) (ys : List Deficit) → y.amount ≤ℤ d.amount → AllByRecursion (λ z. ahead z y ≡ false) ys → AllByRecursion (λ z. z.amount ≤ℤ d.amount) ys
all_below d y [] h a = tt
all_below d y (z ∷ zs) h a = (chain z.amount y.amount d.amount (not_ahead z y a.0) h, all_below d y zs h a.1)

insert_placed : (d : Deficit) (l : List Deficit) → Falling ahead l → amounts (insert ahead d l) ≡ placed_in d.amount (amounts l)
insert_placed d [] s = refl
insert_placed d (y ∷ ys) s =
    by_lt_z d.amount y.amount
    (λ h.
    ap amounts (cond-false (ahead d y) (d ∷ y ∷ ys) (y ∷ insert ahead d ys) (is_behind d y h))
    ∙ ap (λ l. y.amount ∷ l) (insert_placed d ys s.1)
    ∙ sym (placed_behind d.amount y.amount (amounts ys) h))
    (λ h. insert_first d (y ∷ ys) (h, all_below d y ys h s.0) ∙ sym (placed_first d.amount y.amount (amounts ys) h))

ranked_from : (ys xs : List Deficit) → amounts (fold (λ t x. insert ahead x t) (ranked ahead ys) xs) ≡ fold (λ t a. placed_in a t) (amounts (ranked ahead ys)) (amounts xs)
ranked_from ys [] = refl
ranked_from ys (x ∷ xs) =
    let p = ranked_push ahead ys x in
    ap (λ l. amounts (fold (λ t x. insert ahead x t) l xs)) (sym p)
    ∙ ranked_from (ys ++ x ∷ []) xs
    ∙ ap (λ l. fold (λ t a. placed_in a t) l (amounts xs)) (ap amounts p ∙ insert_placed x (ranked ahead ys) (falling_ranked ahead ahead_ranks ys))

pub ranked_amounts : (xs : List Deficit) → amounts (ranked ahead xs) ≡ descending (amounts xs)
ranked_amounts xs = ranked_from [] xs ∙ folded_descending (amounts xs)

pub kept_amounts : (n : ℕ) (xs : List Deficit) → amounts (kept ahead n xs) ≡ take n (descending (amounts xs))
kept_amounts n xs = sym (take-map (λ (d : Deficit). d.amount) n (ranked ahead xs)) ∙ ap (take n) (ranked_amounts xs)

pub kept_total : (n : ℕ) (xs : List Deficit) → total (λ x. x) (amounts (kept ahead n xs)) ≡ total_greatest n (amounts xs)
kept_total n xs = ap (total (λ (x : ℤ). x)) (kept_amounts n xs)
