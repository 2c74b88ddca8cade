-- What is counted in rows is the figure. Assumes nothing.
use Rattle.std.proofs.Common.{◌≡◌, ℕ, ◌*◌, ◌<◌, ◌≤◌, Bool, true, false, cond, List, [], ◌∷◌, length, get_or, take, ℤ, pos, ◌+ℤ◌, ◌*ℤ◌, neg_ℤ, nat_abs, ◌≤ℤ◌, sym, refl, ap, ◌∙◌, inl, inr, mul-le-mul_left, arith}
use lib.IntN.{*ℤ-zero}
use Rattle.std.proofs.lemmas.Int.{ints}
use Rattle.std.proofs.lemmas.List.{length-take}
use Rattle.std.proofs.lemmas.Bool.{cases_lt, cond_both}
use Rattle.scenario.specs.Table.{ScenarioTable, Lawful}
use Rattle.figures.specs.Figures.{Position, lies_in, moves, loss_in, margin}
use Rattle.figures.specs.Laws.{MarginsNotNegative}
use Rattle.figures.specs.Losses.{lost_together, losses_in, at, Holds}
use Rattle.figures.specs.Sums.{total, total_below, greatest_below}
use Rattle.figures.specs.Worst.{Greatest, Worst}
use Rattle.figures.proofs.Summing.{at_front}
use Rattle.figures.proofs.Greatest.{below_mono, below_same, below_small, greatest_same, greatest_small, greatest_bound, argmax, greatest_met, argmax_below}

cond_neg : (b : Bool) (x u v : ℤ) → u ≡ neg_ℤ v → cond b (neg_ℤ x) (pos 0) +ℤ u ≡ neg_ℤ (cond b x (pos 0) +ℤ v)
cond_neg true x u v e = omega (arith, ints)
cond_neg false x u v e = omega (arith, ints)

total_neg : {A : Type 0} (p : A → Bool) (f : A → ℤ) (xs : List A) → total (λ x. cond (p x) (neg_ℤ (f x)) (pos 0)) xs ≡ neg_ℤ (total (λ x. cond (p x) (f x) (pos 0)) xs)
total_neg p f [] = refl
total_neg p f (x ∷ xs) = cond_neg (p x) (f x) _ _ (total_neg p f xs)

total_zero : {A : Type 0} (f : A → ℤ) (xs : List A) → ((x : A) → f x ≡ pos 0) → total f xs ≡ pos 0
total_zero f [] z = refl
total_zero f (x ∷ xs) z = omega (arith, ints, z x, total_zero f xs z)

pub greatest_is : (n : ℕ) (f : ℕ → ℤ) → 0 < n → Greatest n f (greatest_below n f)
greatest_is n f l = record { bounds = greatest_bound n f; reached = (argmax n f, argmax_below n f l, greatest_met n f) }

-- the greatest of the first sums of a row
pub greatest_front : (row : List ℤ) (n : ℕ) → 0 < n → n ≤ length row → greatest_below (length (take n row)) (at (take n row)) ≡ greatest_below n (at row)
greatest_front row n some long =
    ap (λ j. greatest_below j (at (take n row))) (omega (arith, length-take n row))
    ∙ greatest_same n (at (take n row)) (at row) (at_front row n 0 (omega arith)) (λ s u. at_front row n s (omega arith))

module _ (m : ScenarioTable) where
  pub together_is : (market : ℕ → ℕ) (ts : List Position) (k s : ℕ) → losses_in m market lost_together ts k s ≡ loss_in m ts k s
  together_is market ts k s = total_neg (lies_in m k) (moves m s) ts

  -- in the unmoved market nothing is lost
  pub still : Lawful m → (ts : List Position) (k : ℕ) → loss_in m ts k 0 ≡ pos 0
  still law ts k =
      ap neg_ℤ
      (total_zero (λ t. cond (lies_in m k t) (moves m 0 t) (pos 0)) ts
      (λ t.
      cond_both (lies_in m k t) (moves m 0 t) (pos 0) (λ z. z ≡ pos 0)
      (λ _. ap (λ z. t.quantity *ℤ z) (law.unmoved t.contract) ∙ *ℤ-zero t.quantity)
      (λ _. refl)))

  -- a row of exactly the scenarios of a subportfolio
  pub margin_is : Lawful m → (market : ℕ → ℕ) (ts : List Position) (k n : ℕ) (row : List ℤ) (b : ℕ) → n ≡ m.scenarios k → Holds row n (losses_in m market lost_together ts k) b → greatest_below n (at row) ≡ margin m ts k
  margin_is law market ts k n row b e h =
      greatest_same n (at row) (loss_in m ts k) first (λ s l. h.sums s l ∙ together_is market ts k s)
      ∙ ap (λ j. greatest_below j (loss_in m ts k)) e
    where
      first : at row 0 ≡ loss_in m ts k 0
      first =
          elim (cases_lt 0 n) [
            | inl l ↦ h.sums 0 l ∙ together_is market ts k 0
            | inr l ↦ h.rest 0 l ∙ sym (still law ts k)
          ]

  -- the greatest of every row, for either way of counting
  pub rows_are : Lawful m → (market : ℕ → ℕ) (lost : ℤ → ℤ → ℤ) (ts : List Position) (rows : List (List ℤ)) (b : ℕ) → ((k : ℕ) → Holds (get_or rows k []) (m.scenarios k) (losses_in m market lost ts k) b) → total_below m.subportfolios (λ k. greatest_below (m.scenarios k) (at (get_or rows k []))) ≡ total_below m.subportfolios (λ k. greatest_below (m.scenarios k) (losses_in m market lost ts k))
  rows_are law market lost ts rows b h =
      below_same m.subportfolios _ _
      (λ k l. greatest_same (m.scenarios k) (at (get_or rows k [])) (losses_in m market lost ts k) ((h k).sums 0 (law.some_scenario k l)) (λ s u. (h k).sums s u))

  pub margins_are : Lawful m → (market : ℕ → ℕ) (ts : List Position) → total_below m.subportfolios (λ k. greatest_below (m.scenarios k) (losses_in m market lost_together ts k)) ≡ total_below m.subportfolios (margin m ts)
  margins_are law market ts =
      below_same m.subportfolios _ _
      (λ k l. greatest_same (m.scenarios k) (losses_in m market lost_together ts k) (loss_in m ts k) (together_is market ts k 0) (λ s u. together_is market ts k s))

  pub rows_small : Lawful m → (rows : List (List ℤ)) (b : ℕ) → ((k s : ℕ) → nat_abs (at (get_or rows k []) s) ≤ b) → nat_abs (total_below m.subportfolios (λ k. greatest_below (m.scenarios k) (at (get_or rows k [])))) ≤ b * 8
  rows_small law rows b h =
      let small = below_small m.subportfolios b (λ k. greatest_below (m.scenarios k) (at (get_or rows k []))) (λ k. greatest_small (m.scenarios k) b (at (get_or rows k [])) (h k)) in
      omega (arith, small, mul-le-mul_left b law.few_subportfolios)

  -- the sum of the greatest is the greatest of the sums
  pub worst_is : Lawful m → (f : ℕ → ℕ → ℤ) (g : ℤ → ℤ) → ((x y : ℤ) → x ≤ℤ y → g x ≤ℤ g y) → Worst m f g (g (total_below m.subportfolios (λ k. greatest_below (m.scenarios k) (f k))))
  worst_is law f g rises =
      record {
        bounds = λ of p. rises _ _ (below_mono m.subportfolios _ _ (λ k l. greatest_bound (m.scenarios k) (f k) (of k) (p k l)));
        reached = (
          (λ k. argmax (m.scenarios k) (f k)),
          (λ k l. argmax_below (m.scenarios k) (f k) (law.some_scenario k l)),
          ap g (below_same m.subportfolios _ _ (λ k l. greatest_met (m.scenarios k) (f k))),
        );
      }

pub margins_not_negative : MarginsNotNegative
margins_not_negative m law ts k =
    elim (cases_lt 0 (m.scenarios k)) [
      | inl l ↦ omega (arith, ints, still m law ts k, greatest_bound (m.scenarios k) (loss_in m ts k) 0 l)
      | inr l ↦
          let none : m.scenarios k ≡ 0 = omega arith in
          rw none (omega (arith, ints, still m law ts k))
    ]
