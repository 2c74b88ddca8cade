-- Lists over the numbers below n, one number more at a time. Assumes nothing.
use Rattle.std.proofs.Common.{◌≡◌, ℕ, zero, suc, ◌+◌, ◌≤◌, Bool, true, false, cond, List, [], ◌∷◌, ◌++◌, map, length, ℤ, ◌+ℤ◌, nat_abs, sym, refl, ap, ◌∙◌, add-one, arith}
use Rattle.std.proofs.lemmas.Int.{ints}
use Rattle.std.proofs.lemmas.List.{append-nil, map-append, length_push}
use Rattle.std.proofs.lemmas.Bool.{cond-true, cond-false}
use Rattle.figures.specs.Losses.{at}
use Rattle.figures.specs.Sums.{total, total_below, those_below}

those_more : (n : ℕ) (p : ℕ → Bool) → those_below (n + 1) p ≡ those_below n p ++ cond (p n) (n ∷ []) []
those_more n p = rw add-one

module _ {A : Type 0} (f : ℕ → A) (n : ℕ) (p : ℕ → Bool) where
  -- the next number passes
  pub those_yes : (x : A) → p n ≡ true → x ≡ f n → map f (those_below (n + 1) p) ≡ map f (those_below n p) ++ x ∷ []
  those_yes x t e =
      ap (map f) (those_more n p ∙ ap (λ l. those_below n p ++ l) (cond-true (p n) (n ∷ []) [] t))
      ∙ map-append f (those_below n p) (n ∷ [])
      ∙ ap (λ y. map f (those_below n p) ++ y ∷ []) (sym e)

  -- it does not
  pub those_no : p n ≡ false → map f (those_below (n + 1) p) ≡ map f (those_below n p)
  those_no t =
      ap (map f) (those_more n p ∙ ap (λ l. those_below n p ++ l) (cond-false (p n) (n ∷ []) [] t) ∙ append-nil (those_below n p))

length_one : (b : Bool) (n : ℕ) (l : List ℕ) → length (l ++ cond b (n ∷ []) []) ≤ suc (length l)
length_one true n l = omega (arith, length_push l n)
length_one false n l = rw append-nil (omega arith)

pub length_those : (n : ℕ) (p : ℕ → Bool) → length (those_below n p) ≤ n
length_those zero p = omega arith
length_those (suc n) p = omega (arith, length_those n p, length_one (p n) n (those_below n p))

pub map_same : {A B : Type 0} (f g : A → B) (xs : List A) → ((x : A) → f x ≡ g x) → map f xs ≡ map g xs
map_same f g [] e = refl
map_same f g (x ∷ xs) e = λ i. e x i ∷ map_same f g xs e i

-- the sum of f over the numbers below n
pub total_those : (f : ℕ → ℤ) (n : ℕ) → total (λ x. x) (map f (those_below n (λ _. true))) ≡ total_below n f
total_those f zero = refl
total_those f (suc n) =
    ap (total (λ (x : ℤ). x)) (map-append f (those_below n (λ _. true)) (n ∷ []))
    ∙ total_push (map f (those_below n (λ _. true))) (f n)
    ∙ ap (λ s. s +ℤ f n) (total_those f n)
  where
    total_push : (xs : List ℤ) (y : ℤ) → total (λ x. x) (xs ++ y ∷ []) ≡ total (λ x. x) xs +ℤ y
    total_push [] y = omega (arith, ints)
    total_push (x ∷ xs) y = omega (arith, ints, total_push xs y)

-- each is small
pub each_small : (f : ℕ → ℤ) (b : ℕ) → ((j : ℕ) → nat_abs (f j) ≤ b) → (ks : List ℕ) (s : ℕ) → nat_abs (at (map f ks) s) ≤ b
each_small f b h [] s = omega arith
each_small f b h (k ∷ ks) zero = h k
each_small f b h (k ∷ ks) (suc s) = each_small f b h ks s
