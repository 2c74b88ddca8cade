-- Choices of at most m of the numbers below n that pass a test. Assumes nothing.
use Rattle.std.proofs.Common.{◌≡◌, ℕ, zero, suc, ◌+◌, ◌<◌, ◌≤◌, Bool, true, false, cond, eqb, List, [], ◌∷◌, ◌++◌, map, ℤ, pos, ◌+ℤ◌, ◌≤ℤ◌, sym, refl, ap, ◌∙◌, arith}
use lib.Signed.{lt_z}
use Rattle.std.specs.Int.{int_max}
use Rattle.std.proofs.lemmas.Int.{ints, clamps}
use Rattle.std.proofs.lemmas.List.{append-nil, map-append}
use Rattle.std.proofs.lemmas.Bool.{eq-eqb, ne_eqb}
use Rattle.figures.specs.Sums.{total, those_below}
use Rattle.rules.proofs.Totals.{total_mono, total_cong, total_add, total_append, those_cong, those_one}
use Rattle.figures.proofs.Chosen.{greatest, greatest_nil, greatest_push}
use Rattle.rules.specs.Days.{counted}

-- ---- lists of numbers

counted_append : (p : ℕ → Bool) (xs ys : List ℕ) → counted p (xs ++ ys) ≡ counted p xs + counted p ys
counted_append p [] ys = omega arith
counted_append p (x ∷ xs) ys = omega (arith, counted_append p xs ys)

pub counted_mono : (p q : ℕ → Bool) (xs : List ℕ) → ((x : ℕ) → p x ≡ true → q x ≡ true) → counted p xs ≤ counted q xs
counted_mono p q [] h = omega arith
counted_mono p q (x ∷ xs) h = go (p x) (q x) (h x) (counted_mono p q xs h)
  where
    go : (t u : Bool) → (t ≡ true → u ≡ true) → counted p xs ≤ counted q xs → cond t 1 0 + counted p xs ≤ cond u 1 0 + counted q xs
    go true true k l = omega arith
    go true false k l = omega (arith, ap {B = ℕ} (λ (t : Bool). cond t 1 0) (k refl))
    go false true k l = omega arith
    go false false k l = omega arith

those_counted : (n : ℕ) (r p q : ℕ → Bool) → ((j : ℕ) → j < n → p j ≡ q j) → counted p (those_below n r) ≡ counted q (those_below n r)
those_counted zero r p q h = refl
those_counted (suc n) r p q h = go (r n) (those_counted n r p q (λ j l. h j (omega arith)))
  where
    go : (t : Bool) → counted p (those_below n r) ≡ counted q (those_below n r) → counted p (those_below n r ++ cond t (n ∷ []) []) ≡ counted q (those_below n r ++ cond t (n ∷ []) [])
    go true e = omega (arith, counted_append p (those_below n r) (n ∷ []), counted_append q (those_below n r) (n ∷ []), ap {B = ℕ} (λ (t : Bool). cond t 1 0) (h n (omega arith)))
    go false e = omega (arith, counted_append p (those_below n r) [], counted_append q (those_below n r) [])

pub those_same : (n : ℕ) (p q : ℕ → Bool) → ((j : ℕ) → p j ≡ q j) → those_below n p ≡ those_below n q
those_same zero p q h = refl
those_same (suc n) p q h = rw (those_same n p q h, h n)

pub those_map : {A : Type 0} (n : ℕ) (q : ℕ → Bool) (f g : ℕ → A) → ((j : ℕ) → q j ≡ true → f j ≡ g j) → map f (those_below n q) ≡ map g (those_below n q)
those_map zero q f g h = refl
those_map {A} (suc n) q f g h = go (q n) refl (those_map n q f g h)
  where
    go : (t : Bool) → q n ≡ t → map f (those_below n q) ≡ map g (those_below n q) → map f (those_below n q ++ cond t (n ∷ []) []) ≡ map g (those_below n q ++ cond t (n ∷ []) [])
    go true e r =
        map-append f (those_below n q) (n ∷ []) ∙ ap (λ (l : List A). l ++ f n ∷ []) r ∙ ap (λ (x : A). map g (those_below n q) ++ x ∷ []) (h n e) ∙ sym (map-append g (those_below n q) (n ∷ []))
    go false e r = map-append f (those_below n q) [] ∙ ap (λ (l : List A). l ++ []) r ∙ sym (map-append g (those_below n q) [])

-- ---- no choice sums to more than the greatest

pub chosen_bound : (m : ℕ) (cs : List ℕ) (f g : ℕ → ℤ) (p : ℕ → Bool) → ((c : ℕ) → g c ≤ℤ f c) → counted p cs ≤ m → total (λ c. cond (p c) (g c) (pos 0)) cs ≤ℤ greatest m (map f cs)
chosen_bound m [] f g p h l = omega (arith, ints, greatest_nil m)
chosen_bound zero (c ∷ cs) f g p h l = go (p c) l (λ k. chosen_bound zero cs f g p h k)
  where
    go : (t : Bool) → cond t 1 0 + counted p cs ≤ zero → (counted p cs ≤ zero → total (λ c. cond (p c) (g c) (pos 0)) cs ≤ℤ pos 0) → (cond t (g c) (pos 0) +ℤ total (λ c. cond (p c) (g c) (pos 0)) cs) ≤ℤ pos 0
    go true l k = absurd (omega arith)
    go false l k = omega (arith, ints, k (omega arith))
chosen_bound (suc m) (c ∷ cs) f g p h l = go (p c) l (λ k. chosen_bound m cs f g p h k) (λ k. chosen_bound (suc m) cs f g p h k)
  where
    go : (t : Bool) → cond t 1 0 + counted p cs ≤ suc m → (counted p cs ≤ m → total (λ c. cond (p c) (g c) (pos 0)) cs ≤ℤ greatest m (map f cs)) → (counted p cs ≤ suc m → total (λ c. cond (p c) (g c) (pos 0)) cs ≤ℤ greatest (suc m) (map f cs)) → (cond t (g c) (pos 0) +ℤ total (λ c. cond (p c) (g c) (pos 0)) cs) ≤ℤ int_max (f c +ℤ greatest m (map f cs)) (greatest (suc m) (map f cs))
    go true l a b = omega (arith, ints, clamps, a (omega arith), h c)
    go false l a b = omega (arith, ints, clamps, b (omega arith))

-- ---- some choice sums to the greatest

-- the choice p with n put in (b true) or left out
put : (ℕ → Bool) → ℕ → Bool → ℕ → Bool
put p n b j = cond (eqb j n) b (p j)

put_at : (p : ℕ → Bool) (n : ℕ) (b : Bool) → put p n b n ≡ b
unfolding put
put_at p n b = rw (eq-eqb n n refl)

put_below : (p : ℕ → Bool) (n : ℕ) (b : Bool) (j : ℕ) → j < n → put p n b j ≡ p j
unfolding put
put_below p n b j l = rw (ne_eqb j n (λ e. omega arith))

put_count : (p q : ℕ → Bool) (n : ℕ) (b : Bool) → counted (put p n b) (those_below n q ++ n ∷ []) ≡ counted p (those_below n q) + cond b 1 0
put_count p q n b =
    omega (arith, counted_append (put p n b) (those_below n q) (n ∷ []), those_counted n q (put p n b) p (put_below p n b), ap {B = ℕ} (λ (t : Bool). cond t 1 0) (put_at p n b))

put_total : (p q : ℕ → Bool) (n : ℕ) (b : Bool) (f : ℕ → ℤ) → total (λ c. cond (put p n b c) (f c) (pos 0)) (those_below n q ++ n ∷ []) ≡ total (λ c. cond (p c) (f c) (pos 0)) (those_below n q) +ℤ cond b (f n) (pos 0)
put_total p q n b f =
    omega (arith, ints, total_append (λ c. cond (put p n b c) (f c) (pos 0)) (those_below n q) (n ∷ []), those_cong n q (λ c. cond (put p n b c) (f c) (pos 0)) (λ c. cond (p c) (f c) (pos 0)) (λ j l e. ap (λ (t : Bool). cond t (f j) (pos 0)) (put_below p n b j l)), ap (λ (t : Bool). cond t (f n) (pos 0)) (put_at p n b))

abbrev pub Met : ℕ → (ℕ → ℤ) → List ℕ → Type 0
Met m f cs = (p : ℕ → Bool) × (counted p cs ≤ m) × (total (λ c. cond (p c) (f c) (pos 0)) cs ≡ greatest m (map f cs))

map_last : (m : ℕ) (f : ℕ → ℤ) (xs : List ℕ) (n : ℕ) → greatest m (map f (xs ++ n ∷ [])) ≡ greatest m (f n ∷ map f xs)
map_last m f xs n = ap (greatest m) (map-append f xs (n ∷ [])) ∙ greatest_push m (f n) (map f xs)

pub chosen_met : (n : ℕ) (q : ℕ → Bool) (f : ℕ → ℤ) (m : ℕ) → Met m f (those_below n q)
chosen_met zero q f m = ((λ j. false), omega arith, sym (greatest_nil m))
chosen_met (suc n) q f m = go (q n) m (λ k. chosen_met n q f k)
  where
    one : (m : ℕ) (t : Bool) → lt_z (greatest (suc m) (map f (those_below n q))) (f n +ℤ greatest m (map f (those_below n q))) ≡ t → Met m f (those_below n q) → Met (suc m) f (those_below n q) → Met (suc m) f (those_below n q ++ n ∷ [])
    one m true t (p, few, e) b = (put p n true, omega (arith, put_count p q n true), omega (arith, ints, clamps, put_total p q n true f, map_last (suc m) f (those_below n q) n))
    one m false t a (p, few, e) = (put p n false, omega (arith, put_count p q n false), omega (arith, ints, clamps, put_total p q n false f, map_last (suc m) f (those_below n q) n))

    none : Met zero f (those_below n q) → Met zero f (those_below n q ++ n ∷ [])
    none (p, few, e) = (put p n false, omega (arith, put_count p q n false), omega (arith, ints, put_total p q n false f))

    go : (t : Bool) (m : ℕ) → ((k : ℕ) → Met k f (those_below n q)) → Met m f (those_below n q ++ cond t (n ∷ []) [])
    go false m r = rw (append-nil (those_below n q)) (r m)
    go true zero r = none (r zero)
    go true (suc m) r = one m (lt_z (greatest (suc m) (map f (those_below n q))) (f n +ℤ greatest m (map f (those_below n q)))) refl (r m) (r (suc m))

-- the same, where f is what g is above 0
pub worst_choice : (n : ℕ) (q : ℕ → Bool) (f g : ℕ → ℤ) (m : ℕ) → ((c : ℕ) → f c ≡ int_max (pos 0) (g c)) → (p : ℕ → Bool) × (counted p (those_below n q) ≤ m) × (total (λ c. cond (p c) (g c) (pos 0)) (those_below n q) ≡ greatest m (map f (those_below n q)))
worst_choice n q f g m h = go (chosen_met n q f m)
  where
    less : (t u : Bool) → cond t u false ≡ true → u ≡ true
    less true u e = e
    less false true e = refl
    less false false e = e

    same : (x y : ℤ) (t : Bool) → lt_z (pos 0) y ≡ t → (u : Bool) → x ≡ int_max (pos 0) y → cond (cond t u false) y (pos 0) ≡ cond u x (pos 0)
    same x y true e true k = omega (arith, ints, clamps)
    same x y true e false k = refl
    same x y false e true k = omega (arith, ints, clamps)
    same x y false e false k = refl

    go : Met m f (those_below n q) → (p : ℕ → Bool) × (counted p (those_below n q) ≤ m) × (total (λ c. cond (p c) (g c) (pos 0)) (those_below n q) ≡ greatest m (map f (those_below n q)))
    go (p, few, e) = (
      (λ c. cond (lt_z (pos 0) (g c)) (p c) false),
      omega (arith, counted_mono (λ c. cond (lt_z (pos 0) (g c)) (p c) false) p (those_below n q) (λ c. less (lt_z (pos 0) (g c)) (p c))),
      total_cong (λ c. cond (cond (lt_z (pos 0) (g c)) (p c) false) (g c) (pos 0)) (λ c. cond (p c) (f c) (pos 0)) (those_below n q) (λ c. same (f c) (g c) (lt_z (pos 0) (g c)) refl (p c) (h c)) ∙ e,
    )

-- ---- where one number alone is greater, and by at most d

pub greatest_mono : (m : ℕ) (cs : List ℕ) (f g : ℕ → ℤ) → ((c : ℕ) → f c ≤ℤ g c) → greatest m (map f cs) ≤ℤ greatest m (map g cs)
greatest_mono zero cs f g h = omega (arith, ints)
greatest_mono (suc m) [] f g h = omega (arith, ints)
greatest_mono (suc m) (c ∷ cs) f g h = omega (arith, ints, clamps, greatest_mono m cs f g h, greatest_mono (suc m) cs f g h, h c)

pub greatest_near : (n : ℕ) (q : ℕ → Bool) (m c : ℕ) (d : ℤ) (f g : ℕ → ℤ) → pos 0 ≤ℤ d → ((j : ℕ) → f j ≤ℤ (g j +ℤ cond (eqb c j) d (pos 0))) → greatest m (map f (those_below n q)) ≤ℤ (greatest m (map g (those_below n q)) +ℤ d)
greatest_near n q m c d f g z h = go (chosen_met n q f m)
  where
    one : (b t : Bool) (x y : ℤ) → x ≤ℤ (y +ℤ cond t d (pos 0)) → cond b x (pos 0) ≤ℤ (cond b y (pos 0) +ℤ cond t d (pos 0))
    one true t x y k = k
    one false true x y k = omega (arith, ints)
    one false false x y k = omega (arith, ints)

    go : Met m f (those_below n q) → greatest m (map f (those_below n q)) ≤ℤ (greatest m (map g (those_below n q)) +ℤ d)
    go (p, few, e) =
        omega (arith, ints, chosen_bound m (those_below n q) g g p (λ c. omega (arith, ints)) few, those_one n q c d z, total_add (λ j. cond (p j) (g j) (pos 0)) (λ j. cond (eqb c j) d (pos 0)) (those_below n q), total_mono (λ j. cond (p j) (f j) (pos 0)) (λ j. cond (p j) (g j) (pos 0) +ℤ cond (eqb c j) d (pos 0)) (those_below n q) (λ j. one (p j) (eqb c j) (f j) (g j) (h j)))
