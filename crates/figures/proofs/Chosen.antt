-- The laws of the sum of the n greatest of a list of amounts. Assumes nothing.
use Rattle.std.proofs.Common.{◌≡◌, ℕ, zero, suc, ◌+◌, ◌≤◌, min, Bool, true, false, cond, ◌⊎◌, List, [], ◌∷◌, ◌++◌, map, length, get_or, take, set, ℤ, pos, ◌+ℤ◌, ◌-ℤ◌, nat_abs, ◌≤ℤ◌, sym, refl, ap, ◌∙◌, inl, inr, arith}
use lib.Signed.{lt_z}
use Rattle.std.specs.Int.{int_max}
use Rattle.std.specs.List.{AllByRecursion}
use Rattle.std.proofs.ByRecursion.{All-set}
use Rattle.std.proofs.lemmas.List.{length-set, length-take, map-set, set-get_or, take_all, take-map}
use Rattle.std.proofs.lemmas.Int.{ints, clamps}
use Rattle.std.proofs.lemmas.Bool.{cases_lt}
use Rattle.figures.specs.Sums.{total, placed_in, descending, total_greatest}
use Rattle.figures.specs.Chosen.{chosen, picks, Reached, GreatestSum, NoneNegative, raised, Moves, BoundsChoices, ReachedByChoice, MovesWithEntry}

-- ---- the same sum, where each place is taken or left; amounts below 0 are left

abbrev pub greatest : ℕ → List ℤ → ℤ
greatest zero xs = pos 0
greatest (suc n) [] = pos 0
greatest (suc n) (x ∷ xs) = int_max (x +ℤ greatest n xs) (greatest (suc n) xs)

pub greatest_nil : (n : ℕ) → greatest n [] ≡ pos 0
greatest_nil zero = refl
greatest_nil (suc n) = refl

pub greatest_floor : (n : ℕ) (xs : List ℤ) → pos 0 ≤ℤ greatest n xs
greatest_floor zero xs = omega (arith, ints)
greatest_floor (suc n) [] = omega (arith, ints)
greatest_floor (suc n) (x ∷ xs) = omega (arith, ints, clamps, greatest_floor (suc n) xs)

pub greatest_bounds : (n : ℕ) (xs : List ℤ) (ts : List Bool) → picks ts ≤ n → chosen ts xs ≤ℤ greatest n xs
greatest_bounds n xs [] h = greatest_floor n xs
greatest_bounds n [] (t ∷ ts) h = greatest_floor n []
greatest_bounds zero (x ∷ xs) (true ∷ ts) h = absurd (omega arith)
greatest_bounds (suc n) (x ∷ xs) (true ∷ ts) h = omega (arith, ints, clamps, greatest_bounds n xs ts (omega arith))
greatest_bounds zero (x ∷ xs) (false ∷ ts) h = greatest_bounds zero xs ts h
greatest_bounds (suc n) (x ∷ xs) (false ∷ ts) h = omega (arith, ints, clamps, greatest_bounds (suc n) xs ts h)

-- one place at two amounts
pub greatest_moves : (n : ℕ) (xs : List ℤ) (i : ℕ) (v w : ℤ) → v ≤ℤ w → (greatest n (set xs i v) ≤ℤ greatest n (set xs i w)) × (greatest n (set xs i w) ≤ℤ (greatest n (set xs i v) +ℤ (w -ℤ v)))
greatest_moves zero xs i v w h = (omega (arith, ints), omega (arith, ints))
greatest_moves (suc n) [] i v w h = (omega (arith, ints), omega (arith, ints))
greatest_moves (suc n) (x ∷ xs) zero v w h = (omega (arith, ints, clamps), omega (arith, ints, clamps))
greatest_moves (suc n) (x ∷ xs) (suc i) v w h =
    let p = greatest_moves n xs i v w h in
    let q = greatest_moves (suc n) xs i v w h in
    (omega (arith, ints, clamps, p.0, q.0), omega (arith, ints, clamps, p.1, q.1))

-- ---- the order of the list does not matter

abbrev Same : List ℤ → List ℤ → Type 0
Same xs ys = (n : ℕ) → greatest n xs ≡ greatest n ys

same_cons : (x : ℤ) (xs ys : List ℤ) → Same xs ys → Same (x ∷ xs) (x ∷ ys)
same_cons x xs ys s zero = refl
same_cons x xs ys s (suc n) = omega (arith, ints, clamps, s n, s (suc n))

same_swap : (x y : ℤ) (xs : List ℤ) → Same (x ∷ y ∷ xs) (y ∷ x ∷ xs)
same_swap x y xs zero = refl
same_swap x y xs (suc zero) = omega (arith, ints, clamps)
same_swap x y xs (suc (suc n)) = omega (arith, ints, clamps)

same_front : (x : ℤ) (xs : List ℤ) → Same (xs ++ x ∷ []) (x ∷ xs)
same_front x [] n = refl
same_front x (z ∷ xs) n = same_cons z (xs ++ x ∷ []) (x ∷ xs) (same_front x xs) n ∙ same_swap z x xs n

pub greatest_push : (n : ℕ) (x : ℤ) (xs : List ℤ) → greatest n (xs ++ x ∷ []) ≡ greatest n (x ∷ xs)
greatest_push n x xs = same_front x xs n

same_placed : (x : ℤ) (l : List ℤ) → Same (placed_in x l) (x ∷ l)
same_placed x [] n = refl
same_placed x (y ∷ l) n =
    elim (lt_z x y) as (λ t. greatest n (cond t (y ∷ placed_in x l) (x ∷ y ∷ l)) ≡ greatest n (x ∷ y ∷ l)) [
      | true ↦ same_cons y (placed_in x l) (x ∷ l) (same_placed x l) n ∙ same_swap y x l n
      | false ↦ refl
    ]

same_descending : (xs : List ℤ) → Same (descending xs) xs
same_descending [] n = refl
same_descending (x ∷ xs) n = same_placed x (descending xs) n ∙ same_cons x (descending xs) xs (same_descending xs) n

-- ---- a list that falls, to 0 at the least

abbrev Under : ℤ → List ℤ → Type 0
Under m xs = AllByRecursion (λ x. x ≤ℤ m) xs

abbrev Falls : List ℤ → Type 0
Falls [] = Unit {0}
Falls (x ∷ xs) = (pos 0 ≤ℤ x) × Under x xs × Falls xs

greatest_back : (n : ℕ) (x : ℤ) (xs : List ℤ) → greatest n xs ≤ℤ greatest n (x ∷ xs)
greatest_back zero x xs = omega (arith, ints)
greatest_back (suc n) x xs = omega (arith, ints, clamps)

one_more : (n : ℕ) (m : ℤ) (xs : List ℤ) → pos 0 ≤ℤ m → Under m xs → greatest (suc n) xs ≤ℤ (m +ℤ greatest n xs)
one_more n m [] z u = omega (arith, ints, greatest_nil n)
one_more n m (x ∷ xs) z u = omega (arith, ints, clamps, u.0, greatest_back n x xs, one_more n m xs z u.1)

first_sum : (n : ℕ) (xs : List ℤ) → Falls xs → greatest n xs ≡ total (λ x. x) (take n xs)
first_sum zero xs f = refl
first_sum (suc n) [] f = refl
first_sum (suc n) (x ∷ xs) f = omega (arith, ints, clamps, one_more n x xs f.0 f.1, first_sum n xs f.2)

under_placed : (m x : ℤ) (l : List ℤ) → x ≤ℤ m → Under m l → Under m (placed_in x l)
under_placed m x [] h u = (h, tt)
under_placed m x (y ∷ l) h u =
    elim (lt_z x y) as (λ t. Under m (cond t (y ∷ placed_in x l) (x ∷ y ∷ l))) [ true ↦ (u.0, under_placed m x l h u.1) | false ↦ (h, u) ]

under_le : (m k : ℤ) (l : List ℤ) → m ≤ℤ k → Under m l → Under k l
under_le m k [] h u = tt
under_le m k (y ∷ l) h u = (omega (arith, ints, u.0), under_le m k l h u.1)

falls_placed : (x : ℤ) (l : List ℤ) → pos 0 ≤ℤ x → Falls l → Falls (placed_in x l)
falls_placed x [] z f = (z, tt, tt)
falls_placed x (y ∷ l) z f = at (falls_placed x l z f.2) (lt_z x y) refl
  where
    at : Falls (placed_in x l) → (t : Bool) → lt_z x y ≡ t → Falls (cond t (y ∷ placed_in x l) (x ∷ y ∷ l))
    at more true e = (f.0, under_placed y x l (omega (arith, ints)) f.1, more)
    at more false e = (z, (omega (arith, ints), under_le y x l (omega (arith, ints)) f.1), f)

falls_descending : (xs : List ℤ) → NoneNegative xs → Falls (descending xs)
falls_descending [] z = tt
falls_descending (x ∷ xs) z = falls_placed x (descending xs) z.0 (falls_descending xs z.1)

pub total_greatest_is : (n : ℕ) (xs : List ℤ) → NoneNegative xs → total_greatest n xs ≡ greatest n xs
total_greatest_is n xs z = sym (first_sum n (descending xs) (falls_descending xs z)) ∙ same_descending xs n

pub none_negative_map : {A : Type 0} (f : A → ℤ) → ((x : A) → pos 0 ≤ℤ f x) → (xs : List A) → NoneNegative (map f xs)
none_negative_map f h [] = tt
none_negative_map f h (x ∷ xs) = (h x, none_negative_map f h xs)

-- ---- any choice

pub bounds_choices : BoundsChoices
bounds_choices n xs z ts h = rw (total_greatest_is n xs z) (greatest_bounds n xs ts h)

-- ---- a choice that reaches it

-- of the first n of a list that x was placed in: x is not among them, or it is and one of the others is not
placed_sums : (n : ℕ) (x : ℤ) (l : List ℤ)
    → (total (λ x. x) (take n (placed_in x l)) ≡ total (λ x. x) (take n l))
    ⊎ ((m : ℕ) × (n ≡ suc m) × (total (λ x. x) (take n (placed_in x l)) ≡ x +ℤ total (λ x. x) (take m l)))
placed_sums zero x l = inl refl
placed_sums (suc n) x [] = inr (n, refl, refl)
placed_sums (suc n) x (y ∷ l) = at (placed_sums n x l) (lt_z x y)
  where
    at : (total (λ x. x) (take n (placed_in x l)) ≡ total (λ x. x) (take n l))
        ⊎ ((m : ℕ) × (n ≡ suc m) × (total (λ x. x) (take n (placed_in x l)) ≡ x +ℤ total (λ x. x) (take m l)))
        → (t : Bool)
        → (total (λ x. x) (take (suc n) (cond t (y ∷ placed_in x l) (x ∷ y ∷ l))) ≡ total (λ x. x) (take (suc n) (y ∷ l)))
        ⊎ ((m : ℕ) × (suc n ≡ suc m) × (total (λ x. x) (take (suc n) (cond t (y ∷ placed_in x l) (x ∷ y ∷ l))) ≡ x +ℤ total (λ x. x) (take m (y ∷ l))))
    at (inl e) true = inl (ap (λ s. y +ℤ s) e)
    at (inr p) true =
        let f : total (λ (x : ℤ). x) (take n (y ∷ l)) ≡ y +ℤ total (λ (x : ℤ). x) (take p.0 l) = ap (λ k. total (λ (x : ℤ). x) (take k (y ∷ l))) p.1 in
        inr (n, refl, omega (arith, ints, p.2, f))
    at way false = inr (n, refl, refl)

pub reached_by_choice : ReachedByChoice
reached_by_choice n [] = ([], refl, omega arith, none n)
  where
    none : (n : ℕ) → pos 0 ≡ total_greatest n []
    none zero = refl
    none (suc n) = refl
reached_by_choice n (x ∷ xs) = at (λ k. reached_by_choice k xs) (placed_sums n x (descending xs))
  where
    at : ((k : ℕ) → Reached k xs (total_greatest k xs))
        → (total (λ x. x) (take n (placed_in x (descending xs))) ≡ total_greatest n xs)
        ⊎ ((m : ℕ) × (n ≡ suc m) × (total (λ x. x) (take n (placed_in x (descending xs))) ≡ x +ℤ total_greatest m xs))
        → Reached n (x ∷ xs) (total_greatest n (x ∷ xs))
    at more (inl e) = let r = more n in (false ∷ r.0, ap suc r.1, r.2, r.3 ∙ sym e)
    at more (inr p) = let r = more p.0 in (true ∷ r.0, ap suc r.1, omega (arith, r.2, p.1), ap (λ s. x +ℤ s) r.3 ∙ sym p.2)

pub greatest_sum : (n : ℕ) (xs : List ℤ) (r : ℤ) → NoneNegative xs → r ≡ total_greatest n xs → GreatestSum n xs r
greatest_sum n xs r z e =
    rw e (record { bounds = bounds_choices n xs z; reached = reached_by_choice n xs })

-- ---- one entry that moves: every amount is lifted by k first, so that none is below 0

module _ (k : ℤ) where
  abbrev lifted : ℤ → ℤ
  lifted x = x +ℤ k

  lt_lifted : (x y : ℤ) → lt_z (lifted x) (lifted y) ≡ lt_z x y
  lt_lifted x y = grind (arith, ints)

  placed_lifted : (x : ℤ) (l : List ℤ) → placed_in (lifted x) (map lifted l) ≡ map lifted (placed_in x l)
  placed_lifted x [] = refl
  placed_lifted x (y ∷ l) =
      ap (λ t. cond t (lifted y ∷ placed_in (lifted x) (map lifted l)) (lifted x ∷ lifted y ∷ map lifted l)) (lt_lifted x y)
      ∙ elim (lt_z x y) as (λ t. cond t (lifted y ∷ placed_in (lifted x) (map lifted l)) (lifted x ∷ lifted y ∷ map lifted l) ≡ map lifted (cond t (y ∷ placed_in x l) (x ∷ y ∷ l))) [
        | true ↦ ap (λ l. lifted y ∷ l) (placed_lifted x l)
        | false ↦ refl
      ]

  descending_lifted : (xs : List ℤ) → descending (map lifted xs) ≡ map lifted (descending xs)
  descending_lifted [] = refl
  descending_lifted (x ∷ xs) = ap (placed_in (lifted x)) (descending_lifted xs) ∙ placed_lifted x (descending xs)

  total_lifted : (l : List ℤ) → total (λ x. x) (map lifted l) ≡ total (λ x. x) l +ℤ total (λ _. k) l
  total_lifted [] = refl
  total_lifted (x ∷ l) = omega (arith, ints, total_lifted l)

  -- what the lift adds to the sum of the n greatest
  abbrev lift_of : ℕ → List ℤ → ℤ
  lift_of n xs = total (λ _. k) (take n (descending xs))

  greatest_lifted : (n : ℕ) (xs : List ℤ) → total_greatest n (map lifted xs) ≡ total_greatest n xs +ℤ lift_of n xs
  greatest_lifted n xs =
      ap (λ l. total (λ (x : ℤ). x) (take n l)) (descending_lifted xs)
      ∙ ap (total (λ (x : ℤ). x)) (take-map lifted n (descending xs))
      ∙ total_lifted (take n (descending xs))

  same_lift : (l m : List ℤ) → length l ≡ length m → total (λ _. k) l ≡ total (λ _. k) m
  same_lift [] [] e = refl
  same_lift [] (y ∷ m) e = absurd (omega arith)
  same_lift (x ∷ l) [] e = absurd (omega arith)
  same_lift (x ∷ l) (y ∷ m) e = ap (λ s. k +ℤ s) (same_lift l m (omega arith))

length_placed : (x : ℤ) (l : List ℤ) → length (placed_in x l) ≡ suc (length l)
length_placed x [] = refl
length_placed x (y ∷ l) =
    elim (lt_z x y) as (λ t. length (cond t (y ∷ placed_in x l) (x ∷ y ∷ l)) ≡ suc (suc (length l))) [ true ↦ ap suc (length_placed x l) | false ↦ refl ]

pub length_descending : (xs : List ℤ) → length (descending xs) ≡ length xs
length_descending [] = refl
length_descending (x ∷ xs) = length_placed x (descending xs) ∙ ap suc (length_descending xs)

-- as many as there are, or more
pub total_greatest_most : (n b m : ℕ) (xs : List ℤ) → length xs ≤ b → m ≡ min n b → total_greatest m xs ≡ total_greatest n xs
total_greatest_most n b m xs h e =
    let long = length_descending xs in
    elim (cases_lt n b) [
      | inl l ↦ ap (λ k. total_greatest k xs) (omega arith)
      | inr l ↦ ap (total (λ (x : ℤ). x)) (take_all m (descending xs) (omega arith) ∙ sym (take_all n (descending xs) (omega arith)))
    ]

-- far enough up for every amount of a list
abbrev height : List ℤ → ℕ
height [] = 0
height (x ∷ xs) = nat_abs x + height xs

high_enough : (xs : List ℤ) (k : ℕ) → height xs ≤ k → NoneNegative (map (lifted (pos k)) xs)
high_enough [] k h = tt
high_enough (x ∷ xs) k h = (omega (arith, ints), high_enough xs k (omega arith))

entry_height : (xs : List ℤ) (i : ℕ) → nat_abs (get_or xs i (pos 0)) ≤ height xs
entry_height [] i = omega arith
entry_height (x ∷ xs) zero = omega arith
entry_height (x ∷ xs) (suc i) = omega (arith, entry_height xs i)

pub moves_with_entry : MovesWithEntry
moves_with_entry n xs i d z =
    (omega (arith, ints, low, high, same, p.0), omega (arith, ints, low, high, same, p.1))
  where
    k : ℤ
    k = pos (height xs)

    v : ℤ
    v = get_or xs i (pos 0)

    ys : List ℤ
    ys = map (lifted k) xs

    p : (greatest n (set ys i (lifted k v)) ≤ℤ greatest n (set ys i (lifted k (v +ℤ d)))) × (greatest n (set ys i (lifted k (v +ℤ d))) ≤ℤ (greatest n (set ys i (lifted k v)) +ℤ (lifted k (v +ℤ d) -ℤ lifted k v)))
    p = greatest_moves n ys i (lifted k v) (lifted k (v +ℤ d)) (omega (arith, ints))

    at : (w : ℤ) → pos 0 ≤ℤ lifted k w → total_greatest n (set xs i w) +ℤ lift_of k n (set xs i w) ≡ greatest n (set ys i (lifted k w))
    at w h =
        sym (greatest_lifted k n (set xs i w))
        ∙ ap (total_greatest n) (map-set (lifted k) xs i w)
        ∙ total_greatest_is n (set ys i (lifted k w)) (All-set (λ x. pos 0 ≤ℤ x) ys i (lifted k w) h (high_enough xs (height xs) (omega arith)))

    low : total_greatest n xs +ℤ lift_of k n xs ≡ greatest n (set ys i (lifted k v))
    low = ap (λ l. total_greatest n l +ℤ lift_of k n l) (sym (set-get_or xs i (pos 0))) ∙ at v (omega (arith, ints, entry_height xs i))

    high : total_greatest n (raised xs i d) +ℤ lift_of k n (raised xs i d) ≡ greatest n (set ys i (lifted k (v +ℤ d)))
    high = at (v +ℤ d) (omega (arith, ints, entry_height xs i))

    same : lift_of k n xs ≡ lift_of k n (raised xs i d)
    same =
        same_lift k (take n (descending xs)) (take n (descending (raised xs i d)))
        (simp length-take (omega (arith, length_descending xs, length_descending (raised xs i d), length-set xs i (v +ℤ d))))

pub greatest_moves_by : (n : ℕ) (xs : List ℤ) (r : ℤ) → r ≡ total_greatest n xs → Moves n xs r
greatest_moves_by n xs r e = rw e (moves_with_entry n xs)
