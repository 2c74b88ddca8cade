-- A row of sums, one sum more at a time. Assumes nothing.
use Rattle.std.proofs.Common.{◌≡◌, ℕ, ◌+◌, ◌-◌, ◌<◌, ◌≤◌, List, [], length, get_or, take, drop, ◌++◌, set, replicate, ℤ, pos, ◌+ℤ◌, nat_abs, refl, ap, ◌∙◌, inl, inr, arith, zero, suc, ◌*◌, ◌∷◌, mul-suc}
use Rattle.std.proofs.lemmas.List.{get_or-set_same, get_or-set_other, get_or-replicate, get_or_past, get_or-take, get_or_append_left, get_or-append_right, get_or-drop, length-replicate, length-take}
use Rattle.std.proofs.lemmas.Int.{ints}
use Rattle.std.proofs.lemmas.Bool.{cases_eq, cases_lt}
use Rattle.figures.specs.Losses.{at, Added, Holds}
use Rattle.figures.specs.Sums.{total}

grows : (x y z : ℤ) (b : ℕ) → z ≡ x +ℤ y → nat_abs y ≤ b → nat_abs z ≤ nat_abs x + b
grows x y z b e h = omega (arith, ints)

pub added_more : (xs ys : List ℤ) (i : ℕ) (f : ℕ → ℤ) (b : ℕ) (z : ℤ) → i < length ys → Added xs ys i f b → z ≡ at ys i +ℤ f i → nat_abs (f i) ≤ b → Added xs (set ys i z) (i + 1) f b
added_more xs ys i f b z l a e h =
    record {
      more = λ s u.
          elim (cases_eq s i) [
            | inl k ↦ rw k (get_or-set_same ys i z (pos 0) l ∙ here)
            | inr k ↦ get_or-set_other ys i s z (pos 0) k ∙ a.more s (omega (arith, k))
          ];
      rest = λ s u. get_or-set_other ys i s z (pos 0) (λ k. omega arith) ∙ a.rest s (omega arith);
      small = λ s.
          elim (cases_eq s i) [
            | inl k ↦ rw (k, get_or-set_same ys i z (pos 0) l) (grows (at xs i) (f i) z b here h)
            | inr k ↦ rw (get_or-set_other ys i s z (pos 0) k) (a.small s)
          ];
    }
  where
    here : z ≡ at xs i +ℤ f i
    here = e ∙ ap (λ x. x +ℤ f i) (a.rest i (omega arith))

pub added_zero : (xs : List ℤ) (n : ℕ) (f : ℕ → ℤ) (b : ℕ) → ((s : ℕ) → f s ≡ pos 0) → Added xs xs n f b
added_zero xs n f b z =
    record { more = λ s l. omega (arith, ints, z s); rest = λ s l. refl; small = λ s. omega arith }

pub added_same : (xs ys : List ℤ) (n : ℕ) (f g : ℕ → ℤ) (b : ℕ) → ((s : ℕ) → f s ≡ g s) → Added xs ys n f b → Added xs ys n g b
added_same xs ys n f g b e a =
    record { more = λ s l. a.more s l ∙ ap (λ z. at xs s +ℤ z) (e s); rest = a.rest; small = a.small }

pub zero_at : (w s : ℕ) → at (replicate w (pos 0)) s ≡ pos 0
zero_at w s =
    elim (cases_lt s w) [
      | inl l ↦ get_or-replicate w s (pos 0) (pos 0) l
      | inr l ↦ get_or_past (replicate w (pos 0)) s (pos 0) (omega (arith, length-replicate {A = ℤ} w (pos 0)))
    ]

blank_at : (n w k s : ℕ) → at (get_or (replicate n (replicate w (pos 0))) k []) s ≡ pos 0
blank_at n w k s =
    elim (cases_lt k n) [
      | inl l ↦ ap (λ xs. at xs s) (get_or-replicate n k (replicate w (pos 0)) [] l) ∙ zero_at w s
      | inr l ↦
          ap (λ xs. at xs s) (get_or_past (replicate n (replicate w (pos 0))) k [] (omega (arith, length-replicate {A = List ℤ} n (replicate w (pos 0)))))
          ∙ get_or_past [] s (pos 0) (omega arith)
    ]

-- a row in which nothing is counted yet
pub holds_zero : (xs : List ℤ) (n : ℕ) → ((s : ℕ) → at xs s ≡ pos 0) → Holds xs n (λ _. pos 0) 0
holds_zero xs n z =
    record { sums = λ s l. z s; rest = λ s l. z s; small = λ s. rw (z s) (omega arith) }

-- rows in which nothing is counted yet
pub holds_blank : (n w k m : ℕ) → Holds (get_or (replicate n (replicate w (pos 0))) k []) m (λ _. pos 0) 0
holds_blank n w k m = holds_zero (get_or (replicate n (replicate w (pos 0))) k []) m (blank_at n w k)

-- the first places of a row
pub at_front : (xs : List ℤ) (n s : ℕ) → s < n → at (take n xs) s ≡ at xs s
at_front xs n s l = get_or-take n xs s (pos 0) l

-- a row after something was added to its first places alone
pub added_front : (xs ys : List ℤ) (n k : ℕ) (f : ℕ → ℤ) (b : ℕ) → length ys ≡ k → n ≡ k → Added (take n xs) ys k f b → Added xs (ys ++ drop n xs) k f b
added_front xs ys n k f b l e a =
    record {
      more = λ s u. before s u ∙ a.more s u ∙ ap (λ z. z +ℤ f s) (at_front xs n s (omega arith));
      rest = λ s u. behind s u;
      small = λ s.
          elim (cases_lt s k) [
            | inl u ↦ rw (before s u) (omega (arith, a.small s, ap nat_abs (at_front xs n s (omega arith))))
            | inr u ↦ rw (behind s u) (omega arith)
          ];
    }
  where
    before : (s : ℕ) → s < k → at (ys ++ drop n xs) s ≡ at ys s
    before s u = get_or_append_left ys (drop n xs) (pos 0) s (omega arith)

    behind : (s : ℕ) → k ≤ s → at (ys ++ drop n xs) s ≡ at xs s
    behind s u = get_or-append_right ys (drop n xs) k s (pos 0) l u ∙ get_or-drop n xs (s - k) (pos 0) ∙ ap (at xs) (omega arith)

-- one more that is counted
pub holds_more : (xs ys : List ℤ) (n : ℕ) (f g h : ℕ → ℤ) (b c d : ℕ) → Holds xs n f b → Added xs ys n g c → ((s : ℕ) → f s +ℤ g s ≡ h s) → b + c ≤ d → Holds ys n h d
holds_more xs ys n f g h b c d o a e l =
    record {
      sums = λ s u. a.more s u ∙ ap (λ z. z +ℤ g s) (o.sums s u) ∙ e s;
      rest = λ s u. a.rest s u ∙ o.rest s u;
      small = λ s. omega (arith, o.small s, a.small s);
    }

pub holds_same : (xs : List ℤ) (n : ℕ) (f g : ℕ → ℤ) (b c : ℕ) → Holds xs n f b → ((s : ℕ) → f s ≡ g s) → b ≤ c → Holds xs n g c
holds_same xs n f g b c o e l =
    record { sums = λ s u. o.sums s u ∙ e s; rest = o.rest; small = λ s. omega (arith, o.small s) }

-- the places that hold something, alone
pub holds_front : (xs : List ℤ) (n : ℕ) (f : ℕ → ℤ) (b : ℕ) → Holds xs n f b → Holds (take n xs) n f b
holds_front xs n f b o =
    record {
      sums = λ s l. at_front xs n s l ∙ o.sums s l;
      rest = λ s l. past s l;
      small = λ s.
          elim (cases_lt s n) [
            | inl l ↦ rw (at_front xs n s l) (o.small s)
            | inr l ↦ rw (past s l) (omega arith)
          ];
    }
  where
    past : (s : ℕ) → n ≤ s → at (take n xs) s ≡ pos 0
    past s l = get_or_past (take n xs) s (pos 0) (omega (arith, length-take n xs))

-- the sum of the first of some sums
pub firsts_small : (xs : List ℤ) (b n : ℕ) → ((k : ℕ) → nat_abs (at xs k) ≤ b) → nat_abs (total (λ x. x) (take n xs)) ≤ b * length xs
firsts_small xs b zero h = omega arith
firsts_small [] b (suc n) h = omega arith
firsts_small (x ∷ xs) b (suc n) h =
    both_small x (total (λ (y : ℤ). y) (take n xs)) (h 0) (firsts_small xs b n (λ k. h (suc k)))
  where
    both_small : (y z : ℤ) → nat_abs y ≤ b → nat_abs z ≤ b * length xs → nat_abs (y +ℤ z) ≤ b * suc (length xs)
    both_small y z u v = omega (arith, ints, mul-suc b (length xs))
