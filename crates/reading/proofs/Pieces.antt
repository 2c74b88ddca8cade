-- What stands before the first line feed and behind it. Assumes nothing.
use Rattle.std.proofs.Common.{◌≡◌, ◌≢◌, ℕ, suc, ◌+◌, ◌-◌, ◌<◌, ◌≤◌, Bool, true, false, cond, not, ◌||◌, List, [], ◌∷◌, ◌++◌, length, get_or, take, drop, All, None, Some, Option, unwrap_or, sym, refl, ap, ◌∙◌, append-nil, arith, nat_lt}
use Rattle.std.specs.List.{position, position_or_len, before_first, after_first, list_any, slice_range}
use Rattle.std.specs.Option.{is_some}
use Rattle.std.proofs.lemmas.List.{take_all, drop_all, length-take, get_or-take, drop-take, drop-drop}
use Rattle.std.proofs.lemmas.List.Sums.{split_at_first, passes_at_first, fails_before_first}
use Rattle.std.proofs.lemmas.Bool.{true≢false, false≢true, ltb-true, ltb-false, lt-ltb, eqb-true, eqb-false}
use Rattle.std.proofs.lemmas.Bool.Decides.{nat_tests}
use Rattle.reading.specs.Lines.{is_feed}

-- the place of the first line feed, where there is one
some_of : (b : Bool) (m n : ℕ) → cond b (Some m) None ≡ Some n → (n ≡ m) × (b ≡ true)
some_of true m n e = (sym (ap (λ (o : Option ℕ). unwrap_or o 0) e), refl)
some_of false m n e = absurd (false≢true (ap (λ (o : Option ℕ). is_some o) e))

pub feed_at : (xs : List ℕ) (n : ℕ) → position is_feed xs ≡ Some n → (n ≡ position_or_len is_feed xs) × (n < length xs)
feed_at xs n e =
    let place = some_of (nat_lt (position_or_len is_feed xs) (length xs)) (position_or_len is_feed xs) n e in
    (place.0, omega (arith, place.0, ltb-true (position_or_len is_feed xs) (length xs) place.1))

-- and where there is none
none_of : (b : Bool) (m : ℕ) → cond b (Some m) None ≡ None → b ≡ false
none_of true m e = absurd (true≢false (ap (λ (o : Option ℕ). is_some o) e))
none_of false m e = refl

pub no_feed : (xs : List ℕ) → position is_feed xs ≡ None → length xs ≤ position_or_len is_feed xs
no_feed xs e = ltb-false (position_or_len is_feed xs) (length xs) (none_of (nat_lt (position_or_len is_feed xs) (length xs)) (position_or_len is_feed xs) e)

-- whether there is one
both_more : (m n : ℕ) → nat_lt m n ≡ nat_lt (1 + m) (suc n)
both_more m n = grind (arith, nat_tests)

pub any_feed : (xs : List ℕ) → list_any is_feed xs ≡ nat_lt (position_or_len is_feed xs) (length xs)
any_feed [] = refl
any_feed (x ∷ xs) = at (is_feed x) (any_feed xs)
  where
    at : (b : Bool) → list_any is_feed xs ≡ nat_lt (position_or_len is_feed xs) (length xs) → (b || list_any is_feed xs) ≡ nat_lt (cond (not b) (1 + position_or_len is_feed xs) 0) (length (x ∷ xs))
    at true same = sym (lt-ltb 0 (length (x ∷ xs)) (omega arith))
    at false same = same ∙ both_more (position_or_len is_feed xs) (length xs)

-- the bytes are what stands before it, the line feed, and what stands behind it
pub fed_piece : (xs : List ℕ) → list_any is_feed xs ≡ true → xs ≡ before_first is_feed xs ++ 10 ∷ after_first is_feed xs
fed_piece xs any =
    let within : position_or_len is_feed xs < length xs = ltb-true (position_or_len is_feed xs) (length xs) (sym (any_feed xs) ∙ any) in
    let at : get_or xs (position_or_len is_feed xs) 0 ≡ 10 = eqb-true (get_or xs (position_or_len is_feed xs) 0) 10 (passes_at_first is_feed xs 0 within) in
    split_at_first is_feed xs 0 within ∙ ap (λ (x : ℕ). before_first is_feed xs ++ x ∷ after_first is_feed xs) at

-- or there is none
pub before_all : (xs : List ℕ) → length xs ≤ position_or_len is_feed xs → before_first is_feed xs ≡ xs
before_all xs past = take_all (position_or_len is_feed xs) xs past

pub after_none : (xs : List ℕ) → length xs ≤ position_or_len is_feed xs → after_first is_feed xs ≡ []
after_none xs past = drop_all (position_or_len is_feed xs + 1) xs (omega (arith, past))

pub unfed_piece : (xs : List ℕ) → list_any is_feed xs ≡ false → xs ≡ before_first is_feed xs ++ after_first is_feed xs
unfed_piece xs any =
    let past : length xs ≤ position_or_len is_feed xs = ltb-false (position_or_len is_feed xs) (length xs) (sym (any_feed xs) ∙ any) in
    sym (ap (λ (t : List ℕ). t ++ after_first is_feed xs) (before_all xs past) ∙ ap (λ (t : List ℕ). xs ++ t) (after_none xs past) ∙ append-nil xs)

-- no byte before it is one
pub before_unfed : (xs : List ℕ) → All (λ x. x ≢ 10) (before_first is_feed xs)
before_unfed xs k d within =
    let n = position_or_len is_feed xs in
    let before : k < n = omega (arith, within, length-take n xs) in
    λ e. eqb-false (get_or xs k d) 10 (fails_before_first is_feed xs k d before) (sym (get_or-take n xs k d before) ∙ e)

-- what stays at hand
pub rest_at : (xs : List ℕ) (i j n : ℕ) → i + (n + 1) ≤ j → slice_range xs (i + (n + 1)) j ≡ drop (n + 1) (slice_range xs i j)
rest_at xs i j n within =
    let m = j - (i + (n + 1)) in
    let all : j - i ≡ n + 1 + m = omega arith in
    sym (ap (λ (k : ℕ). drop (n + 1) (take k (drop i xs))) all ∙ drop-take (n + 1) m (drop i xs) ∙ ap (take m) (drop-drop (n + 1) i xs))

pub rest_none : (xs : List ℕ) (j : ℕ) → slice_range xs j j ≡ []
rest_none xs j =
    let none : j - j ≡ 0 = omega arith in
    ap (λ (k : ℕ). take k (drop j xs)) none
