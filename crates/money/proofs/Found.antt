-- The first slip of a list that says the same. Assumes nothing.
use Rattle.std.proofs.Common.{◌≡◌, ℕ, zero, suc, ◌+◌, ◌<◌, ◌≤◌, true, false, List, [], ◌∷◌, ◌++◌, map, length, take, drop, Some, None, Option, sym, refl, ap, ◌∙◌, add-one, arith, MatchOption}
use Rattle.std.specs.List.{AllWithin, HoldsAt}
use Rattle.std.proofs.lemmas.List.{take_all, map-append}
use Rattle.std.proofs.lemmas.Bool.{cond-true, cond-false}
use Rattle.rules.specs.Ledger.{Slip, same_slip, struck, is_standing}
use Rattle.book.specs.declared.stubs.Stub.{Stub}
use Rattle.book.specs.Means.{slip_in}

module _ (s : Slip) where
  -- a slip or another
  abbrev pub Same : Stub → Type 0
  Same x = same_slip s (slip_in x) ≡ true

  abbrev pub Other : Stub → Type 0
  Other x = same_slip s (slip_in x) ≡ false

  none_before : (xs : List Stub) (n : ℕ) → n ≤ length xs → AllWithin Other xs 0 n → is_standing s (map slip_in (take n xs)) ≡ false
  none_before xs zero l h = refl
  none_before [] (suc n) l h = refl
  none_before (x ∷ xs) (suc n) l h = cond-false (same_slip s (slip_in x)) true (is_standing s (map slip_in (take n xs))) (h 0 x (omega arith) (omega arith)) ∙ none_before xs n (omega arith) (λ k d p q. h (suc k) d (omega arith) (omega arith))

  first_at : (xs : List Stub) (n : ℕ) → n < length xs → HoldsAt Same xs n → AllWithin Other xs 0 n → (is_standing s (map slip_in xs) ≡ true) × (struck s (map slip_in xs) ≡ map slip_in (take n xs) ++ map slip_in (drop (suc n) xs))
  first_at [] n l f h = absurd (omega arith)
  first_at (x ∷ xs) zero l f h = (cond-true (same_slip s (slip_in x)) true (is_standing s (map slip_in xs)) (f x), cond-true (same_slip s (slip_in x)) (map slip_in xs) (slip_in x ∷ struck s (map slip_in xs)) (f x))
  first_at (x ∷ xs) (suc n) l f h =
      let no : same_slip s (slip_in x) ≡ false = h 0 x (omega arith) (omega arith) in
      let r = first_at xs n (omega arith) f (λ k d p q. h (suc k) d (omega arith) (omega arith)) in (
        cond-false (same_slip s (slip_in x)) true (is_standing s (map slip_in xs)) no ∙ r.0,
        cond-false (same_slip s (slip_in x)) (map slip_in xs) (slip_in x ∷ struck s (map slip_in xs)) no ∙ ap (λ (v : List Slip). slip_in x ∷ v) r.1,
      )

  pub found : (xs : List Stub) (o : Option ℕ) → MatchOption o (AllWithin Other xs 0 (length xs)) (λ i. (i < length xs) × HoldsAt Same xs i × AllWithin Other xs 0 i) → MatchOption o (is_standing s (map slip_in xs) ≡ false) (λ k. (k < length xs) × (is_standing s (map slip_in xs) ≡ true) × (struck s (map slip_in xs) ≡ map slip_in (take k xs ++ drop (k + 1) xs)))
  found xs None h = ap (λ (v : List Stub). is_standing s (map slip_in v)) (sym (take_all (length xs) xs (omega arith))) ∙ none_before xs (length xs) (omega arith) h
  found xs (Some k) (l, f, h) =
      let r = first_at xs k l f h in
      (l, r.0, r.1 ∙ ap (λ (n : ℕ). map slip_in (take k xs) ++ map slip_in (drop n xs)) (sym (add-one k)) ∙ sym (map-append slip_in (take k xs) (drop (k + 1) xs)))
