-- The first record with a number.
use Rattle.std.proofs.Common.{◌≡◌, ℕ, zero, suc, ◌<◌, ◌≤◌, List, Some, None, Option, sym, refl, ap, ◌∙◌, subst, ⊎_elim, arith, MatchOption}
use Rattle.std.proofs.lemmas.Bool.{cases_eq}
use Rattle.std.proofs.lemmas.Bool.Decides.{nat_tests}
use Rattle.layout.specs.Fields.{contracts, number}
use Rattle.inspection.proofs.Accepted.{Passes, small_number}
use Rattle.sheets.specs.Sheets.{find}

module _ (b : List ℕ) (c : ℕ) where
  -- one record more, where none before had the number; a record that was found stays
  miss : (n : ℕ) → find b c n ≡ None → (number b n ≡ c → ⊥) → find b c (suc n) ≡ None
  unfolding find
  miss n e ne = grind (arith, nat_tests)

  hit : (n : ℕ) → find b c n ≡ None → number b n ≡ c → find b c (suc n) ≡ Some n
  unfolding find
  hit n e is = grind (arith, nat_tests)

  kept : (n i : ℕ) → find b c n ≡ Some i → find b c (suc n) ≡ Some i
  unfolding find
  kept n i e = grind arith

  stays : (j i n : ℕ) → find b c j ≡ Some i → j ≤ n → find b c n ≡ Some i
  stays j i zero e l = subst (λ (x : ℕ). find b c x ≡ Some i) (omega arith) e
  stays j i (suc n) e l =
      ⊎_elim
      (λ (q : j ≡ suc n). subst (λ (x : ℕ). find b c x ≡ Some i) q e)
      (λ (ne : j ≡ suc n → ⊥). kept n i (stays j i n e (omega (arith, ne))))
      (cases_eq j (suc n))

  none_before : (n : ℕ) → ((k : ℕ) → k < n → number b k ≡ c → ⊥) → find b c n ≡ None
  unfolding find
  none_before zero h = refl
  none_before (suc n) h = miss n (none_before n (λ k l. h k (omega arith))) (h n (omega arith))

  -- what a search of the first n records finds
  pub first_is : (n : ℕ) (r : Option ℕ) → MatchOption r ((k : ℕ) → 0 ≤ k → k < n → number b k ≡ c → ⊥) (λ i. (0 ≤ i) × (i < n) × (number b i ≡ c) × ((k : ℕ) → 0 ≤ k → k < i → number b k ≡ c → ⊥)) → r ≡ find b c n
  first_is n None h = sym (none_before n (λ k l. h k (omega arith) l))
  first_is n (Some i) h =
      let before = none_before i (λ k l. h.3 k (omega arith) l) in
      sym (stays (suc i) i n (hit i before h.2) (omega (arith, h.1)))

  -- a record that was found is one of those that were searched, and has the number
  pub found : (n i : ℕ) → find b c n ≡ Some i → (i < n) × (number b i ≡ c)
  unfolding find
  found zero i e = cc
  found (suc n) i e = go (find b c n) refl (found n)
    where
      go : (o : Option ℕ) → find b c n ≡ o → ((h : ℕ) → find b c n ≡ Some h → (h < n) × (number b h ≡ c)) → (i < suc n) × (number b i ≡ c)
      go (Some h) f below =
          let same : Some h ≡ Some i = sym (kept n h f) ∙ e in
          let q : h ≡ i = cc in
          let r = below h f in
          (omega (arith, r.0), ap (number b) (sym q) ∙ r.1)
      go None f below =
          ⊎_elim
          (λ (t : number b n ≡ c).
          let same : Some n ≡ Some i = sym (hit n f t) ∙ e in
          let q : n ≡ i = cc in
          (omega arith, ap (number b) (sym q) ∙ t))
          (λ (ne : number b n ≡ c → ⊥). let same : None ≡ Some i = sym (miss n f ne) ∙ e in cc)
          (cases_eq (number b n) c)

-- in an accepted file no contract above 255 is found
pub none_above : (b : List ℕ) → Passes b → (c : ℕ) → 256 ≤ c → find b c (contracts b) ≡ None
none_above b p c l = none_before b c (contracts b) (λ k h is. omega (arith, is, small_number b p k h))
