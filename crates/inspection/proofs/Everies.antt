-- A test at each number below n, and what `all` over the numbers below n answers.
use Rattle.std.proofs.Common.{◌≡◌, ℕ, zero, suc, ◌+◌, ◌<◌, Bool, true, false, ◌&&◌, List, Option, refl, sym, ap, ◌∙◌, ⊎_elim, arith, MatchOption}
use Rattle.std.proofs.Math.Bool.{and_assoc}
use Rattle.std.proofs.lemmas.Bool.{and_parts, cases_eq}
use denote.Param.Members.{Mut}
use Rattle.std.specs.Fn.{Called}
use Rattle.std.specs.List.{FoldsTo, list_all, range_with_len}
use Rattle.std.specs.Iterator.{YieldsThen}
use Rattle.std.specs.declared.ops.Range.{Range}
use Rattle.std.proofs.iter.Yields.{nat_range_steps}
use Rattle.std.proofs.lemmas.Iterator.{YieldsList-from_range}
use Rattle.std.proofs.lemmas.Iterator.Search.{all_from_yields_List}
use Rattle.inspection.specs.Tests.{every}

pub every_at : (p : ℕ → Bool) (n : ℕ) → every n p ≡ true → (k : ℕ) → k < n → p k ≡ true
unfolding every
every_at p zero h k l = absurd (omega arith)
every_at p (suc n) h k l =
    let hs = and_parts (every n p) (p n) h in
    ⊎_elim (λ (e : k ≡ n). rw e hs.1) (λ (ne : k ≡ n → ⊥). every_at p n hs.0 k (omega (arith, ne))) (cases_eq k n)

-- one number more
all_more : (p : ℕ → Bool) (a n : ℕ) → list_all p (range_with_len a (suc n)) ≡ (list_all p (range_with_len a n) && p (a + n))
all_more p a zero = let q : a + 0 ≡ a = omega arith in cases (p a) ∙ ap p (sym q)
  where
    cases : (b : Bool) → (b && true) ≡ b
    cases true = refl
    cases false = refl
all_more p a (suc n) =
    let q : a + 1 + n ≡ a + suc n = omega arith in
    ap (λ (t : Bool). p a && t) (all_more p (a + 1) n ∙ ap (λ (k : ℕ). list_all p (range_with_len (a + 1) n) && p k) q)
    ∙ sym (and_assoc (p a) (list_all p (range_with_len (a + 1) n)) (p (a + suc n)))

all_every : (p : ℕ → Bool) (n : ℕ) → list_all p (range_with_len 0 n) ≡ every n p
unfolding every
all_every p zero = refl
all_every p (suc n) =
    let q : 0 + n ≡ n = omega arith in
    all_more p 0 n ∙ (λ i. all_every p n i && p (q i))

-- `all` over the numbers below n answers whether the test passes at each of them
pub all_is : {F : Type 0} {g : Mut F (ℕ × Unit {0}) Bool} {s : Range ℕ} (p : ℕ → Bool) (n m : ℕ) (u : Range ℕ) (f : F) (r : Bool) → s ≡ record { start = 0; end = n } → n ≡ m → (xs : List ℕ) × (o : Option ℕ) × (j : F) × YieldsThen nat_range_steps s xs o u × FoldsTo (λ p x q. Called g p (x, tt) true q) f xs j × MatchOption o (r ≡ true) (λ x. (r ≡ false) × ((h : F) × Called g j (x, tt) false h)) → ((x : ℕ) (b : Bool) (q : F) → Called g f (x, tt) b q → (q ≡ f) × (b ≡ p x)) → r ≡ every m p
all_is p n m u f r e same ran calls =
    all_from_yields_List p u f r ran (YieldsList-from_range 0 n n e (omega arith)) calls ∙ all_every p n ∙ ap (λ (k : ℕ). every k p) same
