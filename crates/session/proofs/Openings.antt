-- Opening needs that are worked out before they are entered. Assumes nothing.
use Rattle.std.proofs.Common.{◌≡◌, ℕ, suc, ◌+◌, ◌<◌, List, [], ◌∷◌, length, ℤ, sym, refl, ap, ◌∙◌, arith}
use Rattle.rules.specs.Ledger.{Client}
use Rattle.rules.specs.Causes.{opened}

same_from : (f g : ℕ → ℤ) (k : ℕ) (xs : List Client) → ((i : ℕ) → i < length xs → f (k + i) ≡ g (k + i)) → opened f k xs ≡ opened g k xs
same_from f g k [] h = refl
same_from f g k (x ∷ xs) h =
    let e : k + 0 ≡ k = omega arith in
    λ j. record { trader = x.trader; collateral = x.collateral; cash = x.cash; opening_need = (ap f (sym e) ∙ h 0 (omega arith) ∙ ap g e) j } ∷ same_from f g (k + 1) xs (λ i l. let q : k + 1 + i ≡ k + suc i = omega arith in ap f q ∙ h (suc i) (omega arith) ∙ ap g (sym q)) j

pub same_openings : (f g : ℕ → ℤ) (xs : List Client) → ((i : ℕ) → i < length xs → f i ≡ g i) → opened f 0 xs ≡ opened g 0 xs
same_openings f g xs h = same_from f g 0 xs (λ i l. let q : 0 + i ≡ i = omega arith in ap f q ∙ h i l ∙ ap g (sym q))
