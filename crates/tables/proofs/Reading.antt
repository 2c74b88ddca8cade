-- Words without a sign. Assumes nothing.
use Rattle.std.proofs.Common.{◌≡◌, ℕ, false, eqb, List, [], ◌∷◌, get_or, refl, ap}
use Rattle.std.proofs.lemmas.Bool.{cond-false, ne_eqb}
use Rattle.tables.specs.Numbers.{whole_in, signed_in}

no_sign : (w : List ℕ) → ((rest : List ℕ) → w ≡ 45 ∷ rest → ⊥) → eqb (get_or w 0 0) 45 ≡ false
no_sign [] h = refl
no_sign (b ∷ w) h = ne_eqb b 45 (λ e. h w (ap (λ x. x ∷ w) e))

pub signed_plain : (w : List ℕ) → ((rest : List ℕ) → w ≡ 45 ∷ rest → ⊥) → signed_in w ≡ whole_in w
signed_plain w h = cond-false _ _ _ (no_sign w h)
