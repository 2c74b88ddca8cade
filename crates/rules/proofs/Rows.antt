-- What an accepted call tells of the rows about it. Assumes nothing.
use Rattle.std.proofs.Common.{◌≡◌, ℕ, Bool, true, false, cond, Some, None, Option, sym, refl, arith}
use Rattle.std.proofs.lemmas.Bool.{false≢true}
use Rattle.rules.specs.Causes.{absent}

-- the first row does not hold, and the others refuse nothing
pub row_off : (b : Bool) (n : ℕ) (o : Option ℕ) → cond b (Some n) o ≡ None → (b ≡ false) × (o ≡ None)
row_off true n o e = let z : ◌≡◌ {A = ℕ} 0 1 = cc in absurd (omega arith)
row_off false n o e = (refl, e)

pub no_cause : (o : Option ℕ) → true ≡ absent o → o ≡ None
no_cause None e = refl
no_cause (Some n) e = absurd (false≢true (sym e))

-- the first row holds
pub hit : (b : Bool) (n : ℕ) (o : Option ℕ) → b ≡ true → cond b (Some n) o ≡ Some n
hit true n o e = refl
hit false n o e = absurd (false≢true e)

-- the first row does not hold, and the others come to z
pub skip : (b : Bool) (n : ℕ) (o z : Option ℕ) → b ≡ false → o ≡ z → cond b (Some n) o ≡ z
skip true n o z e h = absurd (false≢true (sym e))
skip false n o z e h = h
