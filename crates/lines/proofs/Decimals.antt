-- The decimal digits of numbers, the last one at the end. Assumes nothing.
use Rattle.std.proofs.Common.{◌≡◌, ℕ, ◌+◌, ◌/◌, ◌%◌, ◌^◌, ◌<◌, ◌≤◌, Bool, List, [], ◌∷◌, ◌++◌, ℤ, pos, negsuc, nat_abs, decimal, sym, refl, ap, ◌∙◌, arith, w64, SFits, to_z, of_z}
use lib.Signed.{lt_z}
use Rattle.std.specs.Fmt.{sign_text, signed_decimal}
use Rattle.std.proofs.lemmas.Fmt.{decimal_digit, decimal_step_wide}
use Rattle.std.proofs.lemmas.Bool.{le-ltb}
use Rattle.std.proofs.lemmas.Int.{to_z-of_z}
use Rattle.lines.specs.Lined.{followed}
use Rattle.lines.proofs.Room.{then}

-- a number of one digit, and one more digit behind the others
pub one_digit : (a c : List ℕ) (n x : ℕ) → n < 10 → x ≡ 48 + n → c ≡ followed a (x ∷ []) → c ≡ followed a (decimal n)
one_digit a c n x l is e = e ∙ ap (followed a) (ap (λ (d : ℕ). d ∷ []) is ∙ sym (decimal_digit n l))

pub one_more : (a b c : List ℕ) (n m x : ℕ) → 10 ≤ n → n < 10 ^ 64 → m ≡ n / 10 → x ≡ 48 + n % 10 → b ≡ followed a (decimal m) → c ≡ followed b (x ∷ []) → c ≡ followed a (decimal n)
one_more a b c n m x l small front is e f =
    then a b c (decimal m) (x ∷ []) e f ∙ ap (followed a) ((λ i. decimal (front i) ++ (is i ∷ [])) ∙ sym (decimal_step_wide n l small))

-- the sign and then the digits
signed_is : (z : ℤ) → sign_text (lt_z z (pos 0)) ++ decimal (nat_abs z) ≡ signed_decimal z
signed_is (pos n) = ap (λ (t : Bool). sign_text t ++ decimal n) (le-ltb n 0 (omega arith))
signed_is (negsuc n) = refl

pub sign_first : (a b c : List ℕ) (z y : ℤ) (m : ℕ) → y ≡ z → b ≡ followed a (sign_text (lt_z y (pos 0))) → m ≡ nat_abs y → c ≡ followed b (decimal m) → c ≡ followed a (signed_decimal z)
sign_first a b c z y m same sign is e =
    then a b c _ _ sign e ∙ ap (followed a) (ap (λ (k : ℕ). sign_text (lt_z y (pos 0)) ++ decimal k) is ∙ signed_is y ∙ ap signed_decimal same)

-- a text and then a number that was handed on as 64 bits
pub text_signed : (a c s : List ℕ) (z : ℤ) → SFits w64 z → c ≡ followed a (s ++ signed_decimal (to_z w64 (of_z w64 z))) → c ≡ followed a (s ++ signed_decimal z)
text_signed a c s z fits e = e ∙ ap (λ (y : ℤ). followed a (s ++ signed_decimal y)) (to_z-of_z w64 z fits)
