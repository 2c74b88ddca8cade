-- What reading a word as a number of 64 bits gives. Assumes nothing.
use Rattle.std.proofs.Common.{◌≡◌, ℕ, ◌+◌, ◌^◌, ◌<◌, ◌≤◌, Bool, true, false, cond, ◌&&◌, eqb, ltb, List, [], ◌∷◌, length, get_or, drop, ℤ, pos, neg_ℤ, Some, None, Ok, Err, Decides, Option, Result, sym, refl, ap, ◌∙◌, inl, inr, arith, w64}
use Rattle.std.specs.Result.{OkIff, result_ok}
use Rattle.std.specs.Option.{option_map}
use Rattle.std.specs.Str.Parse.{digits_value, ParsesUnsigned, ParsesSigned}
use Rattle.std.specs.Char.{is_ascii_digit}
use Rattle.std.specs.Str.{all_ascii_digits}
use Rattle.std.proofs.lemmas.Str.Parse.{IsNumeralModel, numerals_by_value, tells_all_ascii_digits, parse_plain, parse_signed_minus, parse_signed_plain}
use Rattle.std.proofs.lemmas.Bool.{both_ways, cond-true, cond-false, eq-eqb, ne_eqb, cases_eq}
use Rattle.std.proofs.lemmas.Bool.Decides.{Decides-and, Decides-like, Decides-ltb}
use Rattle.commands.specs.Numbers.{numeral, whole, amount}

own : IsNumeralModel (λ ds. all_ascii_digits ds ≡ true) (digits_value 10)
own = numerals_by_value _ tells_all_ascii_digits

read : {T E : Type 0} (r : Result T E) (P : Type 0) (v : T) (t : Bool) → OkIff r P v → Decides t P → result_ok r ≡ cond t (Some v) None
read (Ok x) P v true h d = ap (λ y. Some y) h.1
read (Ok x) P v false h d = absurd (both_ways false refl (d.1 h.0))
read (Err e) P v true h d = absurd (h (d.0 refl))
read (Err e) P v false h d = refl

tested : (w : List ℕ) (limit : ℕ) → Decides ((all_ascii_digits w && ltb 0 (length w)) && ltb (digits_value 10 w) limit) ((all_ascii_digits w ≡ true) × (0 < length w) × (digits_value 10 w < limit))
tested w limit =
    Decides-like _ (λ p. (p.0.0, p.0.1, p.1)) (λ p. ((p.0, p.1), p.2)) (Decides-and _ _ (Decides-and _ _ ((λ e. e), (λ e. e)) (Decides-ltb 0 (length w))) (Decides-ltb (digits_value 10 w) limit))

mapped_cond : {A B : Type 0} (f : A → B) (t : Bool) (x : A) → option_map f (cond t (Some x) None) ≡ cond t (Some (f x)) None
mapped_cond f true x = refl
mapped_cond f false x = refl

-- no number begins with a plus
plus_none : (w : List ℕ) (limit : ℕ) → get_or w 0 0 ≡ 43 → numeral limit w ≡ None
unfolding numeral
plus_none [] limit e = absurd (omega arith)
plus_none (b ∷ w) limit e = ap (λ (t : Bool). cond (((t && all_ascii_digits w) && ltb 0 (length (b ∷ w))) && ltb (digits_value 10 (b ∷ w)) limit) (Some (digits_value 10 (b ∷ w))) None) (ap is_ascii_digit e)

pub whole_read : {E : Type 0} (w : List ℕ) (o : Option ℕ) → (get_or w 0 0 ≡ 43 → o ≡ None) → ((get_or w 0 0 ≡ 43 → ⊥) → (r : Result ℕ E) × ParsesUnsigned 64 10 w r × (o ≡ result_ok r)) → o ≡ whole w
unfolding numeral
whole_read w o plus plain =
    elim (cases_eq (get_or w 0 0) 43) [
      | inl e ↦ plus e ∙ sym (plus_none w (2 ^ 64) e)
      | inr n ↦ let h = plain n in h.2 ∙ read h.0 _ _ _ (parse_plain own 64 w h.0 h.1 n) (tested w (2 ^ 64))
    ]

amount_plus : (w : List ℕ) → get_or w 0 0 ≡ 43 → None ≡ amount w
amount_plus w e =
    let negative : eqb (get_or w 0 0) 45 ≡ false = ne_eqb (get_or w 0 0) 45 (λ m. omega arith) in
    sym (cond-false (eqb (get_or w 0 0) 45) _ _ negative ∙ ap (option_map (λ n. pos n)) (plus_none w (2 ^ 63) e))

amount_minus : {E : Type 0} (w : List ℕ) (r : Result ℤ E) → get_or w 0 0 ≡ 45 → ParsesSigned w64 10 w r → result_ok r ≡ amount w
unfolding numeral
amount_minus w r minus h =
    let digits = tested (drop 1 w) (2 ^ 63 + 1) in
    let within : Decides _ ((all_ascii_digits (drop 1 w) ≡ true) × (0 < length (drop 1 w)) × (digits_value 10 (drop 1 w) ≤ 2 ^ 63)) = Decides-like _ (λ p. (p.0, p.1, omega (arith, p.2))) (λ p. (p.0, p.1, omega (arith, p.2))) digits in
    read r _ _ _ (parse_signed_minus own w64 w r h minus) within
    ∙ sym (mapped_cond (λ n. neg_ℤ (pos n)) _ (digits_value 10 (drop 1 w)))
    ∙ sym (cond-true (eqb (get_or w 0 0) 45) _ _ (eq-eqb (get_or w 0 0) 45 minus))

amount_plain : {E : Type 0} (w : List ℕ) (r : Result ℤ E) → (get_or w 0 0 ≡ 43 → ⊥) → (get_or w 0 0 ≡ 45 → ⊥) → ParsesSigned w64 10 w r → result_ok r ≡ amount w
unfolding numeral
amount_plain w r plain digits h =
    read r _ _ _ (parse_signed_plain own w64 w r h plain digits) (tested w (2 ^ 63))
    ∙ sym (mapped_cond (λ n. pos n) _ (digits_value 10 w))
    ∙ sym (cond-false (eqb (get_or w 0 0) 45) _ _ (ne_eqb (get_or w 0 0) 45 digits))

pub amount_read : {E : Type 0} (w : List ℕ) (o : Option ℤ) → (get_or w 0 0 ≡ 43 → o ≡ None) → ((get_or w 0 0 ≡ 43 → ⊥) → (r : Result ℤ E) × ParsesSigned w64 10 w r × (o ≡ result_ok r)) → o ≡ amount w
amount_read w o plus plain =
    elim (cases_eq (get_or w 0 0) 43) [
      | inl e ↦ plus e ∙ amount_plus w e
      | inr n ↦ let h = plain n in h.2 ∙ elim (cases_eq (get_or w 0 0) 45) [ inl minus ↦ amount_minus w h.0 minus h.1 | inr digits ↦ amount_plain w h.0 n digits h.1 ]
    ]
