-- Words of digits, and the number that reading one gives. Assumes nothing.
use Rattle.std.proofs.Common.{◌≡◌, ℕ, ◌-◌, ◌^◌, ◌<◌, ◌≤◌, min, Bool, true, false, cond, eqb, List, length, Some, None, Ok, Err, Result, sym, refl, ap, inl, inr, false-eqb, ◌∙◌, arith}
use Rattle.std.specs.Bool.{then_some}
use Rattle.std.specs.Char.{is_ascii_digit}
use Rattle.std.specs.List.{list_all}
use Rattle.std.specs.Result.{result_unwrap_or, OkIff}
use Rattle.std.specs.Str.{all_ascii_digits}
use Rattle.std.specs.Str.Parse.{digits_value, ParsesUnsigned}
use Rattle.std.proofs.lemmas.Str.Parse.{IsNumeralModel, numerals_by_value, tells_all_ascii_digits, parse_digits}
use Rattle.std.proofs.lemmas.Bool.{cases_lt}
use Rattle.console.specs.Numbers.{decimal, digits_number}

own : IsNumeralModel (λ ds. all_ascii_digits ds ≡ true) (digits_value 10)
own = numerals_by_value _ tells_all_ascii_digits

capped : {E : Type 0} (v : ℕ) (P : Type 0) (r : Result ℕ E) → P → OkIff r (P × (v < 2 ^ 64)) v → result_unwrap_or r (2 ^ 64 - 1) ≡ min v (2 ^ 64 - 1)
capped v P (Ok x) p (is, e) = omega (arith, is.1)
capped v P (Err x) p refused = let large : 2 ^ 64 ≤ v = elim (cases_lt v (2 ^ 64)) [ inl l ↦ absurd (refused (p, l)) | inr l ↦ l ] in omega arith

read_as : {E : Type 0} (w : List ℕ) (r : Result ℕ E) (t : Bool) → 0 < length w → ParsesUnsigned 64 10 w r → t ≡ all_ascii_digits w → then_some t (result_unwrap_or r (2 ^ 64 - 1)) ≡ cond t (Some (min (digits_value 10 w) (2 ^ 64 - 1))) None
read_as w r true some h digits = ap Some (capped (digits_value 10 w) (0 < length w) r some (parse_digits own 64 w r h (sym digits)))
read_as w r false some h digits = refl

pub decimal_read : {E : Type 0} (w : List ℕ) (r : Result ℕ E) → false ≡ eqb (length w) 0 → ParsesUnsigned 64 10 w r → then_some (list_all is_ascii_digit w) (result_unwrap_or r (2 ^ 64 - 1)) ≡ decimal w
unfolding digits_number
decimal_read w r some h =
    let more : 0 < length w = omega (arith, false-eqb _ 0 some) in
    read_as w r (list_all is_ascii_digit w) more h refl ∙ ap (λ (t : Bool). cond t None (digits_number w)) some
