-- One margin more on a line. Assumes nothing.
use Rattle.std.proofs.Common.{◌≡◌, ℕ, ◌+◌, ◌<◌, List, [], ◌∷◌, ◌++◌, length, get_or, take, ℤ, codes, sym, ap, ◌∙◌, append_assoc, append-nil}
use Rattle.std.specs.Fmt.{signed_decimal}
use Rattle.std.proofs.lemmas.List.{take_more}
use Rattle.lines.specs.Lined.{followed}
use Rattle.lines.proofs.Room.{then, same_text}
use Rattle.replies.specs.Statements.{margins_text}

margins_push : (ms : List ℤ) (m : ℤ) → margins_text ms ++ (codes " " ++ signed_decimal m) ≡ margins_text (ms ++ m ∷ [])
unfolding margins_text
margins_push [] m = sym (append-nil (codes " " ++ signed_decimal m))
margins_push (x ∷ ms) m = append_assoc (codes " " ++ signed_decimal x) (margins_text ms) (codes " " ++ signed_decimal m) ∙ ap (λ (l : List ℕ). (codes " " ++ signed_decimal x) ++ l) (margins_push ms m)

pub margins_more : (a b c : List ℕ) (ms : List ℤ) (i : ℕ) (d : ℤ) → i < length ms → b ≡ followed a (margins_text (take i ms)) → c ≡ followed b (codes " " ++ signed_decimal (get_or ms i d)) → c ≡ followed a (margins_text (take (i + 1) ms))
margins_more a b c ms i d l e f =
    same_text a c _ _ (margins_push (take i ms) (get_or ms i d) ∙ ap margins_text (sym (take_more ms i d l))) (then a b c _ (codes " " ++ signed_decimal (get_or ms i d)) e f)
