-- Text that is cut at the room of a line. Assumes nothing.
use Rattle.std.proofs.Common.{◌≡◌, ℕ, zero, suc, ◌+◌, ◌<◌, ◌≤◌, List, [], ◌∷◌, ◌++◌, length, get_or, take, sym, refl, ap, ◌∙◌, append_assoc, append-nil, inl, inr, arith}
use Rattle.std.proofs.lemmas.List.{length-append, take_all, take-append-le, take_more}
use Rattle.std.proofs.lemmas.Bool.{cases_lt}
use Rattle.cells.proofs.Rowed.{length_listed}
use Rattle.lines.specs.declared.Line.{Line}
use Rattle.lines.specs.Lined.{room, written, followed}

-- no line holds more than it has room for
pub within : (l : Line) → length (written l) ≤ room
within l = omega (arith, length_listed l.bytes, l.bytes.within)

-- what is cut off changes nothing of what is cut off later
pub take_cut : (n : ℕ) (xs ys : List ℕ) → take n (take n xs ++ ys) ≡ take n (xs ++ ys)
take_cut zero xs ys = refl
take_cut (suc n) [] ys = refl
take_cut (suc n) (x ∷ xs) ys = ap (λ (l : List ℕ). x ∷ l) (take_cut n xs ys)

-- one text after another
pub followed_by : (a s t : List ℕ) → followed (followed a s) t ≡ followed a (s ++ t)
unfolding followed
followed_by a s t = take_cut room (a ++ s) t ∙ ap (take room) (append_assoc a s t)

pub then : (a b c s t : List ℕ) → b ≡ followed a s → c ≡ followed b t → c ≡ followed a (s ++ t)
then a b c s t e f = f ∙ ap (λ (l : List ℕ). followed l t) e ∙ followed_by a s t

-- the same text in other words
pub same_text : (a c s t : List ℕ) → s ≡ t → c ≡ followed a s → c ≡ followed a t
same_text a c s t is e = e ∙ ap (followed a) is

-- nothing is written
pub followed_none : (l : Line) → written l ≡ followed (written l) []
unfolding followed
followed_none l = sym (ap (take room) (append-nil (written l)) ∙ take_all room (written l) (within l))

-- a byte is put behind a text, if there is room
pub cut_byte : (xs c : List ℕ) (b : ℕ) → length xs ≤ room → (length xs < room → c ≡ xs ++ b ∷ []) → (room ≤ length xs → c ≡ xs) → c ≡ take room (xs ++ b ∷ [])
cut_byte xs c b fits f g = elim (cases_lt (length xs) room) [
  | inl h ↦ f h ∙ sym (take_all room (xs ++ b ∷ []) (omega (arith, length-append xs (b ∷ []))))
  | inr h ↦ g h ∙ sym (take-append-le room xs (b ∷ []) h ∙ take_all room xs fits)
]

-- and so it is written
pub followed_byte : (l : Line) (b : ℕ) (c : List ℕ) → (length (written l) < room → c ≡ written l ++ b ∷ []) → (room ≤ length (written l) → c ≡ written l) → c ≡ followed (written l) (b ∷ [])
unfolding followed
followed_byte l b c = cut_byte (written l) c b (within l)

-- one byte more of a text
pub followed_more : (a b c bs : List ℕ) (i : ℕ) → i < length bs → b ≡ followed a (take i bs) → c ≡ followed b (get_or bs i 0 ∷ []) → c ≡ followed a (take (i + 1) bs)
followed_more a b c bs i l e f = then a b c _ _ e f ∙ ap (followed a) (sym (take_more bs i 0 l))
