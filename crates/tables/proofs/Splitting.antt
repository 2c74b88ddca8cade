-- The words of a text are its parts between spaces, but for the empty ones. Assumes nothing.
use Rattle.std.proofs.Common.{◌≡◌, ℕ, ◌+◌, ◌<◌, Bool, true, false, not, cond, eqb, List, [], ◌∷◌, ◌++◌, length, get_or, drop, ℤ, Some, None, Option, sym, refl, ap, ◌∙◌, append_assoc, append-nil, arith}
use Rattle.std.specs.List.{filter, slice_split, onto_first}
use Rattle.std.proofs.lemmas.Bool.{ne_eqb}
use Rattle.std.proofs.lemmas.List.{at_drop_more}
use Rattle.console.specs.Words as worded
use Rattle.console.specs.Words.{is_space, words_after, words}
use Rattle.tables.specs.Numbers.{signed_in, all_signed, before, after}

-- whether a part is a word
abbrev pub is_word : List ℕ → Bool
is_word w = not (eqb (length w) 0)

kept : (w : List ℕ) (ps : List (List ℕ)) → filter is_word (w ∷ ps) ≡ worded.before w (filter is_word ps)
kept [] ps = refl
kept (b ∷ w) ps =
    ap (λ (t : Bool). cond (not t) ((b ∷ w) ∷ filter is_word ps) (filter is_word ps)) (ne_eqb (length (b ∷ w)) 0 (λ e. absurd (omega arith)))

-- parts, of which the first has more before it
abbrev onto : List ℕ → List (List ℕ) → List (List ℕ)
onto w [] = w ∷ []
onto w (p ∷ ps) = (w ++ p) ∷ ps

onto_none : (ps : List (List ℕ)) → filter is_word (onto [] ps) ≡ filter is_word ps
onto_none [] = refl
onto_none (p ∷ ps) = refl

onto_more : (w : List ℕ) (b : ℕ) (ps : List (List ℕ)) → onto w (onto_first b ps) ≡ onto (w ++ b ∷ []) ps
onto_more w b [] = refl
onto_more w b (p ∷ ps) = ap (λ (v : List ℕ). v ∷ ps) (sym (append_assoc w (b ∷ []) p))

split_step : (w : List ℕ) (b : ℕ) (ps us vs : List (List ℕ)) (t : Bool) → us ≡ filter is_word (onto [] ps) → vs ≡ filter is_word (onto (w ++ b ∷ []) ps) → cond t (worded.before w us) vs ≡ filter is_word (onto w (cond t ([] ∷ ps) (onto_first b ps)))
split_step w b ps us vs true u v =
    ap (worded.before w) (u ∙ onto_none ps) ∙ sym (kept w ps) ∙ ap (λ (x : List ℕ). filter is_word (x ∷ ps)) (sym (append-nil w))
split_step w b ps us vs false u v = v ∙ ap (filter is_word) (sym (onto_more w b ps))

split_after : (w bs : List ℕ) → words_after w bs ≡ filter is_word (onto w (slice_split is_space bs))
split_after w [] = sym (kept w []) ∙ ap (λ (x : List ℕ). filter is_word (x ∷ [])) (sym (append-nil w))
split_after w (b ∷ bs) =
    split_step w b (slice_split is_space bs) _ _ (is_space b) (split_after [] bs) (split_after (w ++ b ∷ []) bs)

pub words_split : (bs : List ℕ) → filter is_word (slice_split (λ b. eqb b 32) bs) ≡ words bs
unfolding words
words_split bs = sym (split_after [] bs ∙ onto_none (slice_split is_space bs))

-- the numbers from the word on that comes next
pub read_next : (ws : List (List ℕ)) (n : ℕ) (w : List ℕ) → (n < length ws) × (w ≡ get_or ws n w) → all_signed (drop n ws) ≡ before (signed_in w) (all_signed (drop (n + 1) ws))
read_next ws n w h =
    at_drop_more all_signed ws n w h.0 ∙ ap (λ (x : List ℕ). before (signed_in x) (all_signed (drop (n + 1) ws))) (sym h.1)

pub read_more : (xs : List ℤ) (z : ℤ) (o : Option (List ℤ)) → after xs (before (Some z) o) ≡ after (xs ++ z ∷ []) o
read_more xs z None = refl
read_more xs z (Some ys) = ap Some (sym (append_assoc xs (z ∷ []) ys))
