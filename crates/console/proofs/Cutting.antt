-- A line's words are its first word and the words of what comes after it. Assumes nothing.
use Rattle.std.proofs.Common.{◌≡◌, ℕ, suc, ◌+◌, Bool, true, false, cond, List, [], ◌∷◌, ◌++◌, length, take, drop, Some, None, sym, refl, ap, ◌∙◌, subst, append_assoc, append-nil, one-add, arith}
use mathlib.Core.Bool.{beq}
use Rattle.std.proofs.lemmas.Bool.{cond-true}
use Rattle.console.specs.Words.{is_space, run_length, unspaced, before, words_after, words, cut_word, split_word, words_of_cut}

-- spaces at the front are passed over
skip_step : (b : ℕ) (bs : List ℕ) (t : Bool) → is_space b ≡ t → words_after [] (drop (run_length true bs) bs) ≡ words_after [] bs → words_after [] (drop (cond (beq t true) (1 + run_length true bs) 0) (b ∷ bs)) ≡ words_after [] (b ∷ bs)
skip_step b bs true e ih = rw one-add (ih ∙ sym (cond-true (is_space b) _ _ e))
skip_step b bs false e ih = refl

words_skip : (bs : List ℕ) → words_after [] (drop (run_length true bs) bs) ≡ words_after [] bs
words_skip [] = refl
words_skip (b ∷ bs) = skip_step b bs (is_space b) refl (words_skip bs)

-- the bytes up to a space belong to the word that has begun
until_step : (w : List ℕ) (b : ℕ) (bs : List ℕ) (t : Bool) → is_space b ≡ t → words_after (w ++ b ∷ []) bs ≡ before ((w ++ b ∷ []) ++ take (run_length false bs) bs) (words_after [] (drop (run_length false bs) bs)) → cond t (before w (words_after [] bs)) (words_after (w ++ b ∷ []) bs) ≡ before (w ++ take (cond (beq t false) (1 + run_length false bs) 0) (b ∷ bs)) (words_after [] (drop (cond (beq t false) (1 + run_length false bs) 0) (b ∷ bs)))
until_step w b bs true e ih =
    ap (λ v. before v (words_after [] bs)) (sym (append-nil w)) ∙ ap (before (w ++ [])) (sym (cond-true (is_space b) _ _ e))
until_step w b bs false e ih =
    rw one-add (ih ∙ ap (λ v. before v (words_after [] (drop (run_length false bs) bs))) (append_assoc w (b ∷ []) (take (run_length false bs) bs)))

words_until : (w bs : List ℕ) → words_after w bs ≡ before (w ++ take (run_length false bs) bs) (words_after [] (drop (run_length false bs) bs))
words_until w [] = ap (λ v. before v []) (sym (append-nil w))
words_until w (b ∷ bs) = until_step w b bs (is_space b) refl (words_until (w ++ b ∷ []) bs)

abbrev Cuts : List ℕ → Type 0
Cuts bs = words bs ≡ words_of_cut (split_word bs)

-- a word that begins with a byte that is no space
begun : (b : ℕ) (bs : List ℕ) → is_space b ≡ false → run_length false (b ∷ bs) ≡ suc (run_length false bs)
begun b bs e = ap (λ (t : Bool). cond (beq t false) (1 + run_length false bs) 0) e ∙ one-add (run_length false bs)

cuts_begun : (b : ℕ) (bs : List ℕ) → is_space b ≡ false → Cuts (b ∷ bs)
unfolding words
cuts_begun b bs e =
    let n = begun b bs e in
    let Until : ℕ → Type 0 = λ k. words_after [] (b ∷ bs) ≡ before (take k (b ∷ bs)) (words_after [] (drop k (b ∷ bs))) in
    let Cut : ℕ → Type 0 = λ k. words_after [] (b ∷ bs) ≡ words_of_cut (cut_word (take k (b ∷ bs)) (drop k (b ∷ bs))) in
    subst Cut (sym n) (subst Until n (words_until [] (b ∷ bs)))

cuts_at : (b : ℕ) (bs : List ℕ) (t : Bool) → is_space b ≡ t → cond (beq t true) (1 + run_length true bs) 0 ≡ 0 → Cuts (b ∷ bs)
cuts_at b bs true e h = absurd (omega arith)
cuts_at b bs false e h = cuts_begun b bs e

-- a text that begins with no space is its first word and what comes after it
pub cuts : (bs : List ℕ) → run_length true bs ≡ 0 → Cuts bs
unfolding words
cuts [] h = refl
cuts (b ∷ bs) h = cuts_at b bs (is_space b) refl h

-- without the spaces at its front a line begins with no space, and has the same words
dark_step : (b : ℕ) (bs : List ℕ) (t : Bool) → is_space b ≡ t → run_length true (drop (run_length true bs) bs) ≡ 0 → run_length true (drop (cond (beq t true) (1 + run_length true bs) 0) (b ∷ bs)) ≡ 0
dark_step b bs true e ih = rw one-add ih
dark_step b bs false e ih = ap (λ (t : Bool). cond (beq t true) (1 + run_length true bs) 0) e

dark : (bs : List ℕ) → run_length true (drop (run_length true bs) bs) ≡ 0
dark [] = refl
dark (b ∷ bs) = dark_step b bs (is_space b) refl (dark bs)

pub unspaced_dark : (bs : List ℕ) → run_length true (unspaced bs) ≡ 0
unfolding unspaced
unspaced_dark bs = dark bs

pub words_unspaced : (bs : List ℕ) → words (unspaced bs) ≡ words bs
unfolding words unspaced
words_unspaced bs = words_skip bs

-- a text that is empty has no first word; another that begins with no space has one
pub cut_empty : (bs : List ℕ) → length bs ≡ 0 → None ≡ split_word bs
cut_empty [] e = refl
cut_empty (b ∷ bs) e = absurd (omega arith)

cut_at : (b : ℕ) (bs : List ℕ) (t : Bool) → is_space b ≡ t → cond (beq t true) (1 + run_length true bs) 0 ≡ 0 → Some (take (run_length false (b ∷ bs)) (b ∷ bs), drop (run_length false (b ∷ bs)) (b ∷ bs)) ≡ split_word (b ∷ bs)
cut_at b bs true e h = absurd (omega arith)
cut_at b bs false e h =
    let Cut : ℕ → Type 0 = λ k. Some (take k (b ∷ bs), drop k (b ∷ bs)) ≡ cut_word (take k (b ∷ bs)) (drop k (b ∷ bs)) in
    subst Cut (sym (begun b bs e)) refl

pub cut_some : (bs : List ℕ) → run_length true bs ≡ 0 → (length bs ≡ 0 → ⊥) → Some (take (run_length false bs) bs, drop (run_length false bs) bs) ≡ split_word bs
cut_some [] h some = absurd (some refl)
cut_some (b ∷ bs) h some = cut_at b bs (is_space b) refl h
