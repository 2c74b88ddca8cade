-- The words of a line, which spaces separate. Assumes nothing.
use Rattle.std.specs.Prelude.{ℕ, Bool, true, false, cond, List, [], ◌∷◌, ◌++◌, take, drop, Some, None, Option, ◌==◌}
use Rattle.std.specs.Bool.{beq}
use Rattle.std.specs.List.{prefix_len}

abbrev pub is_space : ℕ → Bool
is_space b = b == 32

-- whether a byte is a space, or where t is false whether it is none
abbrev pub is_space_or_not : Bool → ℕ → Bool
is_space_or_not t b = beq (is_space b) t

-- how many such bytes stand at the front of a line
abbrev pub run_length : Bool → List ℕ → ℕ
run_length t bs = prefix_len (is_space_or_not t) bs

-- a line without the spaces at its front
unfoldable pub unspaced : List ℕ → List ℕ
unspaced bs = drop (run_length true bs) bs

-- a word before others, unless it is empty
abbrev pub before : List ℕ → List (List ℕ) → List (List ℕ)
before [] ws = ws
before (b ∷ w) ws = (b ∷ w) ∷ ws

-- the words of a line, after the part of a word that comes before it: the longest runs of bytes without a space
abbrev pub words_after : List ℕ → List ℕ → List (List ℕ)
words_after w [] = before w []
words_after w (b ∷ bs) = cond (is_space b) (before w (words_after [] bs)) (words_after (w ++ b ∷ []) bs)

unfoldable pub words : List ℕ → List (List ℕ)
words bs = words_after [] bs

-- a word and what comes after it, unless it is empty
abbrev pub cut_word : List ℕ → List ℕ → Option (List ℕ × List ℕ)
cut_word [] rest = None
cut_word (b ∷ w) rest = Some (b ∷ w, rest)

-- a text cut where its first space is
abbrev pub split_word : List ℕ → Option (List ℕ × List ℕ)
split_word bs = cut_word (take (run_length false bs) bs) (drop (run_length false bs) bs)

-- the first word of a line and what comes after it, if there is a word
abbrev pub cut : List ℕ → Option (List ℕ × List ℕ)
cut bs = split_word (unspaced bs)

-- the words of a line that was cut
abbrev pub words_of_cut : Option (List ℕ × List ℕ) → List (List ℕ)
words_of_cut None = []
words_of_cut (Some p) = p.0 ∷ words p.1

-- whether there are no words, and the only one
abbrev pub none : List (List ℕ) → Bool
none [] = true
none (w ∷ ws) = false

abbrev pub only : List (List ℕ) → Option (List ℕ)
only [] = None
only (w ∷ []) = Some w
only (w ∷ v ∷ ws) = None
