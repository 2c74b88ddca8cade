-- Cutting spaces off the front of a text, and finding its first space. Assumes nothing.
use Rattle.std.proofs.Common.{◌≡◌, ℕ, ◌+◌, ◌<◌, ◌≤◌, Bool, true, false, cond, List, [], ◌∷◌, ◌++◌, length, get_or, drop, Some, None, Option, MatchOption, sym, refl, ap, ◌∙◌, one-add, lit<, arith}
use mathlib.Core.Bool.{beq}
use Rattle.std.specs.Option.{unwrap_or}
use Rattle.std.specs.Str.Pattern.{FindsChar, FindsCharPrefix, CutsPrefixes, IsTrimStartMatches, MatchBeginsAt}
use Rattle.std.proofs.lemmas.Bool.{ne_eqb, eq-eqb}
use Rattle.std.proofs.lemmas.List.Sums.{prefix_len_is}
use Rattle.std.proofs.lemmas.Str.{encode_ascii}
use Rattle.std.proofs.lemmas.Str.Pattern.{find_char, drop_at_char}
use Rattle.console.specs.Words.{is_space_or_not, run_length, unspaced}

-- a space more at the front changes nothing
unspaced_more : (bs : List ℕ) → unspaced bs ≡ unspaced (32 ∷ bs)
unfolding unspaced
unspaced_more bs = sym (rw one-add)

cut_spaces : (s ns r : List ℕ) → CutsPrefixes (FindsCharPrefix 32) s ns r → unspaced r ≡ unspaced s
cut_spaces s [] r e = ap unspaced e
cut_spaces s (n ∷ ns) r (m, cuts, found, e) =
    ap unspaced e ∙ unspaced_more (drop n m) ∙ ap unspaced (sym (drop_at_char 32 m 0 n found (lit< tt))) ∙ cut_spaces s ns m cuts

-- a text that begins with no space
unspaced_same : (r : List ℕ) → ((rest : List ℕ) → r ≡ 32 ∷ rest → ⊥) → r ≡ unspaced r
unfolding unspaced
unspaced_same [] h = refl
unspaced_same (b ∷ bs) h = sym (ap (λ (t : Bool). drop (cond (beq t true) (1 + run_length true bs) 0) (b ∷ bs)) (ne_eqb b 32 (λ e. h bs (ap (λ (x : ℕ). x ∷ bs) e))))

pub trimmed : (s r : List ℕ) → IsTrimStartMatches (FindsCharPrefix 32) s r → r ≡ unspaced s
trimmed s r ((ns, cuts), (None, none, end)) = unspaced_same r (λ rest e. none rest (e ∙ ap (λ (x : List ℕ). x ++ rest) (sym (encode_ascii 32 (lit< tt))))) ∙ cut_spaces s ns r cuts
trimmed s r ((ns, cuts), (Some n, found, end)) = absurd (omega (arith, found.ends))

-- the first word is as long as the bytes before a space, or up to the end
first_run : (s : List ℕ) (k : ℕ) → k ≤ length s → ((i : ℕ) → i < k → get_or s i 0 ≡ 32 → ⊥) → (k < length s → get_or s k 0 ≡ 32) → k ≡ run_length false s
first_run s k within dark space =
    sym (prefix_len_is (is_space_or_not false) s k 0 within (λ i l. ap (λ (t : Bool). beq t false) (ne_eqb (get_or s i 0) 32 (dark i l))) (λ l. ap (λ (t : Bool). beq t false) (eq-eqb (get_or s k 0) 32 (space l))))

space_ends : (s : List ℕ) (o : Option ℕ) → MatchOption o ((i : ℕ) → i < length s → get_or s i 0 ≡ 32 → ⊥) (λ k. (k < length s) × (get_or s k 0 ≡ 32) × ((i : ℕ) → i < k → get_or s i 0 ≡ 32 → ⊥)) → unwrap_or o (length s) ≡ run_length false s
space_ends s None dark = first_run s (length s) (omega arith) dark (λ l. absurd (omega arith))
space_ends s (Some k) (inside, space, dark) = first_run s k (omega arith) dark (λ l. space)

pub first_space : (s : List ℕ) (o : Option ℕ) → MatchOption o (FindsChar 32 s None) (MatchBeginsAt (FindsChar 32) s) → unwrap_or o (length s) ≡ run_length false s
first_space s o h = space_ends s o (find_char 32 s o h (lit< tt))
