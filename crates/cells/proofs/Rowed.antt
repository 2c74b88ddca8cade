-- Rows at the front of a longer list. Assumes nothing.
use borrow.Rule.Slice.PartMut.{put_mid}
use Rattle.std.proofs.Common.{◌≡◌, ℕ, ◌+◌, ◌-◌, ◌<◌, ◌≤◌, min, List, ◌++◌, length, get_or, take, drop, set, sym, ap, ◌∙◌, subst, arith, inl, inr, length-drop, length-take, take-add}
use lib.Seq.{take-set-lt}
use Rattle.std.specs.List.{copy_within}
use Rattle.std.proofs.lemmas.List.{length-take-le, set_past, take-set-le, take-take, take_at, take_min, drop_at, drop-take, get_or-set_same, get_or-set_other}
use Rattle.std.proofs.lemmas.Bool.{cases_lt}
use Rattle.std.proofs.lemmas.Slice.{take-put_mid}
use Rattle.std.proofs.lemmas.List.Edits.{take-paste}
use Rattle.cells.specs.declared.rows.Rows.{Rows}
use Rattle.cells.specs.Lent.{with_row, with_rows}
use Rattle.cells.specs.Listed.{listed}

pub length_listed : {X : Type 0} {n : ℕ} (t : Rows X n) → length (listed t) ≡ t.used
length_listed t = length-take-le t.used t.cells.at (omega (arith, t.within, t.long))

-- what a loan of one row leaves
pub listed_lent : {X : Type 0} {n : ℕ} (t : Rows X n) (i : ℕ) (x : X) → listed (with_row t i x) ≡ set (listed t) i x
listed_lent t i x = elim (cases_lt i t.used) [
  | inl h ↦ take-set-lt t.used t.cells.at i x h
  | inr h ↦ take-set-le t.used t.cells.at i x h ∙ sym (set_past (listed t) i x (omega (arith, length_listed t)))
]

-- the rows behind one that goes move up
pub moved_up : {X : Type 0} (xs : List X) (n i : ℕ) → i < n → n ≤ length xs → take (n - 1) (copy_within xs (i + 1) n i) ≡ take i (take n xs) ++ drop (i + 1) (take n xs)
moved_up {X = X} xs n i h k =
    let d = n - (i + 1) in
    let m : n - 1 ≡ i + d = omega arith in
    let e : n ≡ i + 1 + d = omega arith in
    ap (λ (j : ℕ). take j (copy_within xs (i + 1) n i)) m
    ∙ take-paste xs i (drop (i + 1) xs) d (omega arith) (omega (arith, length-drop (i + 1) xs))
    ∙ ap (λ (v : List X). v ++ take d (drop (i + 1) xs)) (sym (take-take i n xs (omega arith)))
    ∙ ap (λ (v : List X). take i (take n xs) ++ v) (sym (ap (λ (j : ℕ). drop (i + 1) (take j xs)) e ∙ drop-take (i + 1) d xs))

-- the rows that come behind those at the front, as far as there is room
pub listed_more : {X : Type 0} (xs rows ys : List X) (u k c n : ℕ) → u ≤ n → length xs ≡ n → c ≡ min (length rows) (n - u) → ys ≡ take c rows → take (u + c) (put_mid u k xs ys) ≡ take n (take u xs ++ rows)
listed_more {X = X} xs rows ys u k c n within long few is =
    let front = take u xs in
    let filled : length front ≡ u = length-take-le u xs (omega arith) in
    let all : n ≡ u + (n - u) = omega arith in
    let same : c ≡ min (n - u) (length rows) = omega arith in
    take-put_mid u k xs ys (u + c) (omega (arith, ap length is, length-take c rows)) (omega arith)
    ∙ ap (λ (v : List X). front ++ v) (is ∙ ap (λ (j : ℕ). take j rows) same ∙ take_min (n - u) rows)
    ∙ sym (
    ap (λ (j : ℕ). take j (front ++ rows)) all
    ∙ take-add u (n - u) (front ++ rows)
    ∙ ap (λ (v : List X). v ++ take (n - u) (drop u (front ++ rows))) (take_at front rows u filled)
    ∙ ap (λ (v : List X). front ++ take (n - u) v) (drop_at front rows u filled)
    )

-- one more row was changed: what R says of the rows below k holds of row k too
pub one_more : {X : Type 0} (R : ℕ → X → X → Type 0) (xs ys : List X) (k : ℕ) (y : X) → k < length ys → ((j : ℕ) (d : X) → j < k → R j (get_or xs j d) (get_or ys j d)) → ((d : X) → R k (get_or xs k d) y) → (j : ℕ) (d : X) → j < k + 1 → R j (get_or xs j d) (get_or (set ys k y) j d)
one_more {X = X} R xs ys k y l below here j d h = elim (cases_lt j k) [
  | inl p ↦ subst (R j (get_or xs j d)) (sym (get_or-set_other ys k j y d (λ e. omega arith))) (below j d p)
  | inr p ↦
      let e : k ≡ j = omega arith in
      subst (λ (i : ℕ). R i (get_or xs i d) (get_or (set ys k y) i d)) e (subst (R k (get_or xs k d)) (sym (get_or-set_same ys k y d l)) (here d))
]

-- what a loan of all rows leaves
pub listed_rows : {X : Type 0} {n : ℕ} (t : Rows X n) (ws : List X) → length ws ≡ length (listed t) → listed (with_rows t ws) ≡ ws
listed_rows t ws e = take-take t.used (length t.cells.at) (ws ++ drop (length ws) t.cells.at) (omega (arith, t.within, t.long)) ∙ take_at ws (drop (length ws) t.cells.at) t.used (e ∙ length_listed t)
