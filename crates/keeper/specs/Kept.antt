-- What a keeper holds, by insertion. Nothing here asks a law of the order. Assumes nothing.
use Rattle.std.specs.Prelude.{◌≡◌, ℕ, min, Bool, cond, List, [], ◌∷◌, length, take, drop, fold}

-- x goes ahead of the first record that it outranks.
abbrev pub insert : {A : Type 0} → (A → A → Bool) → A → List A → List A
insert before x [] = x ∷ []
insert before x (y ∷ ys) = cond (before x y) (x ∷ y ∷ ys) (y ∷ insert before x ys)

-- The records xs, inserted one after the other: greatest first.
abbrev pub ranked : {A : Type 0} → (A → A → Bool) → List A → List A
ranked before xs = fold (λ l x. insert before x l) [] xs

-- What a keeper of n cells holds once xs were offered, and what it does not hold.
abbrev pub kept : {A : Type 0} → (A → A → Bool) → ℕ → List A → List A
kept before n xs = take n (ranked before xs)

abbrev pub left_out : {A : Type 0} → (A → A → Bool) → ℕ → List A → List A
left_out before n xs = drop n (ranked before xs)

-- Of a keeper over cells that held es, to which xs were offered, f cells are filled, and the cells are cs now:
-- the filled ones hold what is kept, and the others what they held.
pub record Keeping {A : Type 0} (before : A → A → Bool) (es xs : List A) (f : ℕ) (cs : List A) : Type 0 where
  pub count : f ≡ min (length es) (length xs)
  pub held : take f cs ≡ kept before (length es) xs
  pub rest : drop f cs ≡ drop f es
  pub size : length cs ≡ length es
