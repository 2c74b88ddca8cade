-- Laws of `insert`, `ranked` and `kept` under any order, and the three steps of a caller's loop over offers: `keeping_none` before the first
-- offer, `keeping_more` after each, `keeping_done` once the keeper has given its cells back. Assumes nothing.
use Rattle.std.proofs.Common.{◌≡◌, ℕ, zero, suc, ◌+◌, ◌-◌, ◌<◌, ◌≤◌, min, Bool, true, false, cond, List, [], ◌∷◌, ◌++◌, length, take, drop, fold, sym, refl, ap, ◌∙◌, arith}
use Rattle.std.specs.List.{AllByRecursion}
use Rattle.std.proofs.ByRecursion.{All-take}
use Rattle.std.proofs.lemmas.List.{take-take, drop-drop, length_push, length-take, get_or-take, same_lists}
use Rattle.std.proofs.lemmas.List.Sums.{fold_push}
use Rattle.keeper.specs.Kept.{insert, ranked, kept, Keeping}

module _ {A : Type 0} where
  -- as many as there are
  pub take_min : (xs : List A) (f m : ℕ) → m ≡ min f (length xs) → take m xs ≡ take f xs
  take_min xs f m e = same_lists _ _ (simp length-take (omega arith)) (λ k d h. let p : k < m = omega (arith, length-take m xs) in let q : k < f = omega arith in get_or-take m xs k d p ∙ sym (get_or-take f xs k d q))

  take_cons : (n : ℕ) (y : A) (l : List A) → take n (y ∷ take n l) ≡ take n (y ∷ l)
  take_cons zero y l = refl
  take_cons (suc n) y l = ap (λ t. y ∷ t) (take-take n (suc n) l (omega arith))

  -- rows that agree from f on agree from g on
  drop_later : (f g : ℕ) (cs es : List A) → f ≤ g → drop f cs ≡ drop f es → drop g cs ≡ drop g es
  drop_later f g cs es le e =
      let s : f + (g - f) ≡ g = omega arith in
      ap (λ k. drop k cs) (sym s) ∙ sym (drop-drop (g - f) f cs) ∙ ap (drop (g - f)) e ∙ drop-drop (g - f) f es ∙ ap (λ k. drop k es) s

  module _ (b : A → A → Bool) where
    -- ---- one insertion
    pub length_insert : (x : A) (l : List A) → length (insert b x l) ≡ length l + 1
    length_insert x [] = refl
    length_insert x (y ∷ l) = grind (arith, length_insert x l)

    pub all_insert : (P : A → Type 0) (x : A) (l : List A) → P x → AllByRecursion P l → AllByRecursion P (insert b x l)
    all_insert P x [] p a = (p, tt)
    all_insert P x (y ∷ l) p a = elim (b x y) as (λ t. AllByRecursion P (cond t (x ∷ y ∷ l) (y ∷ insert b x l))) [ true ↦ (p, a) | false ↦ (a.0, all_insert P x l p a.1) ]

    -- what has fallen out does not come back
    pub take_insert : (n : ℕ) (x : A) (l : List A) → take n (insert b x (take n l)) ≡ take n (insert b x l)
    take_insert zero x l = refl
    take_insert (suc n) x [] = refl
    take_insert (suc n) x (y ∷ l) =
        elim (b x y) as (λ t. take (suc n) (cond t (x ∷ y ∷ take n l) (y ∷ insert b x (take n l))) ≡ take (suc n) (cond t (x ∷ y ∷ l) (y ∷ insert b x l))) [
          | true ↦ ap (λ t. x ∷ t) (take_cons n y l)
          | false ↦ ap (λ t. y ∷ t) (take_insert n x l)
        ]

    -- ---- one insertion after the other
    all_folded : (P : A → Type 0) (xs l : List A) → AllByRecursion P l → AllByRecursion P xs → AllByRecursion P (fold (λ t x. insert b x t) l xs)
    all_folded P [] l a h = a
    all_folded P (x ∷ xs) l a h = all_folded P xs (insert b x l) (all_insert P x l h.0 a) h.1

    length_folded : (xs l : List A) → length (fold (λ t x. insert b x t) l xs) ≡ length xs + length l
    length_folded [] l = omega arith
    length_folded (x ∷ xs) l = omega (arith, length_folded xs (insert b x l), length_insert x l)

    pub ranked_push : (xs : List A) (x : A) → ranked b (xs ++ x ∷ []) ≡ insert b x (ranked b xs)
    ranked_push xs x = fold_push (λ l y. insert b y l) [] xs x

    pub length_ranked : (xs : List A) → length (ranked b xs) ≡ length xs
    length_ranked xs = omega (arith, length_folded xs [])

    -- what holds of each record that was offered holds of each that is ranked, and of each that is kept
    pub all_ranked : (P : A → Type 0) (xs : List A) → AllByRecursion P xs → AllByRecursion P (ranked b xs)
    all_ranked P xs h = all_folded P xs [] tt h

    pub all_kept : (P : A → Type 0) (n : ℕ) (xs : List A) → AllByRecursion P xs → AllByRecursion P (kept b n xs)
    all_kept P n xs h = All-take P n (ranked b xs) (all_ranked P xs h)

    pub length_kept : (n : ℕ) (xs : List A) → length (kept b n xs) ≡ min n (length xs)
    length_kept n xs = simp (length-take, length_ranked)

    -- ---- a caller's loop
    pub keeping_none : (es : List A) → Keeping b es [] 0 es
    keeping_none es = record { count = omega arith; held = none (length es); rest = refl; size = refl }
      where
        none : (n : ℕ) → take 0 es ≡ kept b n []
        none zero = refl
        none (suc n) = refl

    -- after the offer of x, by what `offer` promises
    pub keeping_more : (es xs : List A) (x : A) (f : ℕ) (cs : List A) (f' : ℕ) (cs' : List A) → Keeping b es xs f cs
        → f' ≡ min (length cs) (f + 1) → take f' cs' ≡ take (length cs) (insert b x (take f cs)) → drop f' cs' ≡ drop f' cs → length cs' ≡ length cs
        → Keeping b es (xs ++ x ∷ []) f' cs'
    keeping_more es xs x f cs f' cs' k c h r s = record {
      count = omega (arith, length_push xs x, k.count, k.size);
      held = h ∙ ap (λ n. take n (insert b x (take f cs))) k.size ∙ ap (λ l. take (length es) (insert b x l)) k.held ∙ take_insert (length es) x (ranked b xs) ∙ ap (take (length es)) (sym (ranked_push xs x));
      rest = r ∙ drop_later f f' cs es (omega (arith, k.count, k.size)) k.rest;
      size = s ∙ k.size;
    }

    -- the same of the lent cells zs, by what `new` and `finish` promise
    pub keeping_done : (es xs es' xs' : List A) (f f' : ℕ) (cs zs : List A) → Keeping b es xs f cs → es ≡ es' → xs ≡ xs' → f' ≡ length (take f cs) → zs ≡ cs → Keeping b es' xs' f' zs
    keeping_done es xs es' xs' f f' cs zs k p q r s = let e : f' ≡ f = omega (arith, length-take f cs, k.count, k.size) in rw (e, s, ← p, ← q) k
