-- What the cells hold once a record was written into its place. Assumes nothing.
use Rattle.std.proofs.Common.{◌≡◌, ℕ, ◌+◌, ◌-◌, ◌<◌, ◌≤◌, min, Bool, true, false, cond, not, List, [], ◌∷◌, length, get_or, take, drop, set, sym, refl, ap, ◌∙◌, one-add, take_all, ⊎_elim, ◌≢◌, arith}
use Rattle.std.specs.List.{position_or_len, SameBelow, CopiedTo}
use Rattle.std.specs.List as words
use Rattle.std.proofs.lemmas.Bool.{cases_lt, cases_eq}
use Rattle.std.proofs.lemmas.List.{same_lists, take_at, length-take, length-set, get_or-take, get_or-set_same, get_or-set_other}
use Rattle.std.proofs.lemmas.List.Sums.{prefix_len-le-length}
use Rattle.std.proofs.lemmas.List.Edits.{length-insert, get_or-insert_below, get_or-insert_at, get_or-insert_above}
use Rattle.keeper.specs.Kept.{insert}

module _ {A : Type 0} (b : A → A → Bool) (x : A) where
  -- a record's place is ahead of the first that it outranks
  pub insert_at_place : (l : List A) → insert b x l ≡ words.insert l (position_or_len (b x) l) x
  insert_at_place [] = refl
  insert_at_place (y ∷ l) = at (b x y) (insert_at_place l)
    where
      at : (t : Bool) → insert b x l ≡ words.insert l (position_or_len (b x) l) x → cond t (x ∷ y ∷ l) (y ∷ insert b x l) ≡ words.insert (y ∷ l) (cond (not t) (1 + position_or_len (b x) l) 0) x
      at true e = refl
      at false e = rw one-add (ap (λ t. y ∷ t) e)

  place_within : (es : List A) (f p : ℕ) → f ≤ length es → p ≡ position_or_len (b x) (take f es) → p ≤ f
  place_within es f p fits place = omega (arith, place, prefix_len-le-length (λ y. not (b x y)) (take f es), length-take f es)

  -- all cells are filled, and x outranks none of them
  pub put_beyond : (es : List A) (f p : ℕ) → f ≤ length es → p ≡ position_or_len (b x) (take f es) → p ≡ length es → take f es ≡ take (length es) (insert b x (take f es))
  put_beyond es f p fits place full =
      let q = position_or_len (b x) (take f es) in
      let long : length (take f es) ≡ length es = length-take f es ∙ omega (arith, place_within es f p fits place) in
      sym (ap (take (length es)) (insert_at_place (take f es)) ∙ take_at (take q (take f es)) (x ∷ drop q (take f es)) (length es) (length-take q (take f es) ∙ omega (arith, long)) ∙ take_all q (take f es) (omega (arith, long)))

  -- es were the cells, f of them filled, and p is the place of x; the records from p to `last` were moved by one, which left cs, and then x was written
  module _ (es cs : List A) (f p last : ℕ) (fits : f ≤ length es) (place : p ≡ position_or_len (b x) (take f es)) (room : p ≢ length es) (end : last ≡ min f (length es - 1))
      (long : length cs ≡ length es) (below : SameBelow es cs (p + 1)) (moved : CopiedTo es cs p (p + 1) (last - p)) where
    le : p ≤ f
    le = place_within es f p fits place

    lt : p < length es
    lt = omega (arith, le, room)

    long_held : length (take f es) ≡ f
    long_held = length-take f es ∙ omega arith

    inserted : insert b x (take f es) ≡ words.insert (take f es) p x
    inserted = insert_at_place (take f es) ∙ ap (λ k. words.insert (take f es) k x) (sym place)

    long_inserted : length (insert b x (take f es)) ≡ f + 1
    long_inserted = ap length inserted ∙ length-insert (take f es) p x (omega (arith, le, long_held)) ∙ omega (arith, long_held)

    -- each cell up to `last`: below p, at p and behind it
    each : (k : ℕ) (d : A) → k ≤ last → get_or (set cs p x) k d ≡ get_or (words.insert (take f es) p x) k d
    each k d h =
        let fit : p ≤ length (take f es) = omega (arith, le, long_held) in
        ⊎_elim
        (λ (e : k ≡ p). ap (λ j. get_or (set cs p x) j d) e ∙ get_or-set_same cs p x d (omega (arith, lt)) ∙ sym (ap (λ j. get_or (words.insert (take f es) p x) j d) e ∙ get_or-insert_at (take f es) p x d fit))
        (λ (n : k ≢ p). get_or-set_other cs p k x d n ∙
        ⊎_elim
        (λ (l : k < p). below k d (omega arith) ∙ sym (get_or-insert_below (take f es) p x d k l fit ∙ get_or-take f es k d (omega (arith, le))))
        (λ (m : p ≤ k).
        let next : k - 1 + 1 ≡ k = omega arith in
        moved k d (omega arith) (omega arith) ∙ ap (λ j. get_or es j d) (omega arith) ∙
        sym (ap (λ j. get_or (words.insert (take f es) p x) j d) (sym next) ∙ get_or-insert_above (take f es) p x d (k - 1) (omega arith) fit ∙ get_or-take f es (k - 1) d (omega arith)))
        (cases_lt k p))
        (cases_eq k p)

    pub put_at_place : take (last + 1) (set cs p x) ≡ take (length es) (insert b x (take f es))
    put_at_place =
        let long_left : length (take (last + 1) (set cs p x)) ≡ last + 1 = length-take (last + 1) (set cs p x) ∙ omega (arith, lt, length-set cs p x) in
        let long_right : length (take (length es) (insert b x (take f es))) ≡ last + 1 = length-take (length es) (insert b x (take f es)) ∙ omega (arith, lt, long_inserted) in
        same_lists _ _ (long_left ∙ sym long_right) (λ k d h.
        get_or-take (last + 1) (set cs p x) k d (omega (arith, long_left)) ∙
        each k d (omega (arith, long_left)) ∙
        ap (λ l. get_or l k d) (sym inserted) ∙
        sym (get_or-take (length es) (insert b x (take f es)) k d (omega (arith, lt, long_left))))
