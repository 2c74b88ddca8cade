-- What is kept are the greatest of the offers; as many others never are; and the order of the offers does not matter. Assumes nothing.
use Rattle.std.proofs.Common.{◌≡◌, ℕ, zero, suc, ◌<◌, Bool, true, false, cond, List, [], ◌∷◌, ◌++◌, length, get_or, take, drop, set, fold, sym, refl, ap, ◌∙◌, subst, ⊎_elim, arith}
use Rattle.std.specs.Cmp.{IsTotalOrder, IsStrictWeakOrder}
use Rattle.std.specs.Ordering.{is_lt}
use Rattle.std.specs.declared.cmp.Ordering.{Ordering}
use Rattle.std.specs.List.{swap, AllByRecursion}
use Rattle.std.specs.List.Sorted.{IsPermutation}
use Rattle.std.proofs.ByRecursion.{All-take, All-drop}
use Rattle.std.proofs.lemmas.List.{append-nil, take-append-drop, take_at, length-set, get_or-set_same, get_or-set_other}
use Rattle.std.proofs.lemmas.List.Sorted.{IsPermutation-refl, IsPermutation-sym, IsPermutation-trans, IsPermutation-middle, IsPermutation-append_right, IsPermutation-insert, IsPermutation-keeps}
use Rattle.std.proofs.lemmas.List.Sums.{fold-append}
use Rattle.std.proofs.lemmas.List.MinMax.{ranks_by, IsStrictWeakOrder-flip}
use Rattle.std.proofs.lemmas.Bool.{true≢false, cases_eq}
use Rattle.keeper.specs.Order.{ahead_by, Apart}
use Rattle.keeper.specs.Kept.{insert, ranked, kept, left_out, Keeping}
use Rattle.keeper.specs.Greatest.{Falling, Greatest, OnlyGreatest, AnyOrder}
use Rattle.keeper.proofs.Place.{insert_at_place}
use Rattle.keeper.proofs.Kept.{all_insert, length_insert, length_ranked, length_kept, take_min}

module _ {A : Type 0} where
  -- any two records with std's order compare: for `ranks` of those that take it for their order
  pub ahead_ranks : (cmp : A → A → Ordering) → IsTotalOrder cmp → IsStrictWeakOrder (ahead_by cmp)
  ahead_ranks cmp o = IsStrictWeakOrder-flip (λ x y. is_lt (cmp x y)) (ranks_by o (λ x. x))

  all_both : (P Q : A → Type 0) (l : List A) → AllByRecursion P l → AllByRecursion Q l → AllByRecursion (λ x. P x × Q x) l
  all_both P Q [] p q = tt
  all_both P Q (x ∷ l) p q = ((p.0, q.0), all_both P Q l p.1 q.1)

  all_unit : (l : List A) → AllByRecursion (λ _. Unit {0}) l
  all_unit [] = tt
  all_unit (x ∷ l) = (tt, all_unit l)

  module _ (b : A → A → Bool) where
    -- ---- each record stays, and none is added
    shuffled_insert : (x : A) (l : List A) → IsPermutation (x ∷ l) (insert b x l)
    shuffled_insert x l = subst (IsPermutation (x ∷ l)) (sym (insert_at_place b x l)) (IsPermutation-insert l _ x)

    shuffled_folded : (xs l : List A) → IsPermutation (xs ++ l) (fold (λ t x. insert b x t) l xs)
    shuffled_folded [] l = IsPermutation-refl l
    shuffled_folded (x ∷ xs) l =
        IsPermutation-trans _ (xs ++ x ∷ l) _ (IsPermutation-sym _ _ (IsPermutation-middle xs x l))
        (IsPermutation-trans _ (xs ++ insert b x l) _ (IsPermutation-append_right xs (x ∷ l) (insert b x l) (shuffled_insert x l)) (shuffled_folded xs (insert b x l)))

    pub shuffled_ranked : (xs : List A) → IsPermutation xs (ranked b xs)
    shuffled_ranked xs = subst (λ l. IsPermutation l (ranked b xs)) (append-nil xs) (shuffled_folded xs [])

    -- ---- what is in order already
    falling_take : (n : ℕ) (l : List A) → Falling b l → Falling b (take n l)
    falling_take zero l d = tt
    falling_take (suc n) [] d = tt
    falling_take (suc n) (x ∷ l) d = (All-take (λ y. b y x ≡ false) n l d.0, falling_take n l d.1)

    -- none behind outranks one of the first n
    falling_beaten : (n : ℕ) (l : List A) → Falling b l → AllByRecursion (λ y. AllByRecursion (λ x. b y x ≡ false) (take n l)) (drop n l)
    falling_beaten zero l d = all_unit l
    falling_beaten (suc n) [] d = tt
    falling_beaten (suc n) (z ∷ l) d = all_both (λ y. b y z ≡ false) (λ y. AllByRecursion (λ x. b y x ≡ false) (take n l)) (drop n l) (All-drop (λ y. b y z ≡ false) n l d.0) (falling_beaten n l d.1)

    insert_behind : (x : A) (hs l : List A) → AllByRecursion (λ h. b x h ≡ false) hs → insert b x (hs ++ l) ≡ hs ++ insert b x l
    insert_behind x [] l a = refl
    insert_behind x (h ∷ hs) l a = ap (λ t. cond t (x ∷ h ∷ hs ++ l) (h ∷ insert b x (hs ++ l))) a.0 ∙ ap (λ t. h ∷ t) (insert_behind x hs l a.1)

    -- records that outrank none of hs come to stand behind hs
    folded_behind : (hs l ys : List A) → AllByRecursion (λ y. AllByRecursion (λ x. b y x ≡ false) hs) ys → fold (λ t x. insert b x t) (hs ++ l) ys ≡ hs ++ fold (λ t x. insert b x t) l ys
    folded_behind hs l [] a = refl
    folded_behind hs l (y ∷ ys) a = ap (λ t. fold (λ t x. insert b x t) t ys) (insert_behind y hs l a.0) ∙ folded_behind hs (insert b y l) ys a.1

    ranked_falling : (hs : List A) → Falling b hs → ranked b hs ≡ hs
    ranked_falling [] d = refl
    ranked_falling (h ∷ hs) d =
        folded_behind (h ∷ []) [] hs (all_both (λ y. b y h ≡ false) (λ _. Unit {0}) hs d.0 (all_unit hs)) ∙ ap (λ t. h ∷ t) (ranked_falling hs d.1)

  module _ (b : A → A → Bool) (o : IsStrictWeakOrder b) where
    -- ---- the order that insertion makes
    all_chain : (x y : A) (l : List A) → b y x ≡ false → AllByRecursion (λ z. b z y ≡ false) l → AllByRecursion (λ z. b z x ≡ false) l
    all_chain x y [] h a = tt
    all_chain x y (z ∷ l) h a = (o.chain z y x a.0 h, all_chain x y l h a.1)

    falling_insert : (x : A) (l : List A) → Falling b l → Falling b (insert b x l)
    falling_insert x [] d = (tt, tt)
    falling_insert x (y ∷ l) d = at (falling_insert x l d.1) (b x y) refl
      where
        at : Falling b (insert b x l) → (t : Bool) → b x y ≡ t → Falling b (cond t (x ∷ y ∷ l) (y ∷ insert b x l))
        at more true e = ((o.one_way x y e, all_chain x y l (o.one_way x y e) d.0), d)
        at more false e = (all_insert b (λ z. b z y ≡ false) x l e d.0, more)

    falling_folded : (xs l : List A) → Falling b l → Falling b (fold (λ t x. insert b x t) l xs)
    falling_folded [] l d = d
    falling_folded (x ∷ xs) l d = falling_folded xs (insert b x l) (falling_insert x l d)

    pub falling_ranked : (xs : List A) → Falling b (ranked b xs)
    falling_ranked xs = falling_folded xs [] tt

    pub greatest_kept : (n : ℕ) (xs : List A) → Greatest b xs (kept b n xs) (left_out b n xs)
    greatest_kept n xs = record {
      falls = falling_take b n (ranked b xs) (falling_ranked xs);
      made = subst (IsPermutation xs) (sym (take-append-drop n (ranked b xs))) (shuffled_ranked b xs);
      beaten = falling_beaten b n (ranked b xs) (falling_ranked xs);
    }

    -- of the cells of a keeper
    pub keeping_greatest : (es xs : List A) (f : ℕ) (cs : List A) → Keeping b es xs f cs → Greatest b xs (take f cs) (left_out b (length es) xs)
    keeping_greatest es xs f cs k = subst (λ l. Greatest b xs l (left_out b (length es) xs)) (sym k.held) (greatest_kept (length es) xs)

    -- ---- two insertions
    insert_ahead : (x y : A) → b x y ≡ true → (l : List A) → insert b x (insert b y l) ≡ insert b y (insert b x l)
    insert_ahead x y h [] = let q : b y x ≡ false = o.one_way x y h in simp (h, q)
    insert_ahead x y h (z ∷ l) = at (insert_ahead x y h l) (b y z) refl (b x z) refl
      where
        at : insert b x (insert b y l) ≡ insert b y (insert b x l) → (s : Bool) → b y z ≡ s → (t : Bool) → b x z ≡ t → insert b x (insert b y (z ∷ l)) ≡ insert b y (insert b x (z ∷ l))
        at more true f true e = let q : b y x ≡ false = o.one_way x y h in simp (h, q, e, f)
        at more true f false e = absurd (true≢false (sym h ∙ o.chain x z y e (o.one_way y z f)))
        at more false f true e = let q : b y x ≡ false = o.one_way x y h in simp (q, e, f)
        at more false f false e = simp (e, f) (ap (λ m. z ∷ m) more)

    irreflexive : (x : A) → b x x ≡ false
    irreflexive x = at (b x x) refl
      where
        at : (t : Bool) → b x x ≡ t → b x x ≡ false
        at true e = o.one_way x x e
        at false e = e

    -- x does not outrank what comes to stand first
    insert_first : (x z : A) (l m : List A) → insert b x m ≡ z ∷ l → b x z ≡ false
    insert_first x z l [] e = let q : x ≡ z = cc in ap (b x) (sym q) ∙ irreflexive x
    insert_first x z l (w ∷ m) e = at (b x w) refl e
      where
        at : (t : Bool) → b x w ≡ t → cond t (x ∷ w ∷ m) (w ∷ insert b x m) ≡ z ∷ l → b x z ≡ false
        at true h e = let q : x ≡ z = cc in ap (b x) (sym q) ∙ irreflexive x
        at false h e = let q : w ≡ z = cc in ap (b x) (sym q) ∙ h

    insert_cancel : (x : A) (l m : List A) → insert b x l ≡ insert b x m → l ≡ m
    insert_cancel x [] [] e = refl
    insert_cancel x [] (y ∷ m) e = absurd (omega (arith, ap length e, length_insert b x (y ∷ m)))
    insert_cancel x (z ∷ l) [] e = absurd (omega (arith, ap length e, length_insert b x (z ∷ l)))
    insert_cancel x (z ∷ l) (y ∷ m) e = at (insert_cancel x l m) (b x z) refl (b x y) refl e
      where
        at : (insert b x l ≡ insert b x m → l ≡ m) → (s : Bool) → b x z ≡ s → (t : Bool) → b x y ≡ t
            → cond s (x ∷ z ∷ l) (z ∷ insert b x l) ≡ cond t (x ∷ y ∷ m) (y ∷ insert b x m) → z ∷ l ≡ y ∷ m
        at more true p true q e = cc
        at more true p false q e = let r : z ∷ l ≡ insert b x m = cc in absurd (true≢false (sym p ∙ insert_first x z l m (sym r)))
        at more false p true q e = let r : y ∷ m ≡ insert b x l = cc in absurd (true≢false (sym q ∙ insert_first x y m l (sym r)))
        at more false p false q e =
            let first : z ≡ y = cc in
            let rest : insert b x l ≡ insert b x m = cc in
            let same : l ≡ m = more rest in
            cc

    -- ---- where no two different records tie
    module _ (apart : Apart b) where
      insert_insert : (x y : A) (l : List A) → insert b x (insert b y l) ≡ insert b y (insert b x l)
      insert_insert x y l = at (b x y) refl (b y x) refl
        where
          at : (s : Bool) → b x y ≡ s → (t : Bool) → b y x ≡ t → insert b x (insert b y l) ≡ insert b y (insert b x l)
          at true e t f = insert_ahead x y e l
          at false e true f = sym (insert_ahead y x f l)
          at false e false f = let q : x ≡ y = apart x y e f in rw q

      folded_insert : (x : A) (l xs : List A) → fold (λ t y. insert b y t) (insert b x l) xs ≡ insert b x (fold (λ t y. insert b y t) l xs)
      folded_insert x l [] = refl
      folded_insert x l (y ∷ xs) = ap (λ m. fold (λ t y. insert b y t) m xs) (insert_insert y x l) ∙ folded_insert x (insert b y l) xs

      -- v in place of a record: with that record again, as with one more v
      folded_set : (xs : List A) (i : ℕ) (v d : A) (l : List A) → i < length xs
          → insert b (get_or xs i d) (fold (λ t y. insert b y t) l (set xs i v)) ≡ insert b v (fold (λ t y. insert b y t) l xs)
      folded_set [] i v d l h = absurd (omega arith)
      folded_set (x ∷ xs) zero v d l h =
          let r = fold (λ t y. insert b y t) l xs in
          ap (insert b x) (folded_insert v l xs) ∙ insert_insert x v r ∙ ap (insert b v) (sym (folded_insert x l xs))
      folded_set (x ∷ xs) (suc i) v d l h = folded_set xs i v d (insert b x l) (omega arith)

      ranked_exchanged : (l : List A) (i j : ℕ) → i < length l → j < length l → ranked b (swap l i j) ≡ ranked b l
      ranked_exchanged [] i j p q = refl
      ranked_exchanged (d ∷ ys) i j p q =
          let l = d ∷ ys in
          let w = set l i (get_or l j d) in
          let z = set w j (get_or l i d) in
          let there : get_or w j d ≡ get_or l j d = ⊎_elim (λ e. ap (λ k. get_or w k d) e ∙ get_or-set_same l i (get_or l j d) d p) (λ n. get_or-set_other l i j (get_or l j d) d n) (cases_eq j i) in
          let first = folded_set l i (get_or l j d) d [] p in
          let second = folded_set w j (get_or l i d) d [] (omega (arith, length-set l i (get_or l j d))) in
          insert_cancel (get_or l j d) (ranked b z) (ranked b l) (ap (λ t. insert b t (ranked b z)) (sym there) ∙ second ∙ first)

      pub ranked_shuffled : (xs ys : List A) → IsPermutation xs ys → ranked b ys ≡ ranked b xs
      ranked_shuffled xs ys s = IsPermutation-keeps xs (λ l. ranked b l ≡ ranked b xs) refl (λ l i j p q h. ranked_exchanged l i j p q ∙ h) ys s

      pub any_order_kept : (n : ℕ) (xs : List A) → AnyOrder b n xs (kept b n xs)
      any_order_kept n xs ys s = ap (take n) (sym (ranked_shuffled xs ys s))

      ranked_greatest : (xs held left : List A) → Greatest b xs held left → ranked b xs ≡ held ++ ranked b left
      ranked_greatest xs held left g =
          let ins : List A → A → List A = λ t y. insert b y t in
          sym (ranked_shuffled xs (held ++ left) g.made)
          ∙ fold-append ins [] held left
          ∙ ap (λ l. fold ins l left) (ranked_falling b held g.falls ∙ sym (append-nil held))
          ∙ folded_behind b held [] left g.beaten

      pub only_kept : (n : ℕ) (xs : List A) → OnlyGreatest b xs (kept b n xs)
      only_kept n xs held left e g =
          let first : take (length held) (ranked b xs) ≡ held = ap (take (length held)) (ranked_greatest xs held left g) ∙ take_at held (ranked b left) (length held) refl in
          sym first ∙ take_min (ranked b xs) n (length held) (omega (arith, length_kept b n xs, length_ranked b xs))

      -- of the cells of a keeper
      pub keeping_any_order : (es xs : List A) (f : ℕ) (cs : List A) → Keeping b es xs f cs → AnyOrder b (length es) xs (take f cs)
      keeping_any_order es xs f cs k = subst (AnyOrder b (length es) xs) (sym k.held) (any_order_kept (length es) xs)

      pub keeping_only : (es xs : List A) (f : ℕ) (cs : List A) → Keeping b es xs f cs → OnlyGreatest b xs (take f cs)
      keeping_only es xs f cs k = subst (OnlyGreatest b xs) (sym k.held) (only_kept (length es) xs)
