-- The 32 places of a purse, as slips are taken out and put in. Assumes nothing.
use Rattle.std.proofs.Common.{◌≡◌, ℕ, zero, suc, ◌+◌, ◌-◌, ◌<◌, ◌≤◌, List, [], ◌∷◌, ◌++◌, map, length, get_or, take, drop, set, replicate, sym, refl, ap, ◌∙◌, arith}
use Rattle.std.specs.List.{insert, remove, slice_get}
use Rattle.std.proofs.lemmas.List.{append-nil, append_assoc, map-append, length-map, length-append, length-replicate, length-take-le, length-drop, replicate_more, take_all, take_at, drop_all, drop_at, take-append-le, drop-append-le, take-map, drop-map, set_split, length-set, take-set, drop-set-lt, get_or-set_same}
use Rattle.std.proofs.lemmas.Slice.{put_mid-rotated}
use Rattle.std.proofs.lemmas.List.Edits.{length-insert, length-remove, insert-append_left, remove-append_left}
use borrow.Rule.Slice.PartMut.{put_mid, mid_of}
use Rattle.session.specs.declared.slips.Slip.{Slip}
use Rattle.purses.specs.declared.slots.Slot.{Slot}
use Rattle.purses.specs.declared.slots.Slot.TheVariants.{Empty, Full}
use Rattle.purses.specs.declared.purse.Purse.{Purse}
use Rattle.purses.specs.Slots.{slip_at, slips_at, row}
use Rattle.purses.specs.Held.{held}

-- ---- what lies at the places

none_at : (n : ℕ) → slips_at (replicate n Empty) ≡ []
none_at zero = refl
none_at (suc n) = none_at n

all_at : (ss : List Slip) (n : ℕ) → slips_at (map Full ss ++ replicate n Empty) ≡ ss
all_at [] n = none_at n
all_at (s ∷ ss) n = ap (λ (v : List Slip). s ∷ v) (all_at ss n)

slips_at-row : (ss : List Slip) → slips_at (row ss) ≡ ss
slips_at-row ss = all_at ss (32 - length ss)

empty_at : (n k : ℕ) → get_or (replicate n Empty) k Empty ≡ Empty
empty_at zero k = refl
empty_at (suc n) zero = refl
empty_at (suc n) (suc k) = empty_at n k

-- a place has the slip of its number, or none past the last
slot_at : (ss : List Slip) (n k : ℕ) → slip_at (get_or (map Full ss ++ replicate n Empty) k Empty) ≡ slice_get ss k
slot_at [] n k = ap slip_at (empty_at n k)
slot_at (s ∷ ss) n zero = refl
slot_at (s ∷ ss) n (suc k) = slot_at ss n k

slip_at-row : (ss : List Slip) (k : ℕ) → slip_at (get_or (row ss) k Empty) ≡ slice_get ss k
slip_at-row ss k = slot_at ss (32 - length ss) k

-- ---- a turn of the places from one on

-- the last of 32 comes to place k, and those from there on move down
rotated_in : {X : Type 0} (xs : List X) (k : ℕ) (x : X) (ys : List X) → length xs ≡ 32 → k < 32 → ys ≡ drop (length (mid_of k (32 - k) (set xs 31 x)) - 1) (mid_of k (32 - k) (set xs 31 x)) ++ take (length (mid_of k (32 - k) (set xs 31 x)) - 1) (mid_of k (32 - k) (set xs 31 x)) → put_mid k (32 - k) (set xs 31 x) ys ≡ insert (take 31 xs) k x
rotated_in {X = X} xs k x ys long h e =
    let p = take 31 xs in
    let n : length p ≡ 31 = length-take-le 31 xs (omega arith) in
    let d : length (drop k p) ≡ 31 - k = length-drop k p ∙ ap (λ (i : ℕ). i - k) n in
    let split : set xs 31 x ≡ p ++ x ∷ [] = set_split xs 31 x (omega arith) ∙ ap (λ (v : List X). p ++ x ∷ v) (drop_all 32 xs (omega arith)) in
    let mid : mid_of k (32 - k) (set xs 31 x) ≡ drop k p ++ x ∷ [] =
    ap (mid_of k (32 - k)) split ∙ ap (take (32 - k)) (drop-append-le k p (x ∷ []) (omega arith)) ∙ take_all (32 - k) (drop k p ++ x ∷ []) (simp length-append (omega arith)) in
    let last : length (drop k p ++ x ∷ []) - 1 ≡ 31 - k = simp length-append (omega arith) in
    let turned : ys ≡ x ∷ drop k p =
    e
    ∙ ap (λ (v : List X). drop (length v - 1) v ++ take (length v - 1) v) mid
    ∙ ap (λ (i : ℕ). drop i (drop k p ++ x ∷ []) ++ take i (drop k p ++ x ∷ [])) last
    ∙ (λ i. drop_at (drop k p) (x ∷ []) (31 - k) d i ++ take_at (drop k p) (x ∷ []) (31 - k) d i) in
    (λ i. put_mid k (32 - k) (split i) (turned i))
    ∙ ap (λ (v : List X). v ++ (x ∷ drop k p ++ drop (32 - k) (drop k (p ++ x ∷ [])))) (take-append-le k p (x ∷ []) (omega arith))
    ∙ ap (λ (v : List X). take k p ++ (x ∷ drop k p ++ v)) (drop_all (32 - k) (drop k (p ++ x ∷ [])) (simp (length-drop, length-append) (omega arith)))
    ∙ ap (λ (v : List X). take k p ++ v) (append-nil (x ∷ drop k p))

-- place k, which was emptied, comes to the end, and those behind it move up
rotated_out : {X : Type 0} (xs : List X) (k : ℕ) (x : X) (ys : List X) → length xs ≡ 32 → k < 32 → ys ≡ drop 1 (mid_of k (32 - k) (set xs k x)) ++ take 1 (mid_of k (32 - k) (set xs k x)) → put_mid k (32 - k) (set xs k x) ys ≡ remove xs k ++ x ∷ []
rotated_out {X = X} xs k x ys long h e =
    let n = length-set xs k x in
    put_mid-rotated k (32 - k) (set xs k x) ys x (omega arith) (omega arith) e
    ∙ (λ i. (take-set xs k x i ++ drop-set-lt (suc k) xs k x (omega arith) i) ++ get_or-set_same xs k x x (omega arith) i ∷ [])

length-row : (ss : List Slip) → length ss ≤ 32 → length (row ss) ≡ 32
length-row ss few = simp (length-append, length-map, length-replicate) (omega arith)

-- ---- a slip less, and a slip more

-- the row without the slip at a place, and with an empty place at its end
row-taken : (ss : List Slip) (k : ℕ) → k < length ss → length ss ≤ 32 → remove (row ss) k ++ Empty ∷ [] ≡ row (remove ss k)
row-taken ss k h few =
    let n = 32 - length ss in
    let less : length (remove ss k) + 1 ≡ length ss = length-remove ss k h in
    let room : n + 1 ≡ 32 - length (remove ss k) = omega arith in
    ap (λ (v : List Slot). v ++ Empty ∷ []) (remove-append_left (map Full ss) (replicate n Empty) k (omega (arith, h, length-map ss Full)))
    ∙ append_assoc (remove (map Full ss) k) (replicate n Empty) (Empty ∷ [])
    ∙ ap (λ (v : List Slot). remove (map Full ss) k ++ v) (replicate_more n Empty ∙ ap (λ (i : ℕ). replicate i Empty) room)
    ∙ ap (λ (v : List Slot). v ++ replicate (32 - length (remove ss k)) Empty) (removed k)
  where
    removed : (k : ℕ) → remove (map Full ss) k ≡ map Full (remove ss k)
    removed k = (λ i. take-map Full k ss i ++ drop-map Full (suc k) ss i) ∙ sym (map-append Full (take k ss) (drop (suc k) ss))

-- the row with a slip at a place, where the last place was empty
row-put : (ss : List Slip) (k : ℕ) (s : Slip) → k ≤ length ss → length ss < 32 → insert (take 31 (row ss)) k (Full s) ≡ row (insert ss k s)
row-put ss k s h few =
    let m = 31 - length ss in
    let one : 32 - length ss ≡ m + 1 = omega arith in
    let front : length (map Full ss ++ replicate m Empty) ≡ 31 = simp (length-append, length-map, length-replicate) (omega arith) in
    let split : row ss ≡ (map Full ss ++ replicate m Empty) ++ Empty ∷ [] =
    ap (λ (i : ℕ). map Full ss ++ replicate i Empty) one
    ∙ ap (λ (v : List Slot). map Full ss ++ v) (sym (replicate_more m Empty))
    ∙ sym (append_assoc (map Full ss) (replicate m Empty) (Empty ∷ [])) in
    let most : take 31 (row ss) ≡ map Full ss ++ replicate m Empty = ap (take 31) split ∙ take_at (map Full ss ++ replicate m Empty) (Empty ∷ []) 31 front in
    let more : length (insert ss k s) ≡ length ss + 1 = length-insert ss k s h in
    let room : m ≡ 32 - length (insert ss k s) = omega arith in
    ap (λ (v : List Slot). insert v k (Full s)) most
    ∙ insert-append_left (map Full ss) (replicate m Empty) k (Full s) (omega (arith, h, length-map ss Full))
    ∙ ap (λ (v : List Slot). v ++ replicate m Empty) inserted
    ∙ ap (λ (i : ℕ). map Full (insert ss k s) ++ replicate i Empty) room
  where
    inserted : insert (map Full ss) k (Full s) ≡ map Full (insert ss k s)
    inserted = (λ i. take-map Full k ss i ++ Full s ∷ drop-map Full k ss i) ∙ sym (map-append Full (take k ss) (s ∷ drop k ss))

-- ---- the places of a purse

pub length_at : (p : Purse) → length p.slots.at ≡ 32
length_at p = let counted = p.counted in let few = p.few in ap length p.packed ∙ length-row (held p) (omega arith)

-- after a slip was taken out
pub at_taken : (p : Purse) (k : ℕ) (x : Slot) (ys : List Slot) → k < p.count → x ≡ Empty → ys ≡ drop 1 (mid_of k (32 - k) (set p.slots.at k x)) ++ take 1 (mid_of k (32 - k) (set p.slots.at k x)) → put_mid k (32 - k) (set p.slots.at k x) ys ≡ row (remove (held p) k)
at_taken p k x ys h empty e =
    let counted = p.counted in
    let few = p.few in
    rotated_out p.slots.at k x ys (length_at p) (omega arith) e
    ∙ (λ i. remove (p.packed i) k ++ empty i ∷ [])
    ∙ row-taken (held p) k (omega arith) (omega arith)

-- after a slip was put in
pub at_put : (p : Purse) (k : ℕ) (s : Slip) (ys : List Slot) → k ≤ p.count → p.count < 32 → ys ≡ drop (length (mid_of k (32 - k) (set p.slots.at 31 (Full s))) - 1) (mid_of k (32 - k) (set p.slots.at 31 (Full s))) ++ take (length (mid_of k (32 - k) (set p.slots.at 31 (Full s))) - 1) (mid_of k (32 - k) (set p.slots.at 31 (Full s))) → put_mid k (32 - k) (set p.slots.at 31 (Full s)) ys ≡ row (insert (held p) k s)
at_put p k s ys h few e =
    let counted = p.counted in
    rotated_in p.slots.at k (Full s) ys (length_at p) (omega arith) e
    ∙ ap (λ (v : List Slot). insert (take 31 v) k (Full s)) p.packed
    ∙ row-put (held p) k s (omega arith) (omega arith)

-- places that are a known row
pub held_there : (xs : List Slot) (ss : List Slip) → xs ≡ row ss → slips_at xs ≡ ss
held_there xs ss e = ap slips_at e ∙ slips_at-row ss

pub packed_there : (xs : List Slot) (ss : List Slip) → xs ≡ row ss → xs ≡ row (slips_at xs)
packed_there xs ss e = e ∙ ap row (sym (held_there xs ss e))

-- the slip at a place of a purse
pub slip_there : (p : Purse) (k : ℕ) → slip_at (get_or p.slots.at k Empty) ≡ slice_get (held p) k
slip_there p k = ap (λ (v : List Slot). slip_at (get_or v k Empty)) p.packed ∙ slip_at-row (held p) k
