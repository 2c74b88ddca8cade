-- What is told of an input by a line that was read piece by piece. Assumes nothing.
use Rattle.std.proofs.Common.{◌≡◌, ◌≢◌, ℕ, le_refl, length-take, ◌+◌, ◌-◌, ◌<◌, ◌≤◌, Bool, true, false, cond, ◌&&◌, ◌||◌, List, [], ◌∷◌, ◌++◌, length, get_or, take, All, None, Some, Ok, Option, sym, refl, ap, subst, ◌∙◌, append-nil, inl, inr, arith, nat_lt, ◌==◌, eq-eqb, ne_eqb}
use Rattle.std.proofs.Math.Seq.{get_or-append_seam}
use Rattle.std.proofs.lemmas.List.{length-append, take_all, take-append-le}
use Rattle.std.proofs.lemmas.Bool.{cases_lt, lt-ltb, le-ltb}
use Rattle.std.proofs.lemmas.Bool.Decides.{nat_tests}
use Rattle.std.proofs.lemmas.List.Elements.{All-append, All-get_or}
use Rattle.std.proofs.KnownBytes.{Consumes-trans, Consumes-kept, prepend_known-read}
use Rattle.std.proofs.BufReadLemmas.{take_through-append, drop_through-append}
use Rattle.std.specs.List.{before_first, after_first, list_any}
use Rattle.std.specs.Io.KnownBytes.{Keeps, Consumes, IsAtEnd, prepend_known}
use Rattle.std.specs.Io.BufRead.{take_through, drop_through, ends_with_byte, strip_last, first_piece, first_line}
use Rattle.cells.specs.Listed.{listed}
use Rattle.lines.proofs.Room.{take_cut}
use Rattle.reading.specs.declared.line.InputLine.{InputLine}
use Rattle.reading.specs.declared.line.Reached.{Reached}
use Rattle.reading.specs.declared.line.Reached.TheVariants.{Line, TooLong, End}
use Rattle.reading.specs.Lines.{room, is_feed, Holds, Grown, TellsOf, Tells}
use Rattle.reading.proofs.Pieces.{fed_piece, unfed_piece, before_unfed}

-- the bytes bs that were read are none of them a line feed, and the line holds them
pub record Gathered (a b : Option (List ℕ)) (l : InputLine) (bs : List ℕ) : Type 0 where
  pub read : Consumes a b bs
  pub unfed : All (λ x. x ≢ 10) bs
  pub held : Holds l bs
  pub running : l.fed ≡ false

-- bytes more
more_over : (n m p : ℕ) (o q : Bool) → m ≤ n → (n < room → m ≡ n) → (room ≤ n → m ≡ room) → o ≡ nat_lt room n → q ≡ (o || nat_lt room (m + p)) → q ≡ nat_lt room (n + p)
more_over n m p o q low small large is e = grind (arith, nat_tests)

more : (a b c : Option (List ℕ)) (l k : InputLine) (bs ps : List ℕ) → Gathered a b l bs → Consumes b c ps → All (λ x. x ≢ 10) ps → Grown l k ps → Gathered a c k (bs ++ ps)
more a b c l k bs ps g next others grown =
    let cut : length (listed l.bytes) ≡ length (take room bs) = ap length g.held.0 in
    let longer : k.over ≡ nat_lt room (length (bs ++ ps)) =
    more_over (length bs) (length (listed l.bytes)) (length ps) l.over k.over (omega (arith, length-take room bs)) (λ h. omega (arith, length-take room bs)) (λ h. omega (arith, length-take room bs)) g.held.1 grown.1 ∙ ap (nat_lt room) (sym (length-append bs ps)) in
    record {
      read = Consumes-trans a b c bs ps g.read next;
      unfed = All-append (λ y. y ≢ 10) bs ps g.unfed others;
      held = (grown.0 ∙ ap (λ (y : List ℕ). take room (y ++ ps)) g.held.0 ∙ take_cut room bs ps, longer);
      running = grown.2 ∙ g.running;
    }

-- no byte more
pub kept : (a b c : Option (List ℕ)) (l : InputLine) (bs : List ℕ) → Gathered a b l bs → Keeps b c → Gathered a c l bs
kept a b c l bs g next = record { read = Consumes-kept a b c bs g.read next; unfed = g.unfed; held = g.held; running = g.running }

-- of the bytes, those at hand are xs
pub hand : (b s t : Option (List ℕ)) (xs : List ℕ) → Keeps b (prepend_known xs t) → s ≡ t → Keeps b (prepend_known xs s)
hand b s t xs h e = subst (λ (v : Option (List ℕ)). Keeps b (prepend_known xs v)) (sym e) h

-- they move onto the line up to a line feed, and ys stays
pub with_feed : (a b s : Option (List ℕ)) (l k : InputLine) (bs xs ys : List ℕ) → Gathered a b l bs → Keeps b (prepend_known xs s) → list_any is_feed xs ≡ true → ys ≡ after_first is_feed xs → Grown l k (before_first is_feed xs) → Gathered a (prepend_known (10 ∷ ys) s) k (bs ++ before_first is_feed xs)
with_feed a b s l k bs xs ys g given any rest grown =
    let parts : xs ≡ before_first is_feed xs ++ 10 ∷ ys = fed_piece xs any ∙ ap (λ (t : List ℕ). before_first is_feed xs ++ 10 ∷ t) (sym rest) in
    more a b (prepend_known (10 ∷ ys) s) l k bs (before_first is_feed xs) g (prepend_known-read b s xs (10 ∷ ys) (before_first is_feed xs) ⊥ given parts (λ e. absurd e)).0 (before_unfed xs) grown

pub feed_next : (s : Option (List ℕ)) (ys : List ℕ) → Consumes (prepend_known (10 ∷ ys) s) (prepend_known ys s) (10 ∷ [])
feed_next None ys = tt
feed_next (Some zs) ys = refl

pub without_feed : (a b s : Option (List ℕ)) (l k : InputLine) (bs xs ys : List ℕ) → Gathered a b l bs → Keeps b (prepend_known xs s) → list_any is_feed xs ≡ false → ys ≡ after_first is_feed xs → Grown l k (before_first is_feed xs) → Gathered a (prepend_known ys s) k (bs ++ before_first is_feed xs)
without_feed a b s l k bs xs ys g given none rest grown =
    let parts : xs ≡ before_first is_feed xs ++ ys = unfed_piece xs none ∙ ap (λ (t : List ℕ). before_first is_feed xs ++ t) (sym rest) in
    more a b (prepend_known ys s) l k bs (before_first is_feed xs) g (prepend_known-read b s xs ys (before_first is_feed xs) ⊥ given parts (λ e. absurd e)).0 (before_unfed xs) grown

-- the parts of bytes that begin with bs and a line feed
before_fed : (bs : List ℕ) → length (bs ++ 10 ∷ []) - 1 ≡ length bs
before_fed bs = omega (arith, length-append bs (10 ∷ []))

ends_fed : (bs : List ℕ) → ends_with_byte 10 (bs ++ 10 ∷ []) ≡ true
ends_fed bs =
    let last : get_or (bs ++ 10 ∷ []) (length (bs ++ 10 ∷ []) - 1) 0 ≡ 10 = ap (λ (k : ℕ). get_or (bs ++ 10 ∷ []) k 0) (before_fed bs) ∙ get_or-append_seam bs 10 [] 0 in
    let some : nat_lt 0 (length (bs ++ 10 ∷ [])) ≡ true = lt-ltb 0 (length (bs ++ 10 ∷ [])) (omega (arith, length-append bs (10 ∷ []))) in
    (λ i. some i && eq-eqb _ 10 last i)

strip_fed : (bs : List ℕ) → strip_last 10 (bs ++ 10 ∷ []) ≡ bs
strip_fed bs =
    ap (λ (b : Bool). cond b (take (length (bs ++ 10 ∷ []) - 1) (bs ++ 10 ∷ [])) (bs ++ 10 ∷ [])) (ends_fed bs)
    ∙ ap (λ (k : ℕ). take k (bs ++ 10 ∷ [])) (before_fed bs)
    ∙ take-append-le (length bs) bs (10 ∷ []) (le_refl (length bs))
    ∙ take_all (length bs) bs (le_refl (length bs))

through_fed : (bs ys : List ℕ) → All (λ x. x ≢ 10) bs → take_through 10 (bs ++ 10 ∷ ys) ≡ bs ++ 10 ∷ []
through_fed bs ys all = take_through-append 10 bs (10 ∷ ys) all

past_fed : (bs ys : List ℕ) → All (λ x. x ≢ 10) bs → drop_through 10 (bs ++ 10 ∷ ys) ≡ ys
past_fed bs ys all = drop_through-append 10 bs (10 ∷ ys) all

-- the parts of bytes without a line feed
ends_unfed : (bs : List ℕ) → All (λ x. x ≢ 10) bs → ends_with_byte 10 bs ≡ false
ends_unfed [] all = refl
ends_unfed (x ∷ xs) all =
    let some : nat_lt 0 (length (x ∷ xs)) ≡ true = lt-ltb 0 (length (x ∷ xs)) (omega arith) in
    (λ i. some i && ne_eqb (get_or (x ∷ xs) (length (x ∷ xs) - 1) 0) 10 (All-get_or (λ y. y ≢ 10) (x ∷ xs) (length (x ∷ xs) - 1) 0 (omega arith) all) i)

through_unfed : (bs : List ℕ) → All (λ x. x ≢ 10) bs → take_through 10 bs ≡ bs
through_unfed bs all = sym (ap (take_through 10) (append-nil bs)) ∙ take_through-append 10 bs [] all ∙ append-nil bs

past_unfed : (bs : List ℕ) → All (λ x. x ≢ 10) bs → drop_through 10 bs ≡ []
past_unfed bs all = sym (ap (drop_through 10) (append-nil bs)) ∙ drop_through-append 10 bs [] all

-- what is reached with a line that holds bs
reached : (o : Bool) (n : ℕ) (P : Reached → Type 0) (r : Reached) → o ≡ nat_lt room n → r ≡ cond o TooLong Line → (room < n → P TooLong) → (n ≤ room → P Line) → P r
reached o n P r over is long short = elim (cases_lt room n) [
  | inl h ↦ subst P (sym (is ∙ ap (λ (b : Bool). cond b TooLong Line) (over ∙ lt-ltb room n h))) (long h)
  | inr h ↦ subst P (sym (is ∙ ap (λ (b : Bool). cond b TooLong Line) (over ∙ le-ltb room n h))) (short h)
]

-- at a line feed
pub told_fed : (a b c : Option (List ℕ)) (l k : InputLine) (bs : List ℕ) (r : Reached) → Gathered a b l bs → Consumes b c (10 ∷ []) → r ≡ cond l.over TooLong Line → k.fed ≡ true → listed k.bytes ≡ listed l.bytes → (E : Type 0) → Tells {E = E} a c (Ok r) k
told_fed None b c l k bs r g next is fed bytes E = tt
told_fed (Some xs) None c l k bs r g next is fed bytes E = absurd g.read
told_fed (Some xs) (Some ys) None l k bs r g next is fed bytes E = absurd next
told_fed (Some xs) (Some ys) (Some zs) l k bs r g next is fed bytes E =
    let whole : xs ≡ bs ++ 10 ∷ zs = g.read ∙ ap (λ (t : List ℕ). bs ++ t) next in
    let through : take_through 10 xs ≡ bs ++ 10 ∷ [] = ap (take_through 10) whole ∙ through_fed bs zs g.unfed in
    let piece : first_piece 10 xs ≡ bs = ap (strip_last 10) through ∙ strip_fed bs in
    let line : first_line xs ≡ strip_last 13 bs =
    ap (λ (b : Bool). cond b (strip_last 13 (first_piece 10 xs)) (first_piece 10 xs)) (ap (ends_with_byte 10) through ∙ ends_fed bs) ∙ ap (strip_last 13) piece in
    let past : Some zs ≡ Some (drop_through 10 xs) = ap Some (sym (ap (drop_through 10) whole ∙ past_fed bs zs g.unfed)) in
    let some : 0 < length xs = omega (arith, ap length whole, length-append bs (10 ∷ zs)) in
    reached l.over (length bs) (λ r. TellsOf xs (Some zs) r k) r g.held.1 is
    (λ h. (omega (arith, ap length piece), past))
    (λ h. (some, omega (arith, ap length piece), ap (λ (b : Bool). cond b (strip_last 13 (listed k.bytes)) (listed k.bytes)) fed ∙ ap (strip_last 13) (bytes ∙ g.held.0 ∙ take_all room bs h) ∙ sym line, past))

-- at the end of the input
pub told_end : (a b : Option (List ℕ)) (l : InputLine) (bs : List ℕ) (r : Reached) → Gathered a b l bs → IsAtEnd b → r ≡ cond (length (listed l.bytes) == 0) End (cond l.over TooLong Line) → (E : Type 0) → Tells {E = E} a b (Ok r) l
told_end None b l bs r g end is E = tt
told_end (Some xs) None l bs r g end is E = absurd g.read
told_end (Some xs) (Some ys) l [] r g end is E =
    subst (λ (r : Reached). TellsOf xs (Some ys) r l) (sym (is ∙ ap (λ (t : List ℕ). cond (length t == 0) End (cond l.over TooLong Line)) g.held.0)) (g.read ∙ end, ap Some end)
told_end (Some xs) (Some ys) l (x ∷ t) r g end is E =
    let bs = x ∷ t in
    let whole : xs ≡ bs = g.read ∙ ap (λ (t : List ℕ). bs ++ t) end ∙ append-nil bs in
    let through : take_through 10 xs ≡ bs = ap (take_through 10) whole ∙ through_unfed bs g.unfed in
    let ends : ends_with_byte 10 (take_through 10 xs) ≡ false = ap (ends_with_byte 10) through ∙ ends_unfed bs g.unfed in
    let piece : first_piece 10 xs ≡ bs = ap (strip_last 10) through ∙ ap (λ (b : Bool). cond b (take (length bs - 1) bs) bs) (ends_unfed bs g.unfed) in
    let line : first_line xs ≡ bs = ap (λ (b : Bool). cond b (strip_last 13 (first_piece 10 xs)) (first_piece 10 xs)) ends ∙ piece in
    let past : Some ys ≡ Some (drop_through 10 xs) = ap Some (end ∙ sym (ap (drop_through 10) whole ∙ past_unfed bs g.unfed)) in
    let some : 0 < length xs = omega (arith, ap length whole) in
    let cut : length (listed l.bytes) ≡ length (take room bs) = ap length g.held.0 in
    let full : length (listed l.bytes) ≢ 0 = omega (arith, length-take room bs) in
    reached l.over (length bs) (λ r. TellsOf xs (Some ys) r l) r g.held.1 (is ∙ ap (λ (b : Bool). cond b End (cond l.over TooLong Line)) (ne_eqb (length (listed l.bytes)) 0 full))
    (λ h. (omega (arith, ap length piece), past))
    (λ h. (some, omega (arith, ap length piece), ap (λ (b : Bool). cond b (strip_last 13 (listed l.bytes)) (listed l.bytes)) g.running ∙ g.held.0 ∙ take_all room bs h ∙ sym line, past))
