-- Slips that are taken out of a purse, put in, and put back where they were. Assumes nothing.
use Rattle.std.proofs.Common.{◌≡◌, ℕ, zero, suc, ◌+◌, ◌<◌, ◌≤◌, Bool, true, false, cond, eqb, List, [], ◌∷◌, ◌++◌, map, length, get_or, take, drop, Some, None, ap, sym, refl, ◌∙◌, add-one, arith}
use Rattle.std.specs.List.{slice_get}
use Rattle.std.proofs.lemmas.Bool.{eqb-true, and_parts, cond-true}
use Rattle.std.proofs.lemmas.List.{length-map, map-append, map_push, take-map, drop-map, get_or-map}
use Rattle.std.proofs.lemmas.Option.{slice_get_within, get_or_from_slice_get}
use Rattle.rules.specs.Ledger.{Slip, no_slip, same_slip, same_holder, struck, is_standing}
use Rattle.rules.proofs.Slips.{slip_itself, stands}
use Rattle.session.specs.Phases.{slip_of}
use Rattle.session.specs.declared.slips.Slip.{Slip as Held}
use Rattle.purses.specs.declared.purse.Purse.{Purse}
use Rattle.purses.specs.Held.{held, slips_in, Others, FirstOf}

-- ---- how many there are

pub length_slips_in : (p : Purse) → length (slips_in p) ≡ length (held p)
length_slips_in p = length-map (held p) slip_of

pub held_few : (p : Purse) → length (held p) ≤ 32
held_few p = let counted = p.counted in let few = p.few in omega arith

-- ---- the first slip with a serial

-- it stands, and is the one that is struck
pub first_stands : (ss : List Slip) (serial k : ℕ) → FirstOf ss serial k → is_standing (get_or ss k no_slip) ss ≡ true
first_stands ss serial k f = stands ss k f.within

pub first_struck : (ss : List Slip) (serial k : ℕ) → FirstOf ss serial k → struck (get_or ss k no_slip) ss ≡ take k ss ++ drop (k + 1) ss
first_struck ss serial k f = rw (add-one k) (at ss k f.within (λ j h e. f.before j h (e ∙ f.same)))
  where
    at : (ss : List Slip) (k : ℕ) → k < length ss → ((j : ℕ) → j < k → (get_or ss j no_slip).serial ≡ (get_or ss k no_slip).serial → ⊥) → struck (get_or ss k no_slip) ss ≡ take k ss ++ drop (suc k) ss
    at [] k h before = absurd (omega arith)
    at (x ∷ ss) zero h before = cond-true (same_slip x x) ss (x ∷ struck x ss) (slip_itself x)
    at (x ∷ ss) (suc k) h before = go (same_slip (get_or ss k no_slip) x) refl (at ss k (omega arith) (λ j l e. before (suc j) (omega arith) e))
      where
        go : (t : Bool) → same_slip (get_or ss k no_slip) x ≡ t → struck (get_or ss k no_slip) ss ≡ take k ss ++ drop (suc k) ss → cond t ss (x ∷ struck (get_or ss k no_slip) ss) ≡ x ∷ (take k ss ++ drop (suc k) ss)
        go true q e = absurd (before 0 (omega arith) (sym (eqb-true _ _ (and_parts (eqb (get_or ss k no_slip).serial x.serial) (same_holder (get_or ss k no_slip).holder x.holder) (and_parts _ _ q).0).0)))
        go false q e = ap (λ (v : List Slip). x ∷ v) e

-- the slip at place 0 is the first with its serial
pub first_of_all : (ss : List Slip) → 0 < length ss → FirstOf ss (get_or ss 0 no_slip).serial 0
first_of_all ss h = record { within = h; same = refl; before = λ j l. absurd (omega arith) }

-- a slip stands only with the serial of one of them
pub others_stand_not : (s : Slip) (ss : List Slip) → Others ss (length ss) s.serial → is_standing s ss ≡ false
others_stand_not s [] h = refl
others_stand_not s (x ∷ ss) h = go (same_slip s x) refl (others_stand_not s ss (λ k l e. h (suc k) (omega arith) e))
  where
    go : (t : Bool) → same_slip s x ≡ t → is_standing s ss ≡ false → cond t true (is_standing s ss) ≡ false
    go true q e = absurd (h 0 (omega arith) (sym (eqb-true _ _ (and_parts (eqb s.serial x.serial) (same_holder s.holder x.holder) (and_parts _ _ q).0).0)))
    go false q e = e

-- ---- by what they say

-- within the purse there is a slip to take
pub there_to_take : (p : Purse) (k : ℕ) → k < length (slips_in p) → slice_get (held p) k ≡ None → ⊥
there_to_take p k h e = at (held p) k (omega (arith, h, length_slips_in p)) e
  where
    at : (xs : List Held) (k : ℕ) → k < length xs → slice_get xs k ≡ None → ⊥
    at [] k h e = omega arith
    at (x ∷ xs) zero h e = let z : ◌≡◌ {A = ℕ} 0 1 = cc in omega arith
    at (x ∷ xs) (suc k) h e = at xs k (omega arith) e

-- the slip that is taken out
pub taken_says : (p : Purse) (k : ℕ) (s : Held) → slice_get (held p) k ≡ Some s → slip_of s ≡ get_or (slips_in p) k no_slip
taken_says p k s e =
    ap slip_of (sym (get_or_from_slice_get (held p) k s s e))
    ∙ sym (get_or-map slip_of (held p) k s no_slip (slice_get_within (held p) k s e))

-- and those that are left
pub slips_taken : (xs : List Held) (k : ℕ) → map slip_of (take k xs ++ drop (k + 1) xs) ≡ take k (map slip_of xs) ++ drop (k + 1) (map slip_of xs)
slips_taken xs k = map-append slip_of (take k xs) (drop (k + 1) xs) ∙ sym (λ i. take-map slip_of k xs i ++ drop-map slip_of (k + 1) xs i)

-- a slip more, behind the others, or at a place
pub slips_put : (xs : List Held) (s : Held) → map slip_of (xs ++ s ∷ []) ≡ map slip_of xs ++ slip_of s ∷ []
slips_put xs s = map_push slip_of xs s

pub slips_inserted : (xs : List Held) (k : ℕ) (s : Held) → map slip_of (take k xs ++ s ∷ drop k xs) ≡ take k (map slip_of xs) ++ slip_of s ∷ drop k (map slip_of xs)
slips_inserted xs k s = map-append slip_of (take k xs) (s ∷ drop k xs) ∙ sym (λ i. take-map slip_of k xs i ++ slip_of s ∷ drop-map slip_of k xs i)

-- ---- put back

-- a slip that is taken out and comes back to its place leaves the list as it was
pub put_back_at : {X : Type 0} (xs : List X) (k : ℕ) (x : X) → slice_get xs k ≡ Some x → take k (take k xs ++ drop (k + 1) xs) ++ x ∷ drop k (take k xs ++ drop (k + 1) xs) ≡ xs
put_back_at {X = X} xs k x e = rw (add-one k) (at xs k e)
  where
    at : (xs : List X) (k : ℕ) → slice_get xs k ≡ Some x → take k (take k xs ++ drop (suc k) xs) ++ x ∷ drop k (take k xs ++ drop (suc k) xs) ≡ xs
    at [] k e = let z : ◌≡◌ {A = ℕ} 0 1 = cc in absurd (omega arith)
    at (y ∷ xs) zero e = ap (λ (v : X). v ∷ xs) (let is : x ≡ y = cc in is)
    at (y ∷ xs) (suc k) e = ap (λ (v : List X). y ∷ v) (at xs k e)
