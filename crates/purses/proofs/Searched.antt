-- What a search among the 32 places of a purse finds. Assumes nothing.
use Rattle.std.proofs.Common.{◌≡◌, ℕ, zero, suc, ◌<◌, ◌≤◌, ◌-◌, Bool, true, false, cond, ◌||◌, eqb, List, [], ◌∷◌, ◌++◌, map, length, get_or, replicate, Some, None, Option, MatchOption, sym, refl, ◌∙◌, inl, inr, arith}
use Rattle.std.specs.List.{list_any, AllWithin, HoldsAt}
use Rattle.std.proofs.lemmas.Bool.{eq-eqb, eqb-true, false≢true, cases_lt}
use Rattle.std.proofs.lemmas.List.{length-map, length-append, length-replicate}
use Rattle.rules.specs.Ledger.{Slip as Said, no_slip, same_slip, is_standing}
use Rattle.session.specs.Phases.{slip_of}
use Rattle.session.specs.declared.slips.Slip.{Slip}
use Rattle.purses.specs.declared.slots.Slot.{Slot}
use Rattle.purses.specs.declared.slots.Slot.TheVariants.{Empty, Full}
use Rattle.purses.specs.Slots.{row, has_serial, says}
use Rattle.purses.specs.Held.{Others, FirstOf}

-- ---- a slip that says the same

none_says : (s : Said) (n : ℕ) → list_any (says s) (replicate n Empty) ≡ false
none_says s zero = refl
none_says s (suc n) = none_says s n

any_says : (s : Said) (ss : List Slip) (n : ℕ) → list_any (says s) (map Full ss ++ replicate n Empty) ≡ is_standing s (map slip_of ss)
any_says s [] n = none_says s n
any_says s (x ∷ ss) n = go (same_slip s (slip_of x)) (any_says s ss n)
  where
    go : (t : Bool) → list_any (says s) (map Full ss ++ replicate n Empty) ≡ is_standing s (map slip_of ss) → (t || list_any (says s) (map Full ss ++ replicate n Empty)) ≡ cond t true (is_standing s (map slip_of ss))
    go true e = refl
    go false e = e

pub says-row : (s : Said) (ss : List Slip) → list_any (says s) (row ss) ≡ is_standing s (map slip_of ss)
says-row s ss = any_says s ss (32 - length ss)

-- ---- the first slip with a serial

module _ (serial : ℕ) where
  abbrev pub Same : Slot → Type 0
  Same x = has_serial serial x ≡ true

  abbrev pub Other : Slot → Type 0
  Other x = has_serial serial x ≡ false

  serial_at : (ss : List Slip) (n k : ℕ) → k < length ss → has_serial serial (get_or (map Full ss ++ replicate n Empty) k Empty) ≡ eqb (get_or (map slip_of ss) k no_slip).serial serial
  serial_at [] n k h = absurd (omega arith)
  serial_at (s ∷ ss) n zero h = refl
  serial_at (s ∷ ss) n (suc k) h = serial_at ss n k (omega arith)

  no_serial : (ss : List Slip) (n k : ℕ) → length ss ≤ k → has_serial serial (get_or (map Full ss ++ replicate n Empty) k Empty) ≡ false
  no_serial [] zero k h = refl
  no_serial [] (suc n) zero h = refl
  no_serial [] (suc n) (suc k) h = no_serial [] n k (omega arith)
  no_serial (s ∷ ss) n zero h = absurd (omega arith)
  no_serial (s ∷ ss) n (suc k) h = no_serial ss n k (omega arith)

  -- where each of the first places has another serial, so has each of the first slips
  others : (ss : List Slip) (m : ℕ) → m ≤ length ss → length ss ≤ 32 → AllWithin Other (row ss) 0 m → Others (map slip_of ss) m serial
  others ss m within few h k l e = false≢true (sym (h k Empty (omega arith) l) ∙ serial_at ss (32 - length ss) k (omega arith) ∙ eq-eqb (get_or (map slip_of ss) k no_slip).serial serial e)

  pub found : (ss : List Slip) (o : Option ℕ) → length ss ≤ 32 → MatchOption o (AllWithin Other (row ss) 0 (length (row ss))) (λ i. (i < length (row ss)) × HoldsAt Same (row ss) i × AllWithin Other (row ss) 0 i) → MatchOption o (Others (map slip_of ss) (length (map slip_of ss)) serial) (FirstOf (map slip_of ss) serial)
  found ss None few h =
      let n = length-map ss slip_of in
      let m : length (row ss) ≡ 32 = simp (length-append, length-map, length-replicate) (omega arith) in
      λ k l. others ss (length ss) (omega arith) few (λ j d p q. h j d p (omega arith)) k (omega arith)
  found ss (Some k) few (l, f, h) =
      elim (cases_lt k (length ss)) [
        | inl i ↦ record {
          within = omega (arith, length-map ss slip_of, i);
          same = eqb-true (get_or (map slip_of ss) k no_slip).serial serial (sym (serial_at ss (32 - length ss) k i) ∙ f Empty);
          before = others ss k (omega arith) few h;
        }
        | inr i ↦ absurd (false≢true (sym (no_serial ss (32 - length ss) k i) ∙ f Empty))
      ]
