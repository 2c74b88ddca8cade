-- What calls with slips leave of those that stand. Assumes nothing.
use Rattle.std.proofs.Common.{◌≡◌, ℕ, zero, suc, ◌<◌, Bool, true, false, cond, not, ◌||◌, eqb, ltb, List, [], ◌∷◌, ◌++◌, map, length, get_or, take, drop, ◌+◌, ℤ, Some, None, Option, sym, refl, ap, ◌∙◌, subst, arith}
use Rattle.std.proofs.lemmas.Bool.{false≢true, eqb-true, eq-eqb, ltb-true}
use Rattle.scenario.specs.Table.{ScenarioTable}
use Rattle.rules.specs.Bounds.{most_slips}
use Rattle.rules.specs.Ledger.{Ledger, Holder, Slip, no_slip, struck, is_standing}
use Rattle.rules.specs.Causes.{Call, withdraw, settle, put_back, cause, entered, absent, next_slip, with_slips}
use Rattle.rules.specs.Answers.{Answer, is_accepted, refused, accepted, handed, Answered}
use Rattle.rules.proofs.Answered.{told, left}
use Rattle.rules.proofs.Funds.{slips_moved}
use Rattle.rules.proofs.Rows.{row_off, no_cause}
use Rattle.rules.proofs.Slips as slips
use Rattle.std.specs.List.{slice_get}
use Rattle.session.specs.declared.slips.Slip.{Slip as Held}
use Rattle.session.specs.Phases.{slip_of}
use Rattle.purses.specs.declared.purse.Purse.{Purse}
use Rattle.purses.specs.Held.{held, slips_in, Others, FirstOf}
use Rattle.purses.proofs.Spent.{there_to_take, first_stands, first_struck, taken_says, slips_taken}
use Rattle.desk.specs.declared.spending.Spending.{Spending}
use Rattle.desk.specs.declared.spending.Spending.TheVariants.{Settle, PutBack}
use Rattle.desk.specs.Meant.{with_serial}
use Rattle.desk.specs.Spending.{call_of, TakenOut}

-- ---- the slip with a serial

pub serial_none : (ss : List Slip) (n : ℕ) → Others ss (length ss) n → with_serial n ss ≡ None
serial_none [] n h = refl
serial_none (s ∷ ss) n h = go (eqb s.serial n) refl (serial_none ss n (λ k l. h (suc k) (omega arith)))
  where
    go : (t : Bool) → eqb s.serial n ≡ t → with_serial n ss ≡ None → cond t (Some s) (with_serial n ss) ≡ None
    go true q e = absurd (h 0 (omega arith) (eqb-true s.serial n q))
    go false q e = e

pub serial_first : (ss : List Slip) (n k : ℕ) → FirstOf ss n k → with_serial n ss ≡ Some (get_or ss k no_slip)
serial_first [] n k f = let h = f.within in absurd (omega arith)
serial_first (s ∷ ss) n zero f = go (eqb s.serial n) (eq-eqb s.serial n f.same)
  where
    go : (t : Bool) → t ≡ true → cond t (Some s) (with_serial n ss) ≡ Some s
    go true q = refl
    go false q = absurd (false≢true q)
serial_first (s ∷ ss) n (suc k) f = go (eqb s.serial n) refl (serial_first ss n k (record { within = let h = f.within in omega arith; same = f.same; before = λ j l. f.before (suc j) (omega arith) }))
  where
    go : (t : Bool) → eqb s.serial n ≡ t → with_serial n ss ≡ Some (get_or ss k no_slip) → cond t (Some s) (with_serial n ss) ≡ Some (get_or ss k no_slip)
    go true q e = absurd (f.before 0 (omega arith) (eqb-true s.serial n q))
    go false q e = e

holds : (p q : Bool) → (not p || q) ≡ false → p ≡ true
holds true q e = refl
holds false q e = absurd (false≢true (sym e))

module _ (m : ScenarioTable) (l : Ledger) where
  -- ---- what is refused

  pub refused_leaves : (x : Call) (n : ℕ) (l' : Ledger) → Answered m l x (refused n) l' → l' ≡ l
  refused_leaves x n l' a = left m l x (refused n) l' a

  pub not_refused : (x : Call) (n : ℕ) (l' : Ledger) → cause m l x ≡ None → Answered m l x (refused n) l' → ⊥
  not_refused x n l' e a = false≢true (told m l x (refused n) l' a ∙ ap absent e)

  -- ---- what leaves them alone

  pub slips_kept : (x : Call) (r : Answer) (l' : Ledger) → (entered m l x).slips ≡ l.slips → Answered m l x r l' → l'.slips ≡ l.slips
  slips_kept x r l' e a = ap (λ (v : Ledger). v.slips) (left m l x r l' a) ∙ go (is_accepted r)
    where
      go : (t : Bool) → (cond t (entered m l x) l).slips ≡ l.slips
      go true = e
      go false = refl

  -- ---- a slip that is handed out

  module _ (h : Holder) (a : ℤ) (s : Slip) (l' : Ledger) (r : Answered m l (withdraw h a) (handed s) l') where
    allowed : cause m l (withdraw h a) ≡ None
    allowed = no_cause (cause m l (withdraw h a)) (told m l (withdraw h a) (handed s) l' r)

    is_next : s ≡ next_slip l h a
    is_next = go (cause m l (withdraw h a)) r.ruled
      where
        go : (o : Option ℕ) → handed s ≡ elim o as (λ _. Answer) [ Some n ↦ refused n | None ↦ handed (next_slip l h a) ] → s ≡ next_slip l h a
        go (Some n) e = let z : ◌≡◌ {A = ℕ} 0 1 = cc in absurd (omega arith)
        go None e = cc

    pub handed_stands : l'.slips ≡ l.slips ++ s ∷ []
    handed_stands = ap (λ (v : Ledger). v.slips) (left m l (withdraw h a) (handed s) l' r) ∙ ap (λ (v : Slip). l.slips ++ v ∷ []) (sym is_next)

    pub handed_room : length l.slips < 32
    handed_room = go (row_off _ 11 _ (row_off _ 10 _ allowed).1).0
      where
        go : (not (ltb (length l.slips) 32) || not (ltb l.made most_slips)) ≡ false → length l.slips < 32
        go e = ltb-true (length l.slips) 32 (holds (ltb (length l.slips) 32) (not (ltb l.made most_slips)) e)

  -- ---- a slip that is spent

  pub spend_stands : (w : Spending) (s : Slip) → is_standing s l.slips ≡ true → cause m l (call_of w s) ≡ None
  spend_stands Settle s e = slips.settled m l s e
  spend_stands PutBack s e = slips.given_back m l s e

  pub spend_strange : (w : Spending) (s : Slip) → is_standing s l.slips ≡ false → cause m l (call_of w s) ≡ Some 21
  spend_strange Settle s e = rw e
  spend_strange PutBack s e = rw e

  pub spend_leaves : (w : Spending) (s : Slip) (l' : Ledger) → Answered m l (call_of w s) accepted l' → l'.slips ≡ struck s l.slips
  spend_leaves Settle s l' a = ap (λ (v : Ledger). v.slips) (left m l (settle s) accepted l' a)
  spend_leaves PutBack s l' a = ap (λ (v : Ledger). v.slips) (left m l (put_back s) accepted l' a) ∙ slips_moved (with_slips l (struck s l.slips) l.made) s.holder s.amount

-- ---- a slip that is taken out of a purse

pub taken_none : (ss : List Slip) (n : ℕ) (r : Option Held) → r ≡ None → Others ss (length ss) n → TakenOut ss n r ss
taken_none ss n r e h = subst (λ (o : Option Held). TakenOut ss n o ss) (sym e) (serial_none ss n h, refl)

pub taken_out : (p q : Purse) (n k : ℕ) (r : Option Held) → FirstOf (slips_in p) n k → r ≡ slice_get (held p) k → held q ≡ take k (held p) ++ drop (k + 1) (held p) → TakenOut (slips_in p) n r (slips_in q)
taken_out p q n k r f e h = go r e
  where
    ss : List Slip
    ss = slips_in p

    go : (r : Option Held) → r ≡ slice_get (held p) k → TakenOut ss n r (slips_in q)
    go None e = absurd (there_to_take p k f.within (sym e))
    go (Some s) e =
        let says : slip_of s ≡ get_or ss k no_slip = taken_says p k s (sym e) in (
          serial_first ss n k f ∙ ap Some (sym says),
          ap (λ (v : Slip). is_standing v ss) says ∙ first_stands ss n k f,
          ap (map slip_of) h ∙ slips_taken (held p) k ∙ sym (first_struck ss n k f) ∙ ap (λ (v : Slip). struck v ss) (sym says),
        )
