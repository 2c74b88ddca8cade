-- Withdrawals by their rows. Assumes nothing.
use Rattle.std.proofs.Common.{◌≡◌, ℕ, Bool, true, false, cond, not, ◌||◌, ltb, length, ℤ, pos, Some, None, Ok, Err, Option, Result, subst, sym, refl, ap, ◌∙◌, arith}
use lib.Signed.{lt_z}
use Rattle.std.proofs.lemmas.Bool.{false≢true}
use Rattle.scenario.specs.Table.{ScenarioTable}
use Rattle.rules.specs.Bounds.{most_standing, most_slips}
use Rattle.rules.specs.Ledger.{Ledger, Holder, Slip, collateral_of, holders_trader}
use Rattle.rules.specs.Limits.{limit}
use Rattle.rules.specs.Causes.{withdraw, cause, entered, short, no_such_holder, is_amount}
use Rattle.rules.specs.Answers.{Answered, refused, handed}
use Rattle.rules.proofs.Answered.{refuses, accepts}
use Rattle.rules.proofs.Rows.{skip}
use Rattle.refusals.specs.declared.Refusal.{Refusal}
use Rattle.refusals.specs.Numbers.{number_of}
use Rattle.book.specs.declared.stubs.Stub.{Stub}
use Rattle.book.specs.Means.{slip_in}
use Rattle.std.specs.Result.{IsErrAnd}
use Rattle.orders.specs.Meant.{holder_of}
use Rattle.money.specs.Paid.{pay_cause, PaidOut}
use Rattle.money.proofs.Paying.{FreeToPay, free_to_pay}

module _ (m : ScenarioTable) (l : Ledger) (h : Holder) (a : ℤ) where
  -- a client falls short of its needs, or its trader's limit is below zero
  abbrev pub uncovered : Bool
  uncovered = short m l h a || lt_z (limit m (entered m l (withdraw h a)) (holders_trader l h)) (pos 0)

  -- what refuses it before needs and limit are looked at
  pub not_paid : (n : ℕ) → Some n ≡ pay_cause l h a → cause m l (withdraw h a) ≡ Some n
  not_paid n e = go (no_such_holder l h) (not (ltb (length l.slips) most_standing) || not (ltb l.made most_slips)) (not (is_amount a)) (lt_z (collateral_of l h) a) (short m l h a) (lt_z (limit m (entered m l (withdraw h a)) (holders_trader l h)) (pos 0)) e
    where
      go : (p q r s t u : Bool) → Some n ≡ cond {A = Option ℕ} p (Some 10) (cond q (Some 11) (cond r (Some 12) (cond s (Some 19) None))) → cond {A = Option ℕ} p (Some 10) (cond q (Some 11) (cond r (Some 12) (cond (s || t || u) (Some 19) None))) ≡ Some n
      go true q r s t u k = sym k
      go false true r s t u k = sym k
      go false false true s t u k = sym k
      go false false false true t u k = sym k
      go false false false false t u k = let z : ◌≡◌ {A = ℕ} 0 1 = cc in absurd (omega arith)

  -- then these decide
  pub paid_if_covered : None ≡ pay_cause l h a → cause m l (withdraw h a) ≡ cond {A = Option ℕ} uncovered (Some 19) None
  paid_if_covered e =
      let f : FreeToPay l h a = free_to_pay l h a e in
      skip _ 10 _ _ f.known (skip _ 11 _ _ f.room (skip _ 12 _ _ (ap not f.fair) (go (lt_z (collateral_of l h) a) (short m l h a) (lt_z (limit m (entered m l (withdraw h a)) (holders_trader l h)) (pos 0)) f.enough)))
    where
      go : (s t u : Bool) → s ≡ false → cond {A = Option ℕ} (s || t || u) (Some 19) None ≡ cond {A = Option ℕ} (t || u) (Some 19) None
      go true t u k = absurd (false≢true (sym k))
      go false t u k = refl

-- what a withdrawal that was tried comes to
module _ (m : ScenarioTable) (l : Ledger) (h : Holder) (a : ℤ) (l' : Ledger) where
  pub withdraw_refused : (e : Refusal) → PaidOut l h a (Err e) l' → Answered m l (withdraw h a) (refused (number_of e)) l
  withdraw_refused e p = refuses m l (withdraw h a) (number_of e) (not_paid m l h a (number_of e) p.caused)

  module _ (s : Stub) (p : PaidOut l h a (Ok s) l') where
    decided : (t : Bool) → t ≡ (short m l h a || lt_z (limit m l' (holders_trader l h)) (pos 0)) → cause m l (withdraw h a) ≡ cond {A = Option ℕ} t (Some 19) None
    decided t e = paid_if_covered m l h a p.caused ∙ ap (λ (k : Ledger). cond {A = Option ℕ} (short m l h a || lt_z (limit m k (holders_trader l h)) (pos 0)) (Some 19) None) (sym p.leaves) ∙ ap (λ (b : Bool). cond {A = Option ℕ} b (Some 19) None) (sym e)

    -- what was asked of the slip was asked of the holder and the amount
    asked : (t : Bool) → (no_such_holder l (holder_of s.holder) ≡ false → t ≡ (short m l (holder_of s.holder) s.amount.amount || lt_z (limit m l' (holders_trader l (holder_of s.holder))) (pos 0))) → t ≡ (short m l h a || lt_z (limit m l' (holders_trader l h)) (pos 0))
    asked t e = subst (λ (x : Slip). no_such_holder l x.holder ≡ false → t ≡ (short m l x.holder x.amount || lt_z (limit m l' (holders_trader l x.holder)) (pos 0))) p.slip e (free_to_pay l h a p.caused).known

    pub withdraw_uncovered : (no_such_holder l (holder_of s.holder) ≡ false → true ≡ (short m l (holder_of s.holder) s.amount.amount || lt_z (limit m l' (holders_trader l (holder_of s.holder))) (pos 0))) → Answered m l (withdraw h a) (refused 19) l
    withdraw_uncovered e = refuses m l (withdraw h a) 19 (decided true (asked true e))

    pub withdraw_paid : false ≡ (short m l h a || lt_z (limit m l' (holders_trader l h)) (pos 0)) → Answered m l (withdraw h a) (handed (slip_in s)) l'
    withdraw_paid e = accepts m l (withdraw h a) (handed (slip_in s)) l' (decided false e) (ap handed p.slip) p.leaves

-- the refusal that a `?` answers
pub err_is : {X : Type 0} (r : Result X Refusal) (e : Refusal) → IsErrAnd r (λ y. y ≡ e) → r ≡ Err e
err_is (Ok x) e p = absurd p
err_is (Err y) e p = ap Err p
