use Rattle.std.proofs.Common.{ℤ, Ok, Err, Result, sym, refl, subst, w64}
use Rattle.std.proofs.lemmas.Int.{to_z-of_z}
use Rattle.orders.specs.Meant.{holder_of}
use Rattle.orders.specs.Replied.{answered}
use Rattle.refusals.specs.declared.Refusal.{Refusal}
use Rattle.rules.specs.Answers.{Answered, handed}
use Rattle.rules.specs.Causes.{withdraw}
use Rattle.book.specs.Ledgers.{ledger_in}
use Rattle.money.specs.Paid.{PaidOut}
use Rattle.session.specs.declared.slips.Slip.{Slip}
use Rattle.session.specs.Phases.{slip_of}
use Rattle.session.proofs.Releases.{withdraw_refused, withdraw_uncovered, err_is}
use Rattle.session.proofs.phases.Session.withdraw.Given as given
use Rattle.session.proofs.phases.Session.withdraw.Goals as goal
use Rattle.session.proofs.phases.Session.withdraw.Goals.{In_ok-stub}

paid : (g : given.Over) (c : In_ok-stub g) → PaidOut (ledger_in c.args.self.now.book) (holder_of c.args.holder) c.args.amount (Ok c.in_ok-stub.stub) (ledger_in c.pay_out.new.book)
paid g c = subst (λ (z : ℤ). PaidOut (ledger_in c.args.self.now.book) (holder_of c.args.holder) z (Ok c.in_ok-stub.stub) (ledger_in c.pay_out.new.book)) (to_z-of_z w64 c.args.amount c.ranges.amount) c.in_ok-stub.ensures

pub returns-in_err-stub : goal.returns-in_err-stub
returns-in_err-stub g c =
    let m = g.M.ScenarioModel.table c.args.self.now.model in
    let l = ledger_in c.args.self.now.book in
    let h = holder_of c.args.holder in
    let k = ledger_in c.pay_out.new.book in
    let e = c.in_err-stub.field-0.0 in
    record {
      rules = subst (λ (r : Result Slip Refusal). Answered m l (withdraw h c.args.amount) (answered (λ s. handed (slip_of s)) r) l) (sym (err_is c.from_residual.result e c.from_residual.ensures.1))
          (withdraw_refused m l h c.args.amount k e (subst (λ (z : ℤ). PaidOut l h z (Err e) k) (to_z-of_z w64 c.args.amount c.ranges.amount) c.in_err-stub.ensures));
      model = refl;
    }

pub returns-then-is_uncovered : goal.returns-then-is_uncovered
returns-then-is_uncovered g c =
    let m = g.M.ScenarioModel.table c.args.self.now.model in
    record { rules = withdraw_uncovered m (ledger_in c.args.self.now.book) (holder_of c.args.holder) c.args.amount (ledger_in c.pay_out.new.book) c.in_ok-stub.stub (paid g (goal.at.returns-then-is_uncovered g c).In_ok-stub) c.if-is_uncovered.ensures; model = refl }
