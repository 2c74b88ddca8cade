use Rattle.std.proofs.Common.{refl, ap, subst, w64}
use Rattle.std.proofs.lemmas.Int.{to_z-of_z}
use Rattle.orders.specs.Meant.{holder_of}
use Rattle.orders.specs.Replied.{answered}
use Rattle.rules.specs.Answers.{Answered, accepted}
use Rattle.rules.specs.Causes.{Call, deposit}
use Rattle.book.specs.Ledgers.{ledger_in}
use Rattle.session.proofs.phases.Preparation.deposit.Goals as goal

pub returns : goal.returns
returns g c =
    let m = g.M.ScenarioModel.table c.args.self.now.model in
    record {
      rules = subst (λ (x : Call). Answered m (ledger_in c.args.self.now.book) x (answered {X = Unit {0}} (λ _. accepted) c.deposit.result) (ledger_in c.deposit.new.book)) (ap (deposit (holder_of c.args.holder)) (to_z-of_z w64 c.args.amount c.ranges.amount)) (c.deposit.ensures m);
      model = refl;
    }
