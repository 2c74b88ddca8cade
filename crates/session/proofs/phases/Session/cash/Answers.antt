use Rattle.std.proofs.Common.{refl, ap, subst, w64}
use Rattle.std.proofs.lemmas.Int.{to_z-of_z}
use Rattle.orders.specs.Replied.{answered}
use Rattle.rules.specs.Answers.{Answered, accepted}
use Rattle.rules.specs.Causes.{Call, cash}
use Rattle.book.specs.Ledgers.{ledger_in}
use Rattle.session.proofs.phases.Session.cash.Goals as goal

pub returns : goal.returns
returns g c =
    let m = g.M.ScenarioModel.table c.args.self.now.model in
    record {
      rules = subst (λ (x : Call). Answered m (ledger_in c.args.self.now.book) x (answered {X = Unit {0}} (λ _. accepted) c.set_cash.result) (ledger_in c.set_cash.new.book)) (ap (cash c.args.client) (to_z-of_z w64 c.args.amount c.ranges.amount)) (c.set_cash.ensures m);
      model = refl;
    }
