use Rattle.std.proofs.Common.{refl, subst, w64}
use Rattle.std.proofs.lemmas.Int.{to_z-of_z}
use Rattle.orders.specs.Replied.{answered}
use Rattle.rules.specs.Answers.{Answered, numbered}
use Rattle.rules.specs.Causes.{Call, trader}
use Rattle.book.specs.Ledgers.{ledger_in}
use Rattle.session.proofs.phases.Preparation.trader.Goals as goal

pub returns : goal.returns
returns g c =
    let m = g.M.ScenarioModel.table c.args.self.now.model in
    let p = to_z-of_z w64 c.args.intraday c.ranges.intraday in
    let q = to_z-of_z w64 c.args.defaults c.ranges.defaults in
    record {
      rules = subst (λ (x : Call). Answered m (ledger_in c.args.self.now.book) x (answered numbered c.enter_trader.result) (ledger_in c.enter_trader.new.book)) (λ i. trader (p i) (q i)) (c.enter_trader.ensures m);
      model = refl;
    }
