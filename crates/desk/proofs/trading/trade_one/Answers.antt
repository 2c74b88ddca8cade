use Rattle.std.proofs.Common.{sym, refl, ◌∙◌}
use Rattle.orders.specs.Meant.{holder_of}
use Rattle.session.specs.Phases.{open_ledger}
use Rattle.rules.proofs.Funds.{slips_moved}
use Rattle.desk.proofs.Slips.{slips_kept}
use Rattle.desk.proofs.trading.trade_one.Goals as goal

pub returns-in-Deposit-clause-held : goal.returns-in-Deposit-clause-held
returns-in-Deposit-clause-held g c = let l = open_ledger c.args.session.now in c.requires ∙ sym (slips_kept (g.M.ScenarioModel.table c.args.session.now.model) l _ _ _ (slips_moved l (holder_of c.in-Deposit.holder) _) c.deposit.ensures.rules)

pub returns-in-Trade-clause-held : goal.returns-in-Trade-clause-held
returns-in-Trade-clause-held g c = c.requires ∙ sym (slips_kept (g.M.ScenarioModel.table c.args.session.now.model) (open_ledger c.args.session.now) _ _ _ refl c.trade.ensures.rules)

pub returns-in-Cancel-clause-held : goal.returns-in-Cancel-clause-held
returns-in-Cancel-clause-held g c = c.requires ∙ sym (slips_kept (g.M.ScenarioModel.table c.args.session.now.model) (open_ledger c.args.session.now) _ _ _ refl c.cancel.ensures.rules)
