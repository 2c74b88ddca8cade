use Rattle.std.proofs.Common.{sym}
use Rattle.money.proofs.Written.{client_paid, own_paid, favour_paid}
use Rattle.money.proofs.accounts.set_collateral.Goals as goal

pub returns-in-Some : goal.returns-in-Some
returns-in-Some c l a e f p = rw c.in-Client.is (sym e, client_paid l.clients c.args.clients.now c.in-Client.client c.in-Some.row.now c.args.fund a f c.in-Some.ensures.value (rw c.in-Client.is at p))

pub returns-in-Some-get_mut : goal.returns-in-Some-get_mut
returns-in-Some-get_mut c l a e f p = rw c.in-Trader.is (own_paid l.traders c.args.traders.now c.in-Trader.trader c.in-Some-get_mut.row.now c.args.fund a e c.in-Some-get_mut.ensures.value (rw c.in-Trader.is at p), sym f)

pub returns-in-Some-get_mut-2 : goal.returns-in-Some-get_mut-2
returns-in-Some-get_mut-2 c l a e f p = rw c.in-Member.is (favour_paid l.traders c.args.traders.now c.in-Member.trader c.in-Some-get_mut-2.row.now c.args.fund a e c.in-Some-get_mut-2.ensures.value (rw c.in-Member.is at p), sym f)
