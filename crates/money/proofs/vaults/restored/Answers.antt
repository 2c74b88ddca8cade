use Rattle.std.proofs.Common.{◌≡◌, ℤ, pos, ◌+ℤ◌, ◌≤ℤ◌, ◌∙◌, None, Some, Option, IsSomeAnd, arith}
use Rattle.std.proofs.lemmas.Int.{ints}
use Rattle.book.specs.Funded.{fund_if, meant_fund}
use Rattle.book.specs.Ledgers.{ledger_in}
use Rattle.book.specs.Means.{slip_in}
use Rattle.book.specs.declared.funds.Fund.{Fund}
use Rattle.orders.specs.Meant.{holder_of}
use Rattle.rules.specs.Ledger.{collateral_of}
use Rattle.money.proofs.Paying.{held_or_none, fits_fund, some_fund, room_for_back}
use Rattle.money.proofs.vaults.restored.Goals as goal

pub returns : goal.returns
returns c =
    let l = ledger_in c.args.book.now in
    let h = holder_of c.args.stub.holder in
    let r = room_for_back c.args.book.now (slip_in c.args.stub) c.requires in
    let x = c.unwrap_or_default.result in
    let e = held_or_none l h c.collateral.result x c.collateral.ensures c.unwrap_or_default.ensures in
    let a = c.args.stub.amount in
    some c.checked_add.result x.amount (collateral_of l h) a.amount c.checked_add.ensures (omega (arith, ints, x.low, a.low)) r.1 e
  where
    some : (o : Option Fund) (u x a : ℤ) → meant_fund o ≡ fund_if (u +ℤ a) → pos 0 ≤ℤ (u +ℤ a) → (x +ℤ a) ≤ℤ pos 1000000000000000 → u ≡ x → IsSomeAnd o (λ f. f.amount ≡ x +ℤ a)
    some None u x a m l h e = absurd (fits_fund (u +ℤ a) l (rw e h) m)
    some (Some f) u x a m l h e = some_fund f (u +ℤ a) m ∙ (λ i. e i +ℤ a)
