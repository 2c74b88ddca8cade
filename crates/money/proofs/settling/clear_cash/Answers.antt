use Rattle.std.proofs.Common.{◌≡◌, map, length, get_or, pos, ap, ◌∙◌, arith, length-set, List}
use Rattle.std.proofs.lemmas.List.{get_or-set_other, get_or_default}
use Rattle.cells.proofs.Rowed.{one_more, listed_rows}
use Rattle.rules.specs.Causes.{with_cash}
use Rattle.book.specs.declared.clients.Client.{Client}
use Rattle.book.specs.Means.{client_in}
use Rattle.money.proofs.Settled.{all_cash}
use Rattle.money.proofs.settling.clear_cash.Goals as goal

pub loop-row-preserved : goal.loop-row-preserved
loop-row-preserved c =
    let ys = c.loop-row.row-items in
    let k = c.loop-row.row-index in
    let inv = c.loop-row.invariant in
    let x = get_or ys k c.row-item.result in
    let z : Client = record { trader = x.trader; collateral = x.collateral; cash = c.none-row.result; opening_need = x.opening_need } in (
      length-set ys k z ∙ inv.0,
      λ j d h. get_or-set_other ys k j z d (λ e. omega arith) ∙ inv.1 j d (omega arith),
      one_more (λ j x y. client_in y ≡ with_cash (pos 0) (client_in x)) _ ys k z (omega arith) inv.2 (λ d. let e = get_or_default ys k c.row-item.result d (omega arith) ∙ inv.1 k d (omega arith) in λ j. record { trader = (e j).trader; collateral = (e j).collateral.amount; cash = c.none-row.ensures j; opening_need = (e j).opening_need }),
    )

pub returns : goal.returns
returns c =
    let ws = c.loop-row.row-items in
    let xs = c.as_mut_slice-row-items.result.now in
    let inv = c.loop-row.invariant in
    let is = c.as_mut_slice-row-items.ensures.value in
    ap (map client_in) (listed_rows c.args.clients.now ws (inv.0 ∙ ap length is))
    ∙ all_cash (pos 0) ws xs inv.0 (λ i d h. inv.2 i d (omega arith))
    ∙ ap (λ (v : List Client). map (with_cash (pos 0)) (map client_in v)) is
