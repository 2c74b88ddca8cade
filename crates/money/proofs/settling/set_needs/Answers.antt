use Rattle.std.proofs.Common.{◌≡◌, ℕ, ◌+◌, map, length, get_or, ℤ, pos, ap, ◌∙◌, arith, length-set, List, rules}
use Rattle.std.proofs.lemmas.List.{get_or-set_other, get_or_default}
use Rattle.cells.proofs.Rowed.{one_more, listed_rows}
use Rattle.rules.specs.Causes.{opened}
use Rattle.book.specs.declared.clients.Client.{Client}
use Rattle.book.specs.Means.{client_in}
use Rattle.money.proofs.Settled.{all_needs, with_need}
use Rattle.money.proofs.settling.set_needs.Goals as goal

pub loop-place-preserved : goal.loop-place-preserved
loop-place-preserved c =
    let ys = c.loop-place.row-items in
    let k = c.loop-place.place in
    let inv = c.loop-place.invariant in
    let f : ℕ → ℤ = λ n. get_or c.args.needs.now n (pos 0) in
    let x = get_or ys k c.row-item.result in (
      length-set ys k _ ∙ inv.0,
      λ j d h. get_or-set_other ys k j _ d (λ e. omega arith) ∙ inv.1 j d (omega arith),
      one_more (λ j x y. client_in y ≡ with_need (f j) (client_in x)) _ ys k _ (omega arith) inv.2 (λ d. ap (λ (n : ℤ). with_need n (client_in x)) (search rules) ∙ ap (λ (v : Client). with_need (f k) (client_in v)) (get_or_default ys k c.row-item.result d (omega arith) ∙ inv.1 k d (omega arith))),
    )

pub returns : goal.returns
returns c =
    let ws = c.loop-place.row-items in
    let xs = c.as_mut_slice-row-items.result.now in
    let inv = c.loop-place.invariant in
    let is = c.as_mut_slice-row-items.ensures.value in
    let f : ℕ → ℤ = λ n. get_or c.args.needs.now n (pos 0) in
    ap (map client_in) (listed_rows c.args.clients.now ws (inv.0 ∙ ap length is))
    ∙ all_needs f 0 ws xs inv.0 (λ i d h. inv.2 i d (omega arith) ∙ ap (λ (n : ℕ). with_need (f n) (client_in (get_or xs i d))) (let e : i ≡ 0 + i = omega arith in e))
    ∙ ap (λ (v : List Client). opened f 0 (map client_in v)) is
