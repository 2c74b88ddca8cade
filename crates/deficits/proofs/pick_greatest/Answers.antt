use Rattle.std.proofs.Common.{◌≡◌, true, length, ℤ, Some, None, sym, ap, ◌∙◌, arith, w64, to_z, of_z}
use Rattle.std.proofs.lemmas.Int.{to_z-of_z}
use Rattle.std.proofs.lemmas.Bool.{cond-true}
use Rattle.figures.specs.Sums.{total, total_greatest}
use Rattle.deficits.specs.Summed.{amounts, summable}
use Rattle.figures.proofs.Chosen.{greatest_sum}
use Rattle.deficits.proofs.Ranking.{kept_total}
use Rattle.deficits.proofs.Summing.{now_summable, summable_fair, summable_kept, none_negative}
use Rattle.deficits.proofs.pick_greatest.Goals as goal
use Rattle.deficits.proofs.pick_greatest.Goals.{After-keep_greatest-count}

ok : (c : After-keep_greatest-count) → summable c.args.deficits.now ≡ true
ok c = now_summable c.args.deficits.now (omega arith) c.if-not-are_fair.ensures

pub total_of-requires : goal.total_of-requires
total_of-requires c =
    let c' = (goal.at.total_of-requires c).After-keep_greatest-count in
    ap summable c'.keep_greatest-count.ensures.held ∙ summable_kept c.args.deficits.now (ok c') (length c.args.cells.now)

pub returns : goal.returns
returns c =
    let c' = (goal.at.returns c).After-keep_greatest-count in
    let ds = c.args.deficits.now in
    let n = length c.args.cells.now in
    let k = c.keep_greatest-count.ensures in
    let bits = to_z-of_z w64 c.total_of.result (record { sfits = c.total_of.type_inv }) in
    let is : to_z w64 (of_z w64 c.total_of.result) ≡ total_greatest n (amounts ds) =
    bits ∙ c.total_of.ensures.value ∙ ap (λ l. total (λ (x : ℤ). x) (amounts l)) k.held ∙ kept_total n ds in
    record {
      value = (λ i. Some (record { count = k.count i; sum = is i })) ∙ sym (cond-true (summable ds) _ None (ok c'));
      held = record { count = k.count; held = k.held; rest = k.rest; size = c.keep_greatest-count.auto.cells };
      greatest = k.greatest;
      only = k.only;
      sum = greatest_sum n (amounts ds) _ (none_negative ds (summable_fair ds (ok c'))) is;
      small = rw bits c.total_of.ensures.small;
    }
