use Rattle.std.proofs.Common.{◌≡◌, ◌∙◌, refl, ap, arith, rules}
use Rattle.std.specs.Option.{option_map}
use Rattle.std.proofs.lemmas.List.{length-take}
use Rattle.figures.specs.Sums.{total_greatest}
use Rattle.figures.specs.Chosen.{GreatestSum, Moves}
use Rattle.figures.proofs.Chosen.{greatest_sum, greatest_moves_by}
use Rattle.deficits.specs.declared.Picked.{Picked}
use Rattle.deficits.specs.Summed.{amounts, if_summable}
use Rattle.deficits.proofs.Summing.{if_holds, picked_sum, summable_fair, none_negative}
use Rattle.deficits.proofs.sum_of_greatest.Goals as goal

pub returns : goal.returns
returns c =
    let ds = c.args.deficits.now in
    let n = c.args.n in
    let total = total_greatest n (amounts ds) in
    let of_picked : c.map.result ≡ option_map (λ (p : Picked). p.sum) c.pick_greatest-picked.result = search rules in
    let value : c.map.result ≡ if_summable ds total = of_picked ∙ ap (option_map (λ (p : Picked). p.sum)) c.pick_greatest-picked.ensures.value ∙ picked_sum ds n _ (simp length-take (omega (arith, c.min.ensures))) in
    record {
      value = value;
      greatest = if_holds ds _ total (GreatestSum n (amounts ds)) value (λ e. greatest_sum n (amounts ds) total (none_negative ds (summable_fair ds e)) refl);
      moves = if_holds ds _ total (Moves n (amounts ds)) value (λ e. greatest_moves_by n (amounts ds) total refl);
      small = search rules;
    }
