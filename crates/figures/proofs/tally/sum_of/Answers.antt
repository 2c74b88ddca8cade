use Rattle.std.proofs.Common.{◌≡◌, ℕ, ◌≤◌, List, length, ℤ, pos, ◌+ℤ◌, nat_abs, sym, ap, ◌∙◌, subst, arith, take, fold, w64}
use Rattle.std.proofs.lemmas.Int.{ints, to_z-of_z}
use Rattle.std.proofs.lemmas.Iterator.{YieldsList-from_slice}
use Rattle.std.proofs.lemmas.Iterator.Adapters.{total_from_yields_List}
use Rattle.std.proofs.lemmas.Iterator.Consumers.{YieldsList-from_copied}
use Rattle.figures.specs.Losses.{at}
use Rattle.figures.specs.Sums.{total}
use Rattle.scenario.proofs.SignedSums.{sum_fits}
use Rattle.figures.proofs.SignedSums.{total_folded}
use Rattle.figures.proofs.Summing.{firsts_small}
use Rattle.figures.proofs.tally.sum_of.Goals as goal

pub sum-requires-clause-fits : goal.sum-requires-clause-fits
sum-requires-clause-fits c =
    let xs = c.as_slice.result.now in
    let long : length xs ≤ 8 = omega (arith, ap length c.as_slice.ensures.value, c.as_slice.ensures.few) in
    let small : (k : ℕ) → nat_abs (at xs k) ≤ 11264000000000000 = λ k. subst (λ (ys : List ℤ). nat_abs (at ys k) ≤ 11264000000000000) (sym c.as_slice.ensures.value) (c.requires k) in
    sum_fits xs (YieldsList-from_copied (YieldsList-from_slice xs cc)) (λ n. omega (arith, ints, total_folded (pos 0) (take n xs), firsts_small xs 11264000000000000 n small))

from_none : (z : ℤ) → pos 0 +ℤ z ≡ z
from_none z = omega (arith, ints)

pub returns : goal.returns
returns c =
    let xs = c.as_slice.result.now in
    let is : c.sum.result ≡ fold ◌+ℤ◌ (pos 0) xs = total_from_yields_List ◌+ℤ◌ (pos 0) c.sum.result c.sum.ensures.ran (YieldsList-from_copied (YieldsList-from_slice xs cc)) in
    to_z-of_z w64 c.sum.result (record { sfits = c.sum.type_inv })
    ∙ is
    ∙ total_folded (pos 0) xs
    ∙ from_none (total (λ (x : ℤ). x) xs)
    ∙ ap (total (λ (x : ℤ). x)) c.as_slice.ensures.value
