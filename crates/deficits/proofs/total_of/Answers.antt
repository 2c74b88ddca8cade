use Rattle.std.proofs.Common.{◌≡◌, ◌∙◌, ◌+ℤ◌, fold, pos, w64, rules}
use Rattle.std.proofs.lemmas.Int.{to_z-of_z}
use Rattle.deficits.specs.Summed.{amounts}
use Rattle.std.proofs.lemmas.Iterator.{YieldsList-from_slice, YieldsList-from_map}
use Rattle.std.proofs.lemmas.Iterator.Adapters.{total_from_yields_List}
use Rattle.scenario.proofs.SignedSums.{sum_fits}
use Rattle.deficits.proofs.Summing.{amounts_fit, amounts_sum}
use Rattle.deficits.proofs.total_of.Goals as goal

pub sum-requires-clause-fits : goal.sum-requires-clause-fits
sum-requires-clause-fits c =
    let ds = c.args.deficits.now in
    sum_fits (amounts ds) (YieldsList-from_map _ (λ d. d.amount) (YieldsList-from_slice ds cc) c.map.ensures.closure (λ x r q k. search rules)) (amounts_fit ds c.requires)

pub returns : goal.returns
returns c =
    let ds = c.args.deficits.now in
    let bits = to_z-of_z w64 c.sum.result (record { sfits = c.sum.type_inv }) in
    let is : c.sum.result ≡ fold ◌+ℤ◌ (pos 0) (amounts ds) =
    total_from_yields_List ◌+ℤ◌ (pos 0) c.sum.result c.sum.ensures.ran (YieldsList-from_map _ (λ d. d.amount) (YieldsList-from_slice ds cc) c.map.ensures.closure (λ x r q k. search rules)) in
    let sum = amounts_sum ds c.requires c.sum.result is in
    record { value = bits ∙ sum.0; small = rw bits sum.1 }
