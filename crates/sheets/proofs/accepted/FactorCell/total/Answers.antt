use Rattle.std.proofs.Common.{◌≡◌, ℕ, ◌∙◌, ◌+ℤ◌, ◌*ℤ◌, ℤ, fold, map, pos, w64, rules, tests, ap, arith}
use Rattle.std.proofs.lemmas.Int.{to_z-of_z}
use Rattle.std.proofs.lemmas.Iterator.{YieldsList-from_range, YieldsList-from_map}
use Rattle.std.proofs.lemmas.Iterator.Adapters.{total_from_yields_List}
use Rattle.std.specs.List.{range_with_len}
use Rattle.layout.specs.Fields.{exposure, factor_shock}
use Rattle.inspection.proofs.Accepted.{passes}
use Rattle.scenario.proofs.SignedSums.{sum_fits}
use Rattle.sheets.specs.Sheets.{moved_by_factors, total_below}
use Rattle.sheets.proofs.Records.{total_folded, parts_fit}
use Rattle.sheets.proofs.accepted.FactorCell.total.Goals as goal

pub sum-requires-clause-fits : goal.sum-requires-clause-fits
sum-requires-clause-fits c =
    let at = c.args.self.now in
    let b = at.file.now in
    let g : ℕ → ℤ = λ f. exposure b at.j f *ℤ factor_shock b at.s f in
    let n = c.factor_count.result in
    sum_fits (map g (range_with_len 0 n))
    (YieldsList-from_map _ g (YieldsList-from_range 0 n n (search rules) (omega arith)) c.map.ensures.closure (λ x r q k. search (rules, tests)))
    (rw c.factor_count.ensures (parts_fit b (passes b at.passed) at.factored at.j at.s at.known at.stated))

pub returns : goal.returns
unfolding moved_by_factors
returns c =
    let at = c.args.self.now in
    let b = at.file.now in
    let g : ℕ → ℤ = λ f. exposure b at.j f *ℤ factor_shock b at.s f in
    let n = c.factor_count.result in
    let is : c.sum.result ≡ fold ◌+ℤ◌ (pos 0) (map g (range_with_len 0 n)) =
    total_from_yields_List ◌+ℤ◌ (pos 0) c.sum.result c.sum.ensures.ran (YieldsList-from_map _ g (YieldsList-from_range 0 n n (search rules) (omega arith)) c.map.ensures.closure (λ x r q k. search (rules, tests))) in
    to_z-of_z w64 c.sum.result (record { sfits = c.sum.type_inv }) ∙ is ∙ total_folded g n ∙ ap (λ k. total_below k g) c.factor_count.ensures
