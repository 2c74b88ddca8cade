use Rattle.std.proofs.Common.{◌-ℤ◌, ◌∙◌, arith, w64, SFits, to_z, of_z, rules}
use lib.Signed.{lt_z}
use Rattle.std.specs.Int.{int_max}
use Rattle.std.proofs.lemmas.Int.{ints, to_z-of_z}
use Rattle.figures.proofs.Sizes.{kept64}
use Rattle.session.proofs.phases.releasing.leaves_less.Goals as goal

pub returns : goal.returns
returns c =
    let t = c.args.client in
    let n : SFits w64 t.opening_need = search rules in
    let p = kept64 t.collateral.amount (omega (arith, ints, t.collateral.low, t.collateral.high)) in
    let q = kept64 c.args.amount.amount (omega (arith, ints, c.args.amount.low, c.args.amount.high)) in
    let left = (λ i. to_z w64 (of_z w64 (p i -ℤ q i))) ∙ kept64 (t.collateral.amount -ℤ c.args.amount.amount) (omega (arith, ints, t.collateral.low, t.collateral.high, c.args.amount.low, c.args.amount.high)) in
    let most = to_z-of_z w64 c.max.result (record { sfits = c.max.type_inv }) ∙ c.max.ensures.value ∙ (λ i. int_max (to_z-of_z w64 t.opening_need n i) (to_z-of_z w64 c.args.need c.ranges.need i)) in
    λ i. lt_z (left i) (most i)
