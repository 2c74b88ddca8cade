use Rattle.std.proofs.Common.{◌≡◌, ℕ, ◌<◌, ◌≤◌, length, ℤ, ◌+ℤ◌, nat_abs, ap, ◌∙◌, subst, arith, w64, to_z, of_z}
use Rattle.figures.specs.Figures.{moves}
use Rattle.figures.specs.Losses.{at, Added}
use Rattle.figures.specs.Positions.{position_of}
use Rattle.figures.proofs.Sizes.{kept64, both_kept}
use Rattle.figures.proofs.Summing.{added_more}
use Rattle.figures.proofs.rows.add_each.Goals as goal

pub loop-scenario-preserved : goal.loop-scenario-preserved
loop-scenario-preserved g c =
    let l = c.loop-scenario in
    let moved = kept64 c.moves.result (omega (arith, c.moves.ensures.small)) ∙ c.moves.ensures.value in
    let v = c.lost.ensures.value ∙ ap (g.C.Counting.lost (to_z w64 (of_z w64 c.args.mark))) moved in
    let inside : l.scenario < length l.sums = omega arith in
    added_more c.args.sums.now l.sums l.scenario _ g.C.Counting.most _ inside l.invariant
    (both_kept (at l.sums l.scenario) c.lost.result (rw (l.invariant.rest l.scenario (omega arith)) (omega (arith, c.requires.1.1 l.scenario))) (omega (arith, c.lost.ensures.small, g.met.C.Counting.few)) ∙ ap (λ (z : ℤ). at l.sums l.scenario +ℤ z) v)
    (subst (λ (z : ℤ). nat_abs z ≤ g.C.Counting.most) v c.lost.ensures.small)

pub returns : goal.returns
returns g c =
    let m = g.M.ScenarioModel.table c.args.model.now in
    let t = position_of c.args.position.now in
    let sums = c.args.sums.now in
    let l = c.loop-scenario in
    let done : l.scenario ≡ length sums = omega arith in
    let same = kept64 c.args.mark (omega (arith, c.requires.1.0)) in
    let exact = subst (λ (j : ℕ). Added sums l.sums j (λ s. g.C.Counting.lost (to_z w64 (of_z w64 c.args.mark)) (moves m s t)) g.C.Counting.most) done l.invariant in
    subst (λ (z : ℤ). Added sums l.sums (length sums) (λ s. g.C.Counting.lost z (moves m s t)) g.C.Counting.most) same exact
