use Rattle.std.proofs.Common.{rules, ◌≡◌, ℕ, ◌≤◌, length, take, ◌∙◌, subst, arith, w64, to_z, of_z, ℤ}
use Rattle.std.proofs.lemmas.List.{length-take}
use Rattle.figures.specs.Figures.{moves}
use Rattle.figures.specs.Losses.{Added}
use Rattle.figures.specs.Positions.{position_of}
use Rattle.figures.proofs.Sizes.{kept64}
use Rattle.figures.proofs.Summing.{added_front}
use Rattle.figures.proofs.rows.add_losses.Goals as goal

pub returns : goal.returns
returns g c =
    let m = g.M.ScenarioModel.table c.args.model.now in
    let law = g.met.M.ScenarioModel.lawful c.args.model.now in
    let t = position_of c.args.position.now in
    let row = c.args.row.now in
    let n = c.from.result in
    let k = m.scenarios c.args.k in
    let wide : length row ≡ 64 = search rules in
    let same_n : n ≡ k = omega (arith, c.from.ensures, c.scenarios.ensures) in
    let short : length (take n row) ≡ k = omega (arith, same_n, wide, length-take n row, law.few_scenarios c.args.k) in
    let same = kept64 c.args.mark (omega (arith, c.requires.0)) in
    let exact = subst (λ (j : ℕ). Added (take n row) c.add_each.new.sums j (λ s. g.C.Counting.lost (to_z w64 (of_z w64 c.args.mark)) (moves m s t)) g.C.Counting.most) short c.add_each.ensures in
    added_front row c.add_each.new.sums n k _ g.C.Counting.most (search rules) same_n
    (subst (λ (z : ℤ). Added (take n row) c.add_each.new.sums k (λ s. g.C.Counting.lost z (moves m s t)) g.C.Counting.most) same exact)
