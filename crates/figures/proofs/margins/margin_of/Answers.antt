use Rattle.std.proofs.Common.{rules, ◌≡◌, ◌≤◌, ◌*◌, length, take, replicate, List, ℤ, ℕ, pos, nat_abs, sym, refl, ap, ◌∙◌, subst, arith}
use Rattle.std.proofs.lemmas.List.{length-take, take_all}
use Rattle.figures.specs.declared.position.Position.{Position as Kept}
use Rattle.figures.specs.Losses.{at, lost_together, loses_in, losses_in, Added, Holds}
use Rattle.figures.specs.Positions.{position_of, positions_of}
use Rattle.figures.specs.Sums.{greatest_below}
use Rattle.figures.proofs.Adding.{total_next}
use Rattle.figures.proofs.Greatest.{greatest_small}
use Rattle.figures.proofs.Meanings.{margin_is}
use Rattle.figures.proofs.Sizes.{kept64, most_more}
use Rattle.figures.proofs.Summing.{zero_at, holds_zero, holds_front, holds_more, holds_same}
use Rattle.figures.proofs.margins.margin_of.Goals as goal

pub loop-position-init : goal.loop-position-init
loop-position-init g c =
    let law = g.met.M.ScenarioModel.lawful c.args.model.now in
    let n = c.from.result in
    let same : n ≡ (g.M.ScenarioModel.table c.args.model.now).scenarios c.args.k = omega (arith, c.from.ensures, c.scenarios.ensures) in (
      omega (arith, same, length-take n (replicate 64 (pos 0)), law.few_scenarios c.args.k),
      omega arith,
      subst (λ (j : ℕ). Holds (take n (replicate 64 (pos 0))) j (λ _. pos 0) 0) same (holds_front (replicate 64 (pos 0)) n _ _ (holds_zero (replicate 64 (pos 0)) n (zero_at 64))),
    )

pub loop-position-preserved : goal.loop-position-preserved
loop-position-preserved g c =
    let m = g.M.ScenarioModel.table c.args.model.now in
    let xs = c.args.positions.all.now in
    let l = c.loop-position in
    let i = l.position-index in
    let x = c.position-item.result in
    let k = c.args.k in
    let one : ℕ → _ = λ s. loses_in m (λ _. 0) lost_together k s (position_of x) in (
      search rules,
      omega arith,
      holds_more l.sums _ (m.scenarios k) _ one _ (1000000000000 * i) 1000000000000 _ l.invariant.2 (subst (λ (n : ℕ). Added l.sums c.count_in.new.sums n one 1000000000000) l.invariant.0 c.count_in.ensures) (λ s. total_next position_of (loses_in m (λ _. 0) lost_together k s) xs i x _ _ c.loop-position-test.true c.position-item.is refl refl) (most_more 1000000000000 i),
    )

pub returns : goal.returns
returns g c =
    let m = g.M.ScenarioModel.table c.args.model.now in
    let law = g.met.M.ScenarioModel.lawful c.args.model.now in
    let l = c.loop-position in
    let row = l.sums in
    let k = m.scenarios c.args.k in
    let ts = positions_of c.args.positions.all.now in
    let xs = c.args.positions.all.now in
    let i = l.position-index in
    let all : take i xs ≡ xs = take_all i xs c.loop-position-test.false in
    let held : Holds row k (losses_in m (λ _. 0) lost_together ts c.args.k) 1024000000000000 = holds_same row k _ _ (1000000000000 * i) _ l.invariant.2 (λ s. ap (λ (ps : List Kept). losses_in m (λ _. 0) lost_together (positions_of ps) c.args.k s) all) (omega (arith, l.invariant.1, c.args.positions.few)) in
    let small : nat_abs c.greatest_of.result ≤ 1024000000000000 = subst (λ (z : ℤ). nat_abs z ≤ 1024000000000000) (sym c.greatest_of.ensures) (greatest_small (length row) 1024000000000000 (at row) held.small) in
    let e = kept64 c.greatest_of.result (omega (arith, small)) in
    record {
      value = e ∙ c.greatest_of.ensures ∙ ap (λ (j : ℕ). greatest_below j (at row)) l.invariant.0 ∙ margin_is m law (λ _. 0) ts c.args.k k row 1024000000000000 refl held;
      small = rw e small;
    }
