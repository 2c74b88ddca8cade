use Rattle.std.proofs.Common.{◌≡◌, ◌≤◌, ℤ, nat_abs, sym, ap, ◌∙◌, subst, arith, w32, w64, SFits, to_z, of_z, rules}
use Rattle.std.proofs.lemmas.Int.{to_z-of_z, ints}
use Rattle.rounding.specs.Rounding.{parts, nearest}
use Rattle.inspection.proofs.Accepted.{passes}
use Rattle.sheets.specs.Sheets.{moved_by_factors}
use Rattle.sheets.proofs.Records.{nearest_small, total_within}
use Rattle.sheets.proofs.accepted.FactorCell.gain.Goals as goal

rounds : (c : goal.After-rounded) → c.rounded.result ≡ nearest parts (moved_by_factors c.args.self.now.file.now c.args.self.now.j c.args.self.now.s)
rounds c =
    let ft : SFits w64 c.total.result = search rules in
    let n : c.rounded.result ≡ nearest parts c.total.result = simp to_z-of_z at c.rounded.ensures.value in
    n ∙ ap (nearest parts) c.total.ensures

small : (c : goal.After-rounded) → nat_abs c.rounded.result ≤ 100000000
small c =
    let P : ℤ → Type 0 = λ z. nat_abs z ≤ 100000000 in
    subst P (sym (rounds c)) (nearest_small (moved_by_factors c.args.self.now.file.now c.args.self.now.j c.args.self.now.s) (total_within _ (passes _ c.args.self.now.passed) c.args.self.now.factored _ _ c.args.self.now.known c.args.self.now.stated))

pub overflow_cast-result : goal.overflow_cast-result
overflow_cast-result c =
    let b = small c in
    let fr : SFits w64 c.rounded.result = search rules in
    rw (to_z-of_z _ _ fr) (omega (arith, ints))

pub returns : goal.returns
returns c =
    let b = small c in
    let fr : SFits w64 c.rounded.result = search rules in
    let gr : SFits w32 c.rounded.result = omega (arith, ints) in
    let q : to_z w32 (of_z w32 (to_z w64 (of_z w64 c.rounded.result))) ≡ c.rounded.result = ap (λ (z : ℤ). to_z w32 (of_z w32 z)) (to_z-of_z _ _ fr) ∙ to_z-of_z _ _ gr in
    q ∙ rounds c
