use Rattle.std.proofs.Common.{◌≡◌, pos, sym, ap, ◌∙◌, arith, w32, to_z, of_z}
use Rattle.std.proofs.lemmas.Bool.Decides.{nat_tests}
use Rattle.std.proofs.lemmas.Int.{ints}
use Rattle.layout.specs.Fields.{kind}
use Rattle.layout.specs.Kinds.{kind_number}
use Rattle.inspection.proofs.Accepted.{passes, few_contracts, small_payoff}
use Rattle.sheets.specs.Sheets.{record_shock}
use Rattle.sheets.proofs.accepted.Accepted.shock_of.Goals as goal

pub overflow_add-j : goal.overflow_add-j
overflow_add-j c = let few = few_contracts _ (passes _ c.args.self.now.passed) in omega arith

pub returns-then-s-j : goal.returns-then-s-j
unfolding record_shock
returns-then-s-j c =
    let k : kind c.args.self.now.file.now ≡ 3 = sym c.args.self.now.named ∙ ap kind_number c.in-Strikes.is in
    let b = small_payoff _ (passes _ c.args.self.now.passed) k in
    let e : to_z w32 c.payoff_field.result ≡ pos c.payoff_field.result = omega (arith, ints) in
    let v : pos c.payoff_field.result ≡ record_shock c.args.self.now.file.now c.args.j c.args.s = grind (arith, nat_tests) in
    ap (λ z. to_z w32 (of_z w32 z)) (c.cast_signed.ensures ∙ e) ∙ e ∙ v
