use Rattle.std.proofs.Common.{◌≡◌, ◌∙◌, arith}
use Rattle.std.proofs.lemmas.Bool.Decides.{nat_tests}
use Rattle.std.proofs.lemmas.Grind.{common_steps}
use Rattle.layout.specs.Kinds.{kind_number}
use Rattle.layout.specs.Fields.{kind}
use Rattle.inspection.specs.Causes.{wrong_kind}
use Rattle.inspection.proofs.Accepted.{accepted_from_none, passes}
use Rattle.answers.proofs.Fits.{named, sheet_whole}
use Rattle.answers.proofs.sheet_line.Goals as goal

pub unwrap-kind-requires : goal.unwrap-kind-requires
unfolding wrong_kind
unwrap-kind-requires c =
    let known = (passes _ (accepted_from_none _ c.requires.passed)).kind in
    grind (arith, nat_tests)

pub returns : goal.returns
returns c =
    let number : kind_number c.unwrap-kind.result ≡ kind c.args.file.now = grind (arith, common_steps) in
    sheet_whole c.args.place c.contract_count.result c.scenario_count.result c.args.file.now c.text.result.now _ (omega arith) (omega arith) (omega arith) (c.text.ensures ∙ named c.unwrap-kind.result _ number) c.contract_count.ensures c.scenario_count.ensures c.of.ensures
