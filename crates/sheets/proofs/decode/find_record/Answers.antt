use Rattle.std.proofs.Common.{◌≡◌, ap, ◌∙◌, rules, tests}
use Rattle.std.proofs.lemmas.Iterator.{first_from_Range}
use Rattle.layout.specs.Fields.{number}
use Rattle.sheets.specs.Sheets.{find}
use Rattle.sheets.proofs.Finds.{first_is}
use Rattle.sheets.proofs.decode.find_record.Goals as goal

pub returns : goal.returns
returns c =
    let b = c.args.file.now in
    let first = first_from_Range _ _ _ c.find.result (λ j. number b j ≡ c.args.contract) (λ j. number b j ≡ c.args.contract → ⊥) c.find.ensures.ran (λ x q k. search (rules, tests)) (λ x q k. search (rules, tests)) in
    first_is b c.args.contract c.contract_count.result c.find.result first ∙ ap (find b c.args.contract) c.contract_count.ensures
