use Rattle.std.proofs.Common.{◌∙◌, rules, tests}
use Rattle.std.proofs.lemmas.Iterator.{YieldsList-from_slice}
use Rattle.std.proofs.lemmas.Iterator.Search.{all_from_yields_List}
use Rattle.deficits.specs.Summed.{fair}
use Rattle.deficits.proofs.Summing.{fair_listed}
use Rattle.deficits.proofs.are_fair.Goals as goal

pub returns : goal.returns
returns c =
    all_from_yields_List (λ d. fair d.amount) _ _ _ c.all.ensures.ran (YieldsList-from_slice c.args.deficits.now cc) (λ x b q k. search (rules, tests)) ∙ fair_listed c.args.deficits.now
