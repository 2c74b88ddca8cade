use Rattle.std.proofs.Common.{◌∙◌, rules, tests}
use Rattle.std.proofs.lemmas.Iterator.{YieldsList-from_slice}
use Rattle.std.proofs.lemmas.Iterator.Search.{all_from_yields_List}
use Rattle.figures.specs.Markets.{has_price, is_priced}
use Rattle.figures.specs.Positions.{position_of}
use Rattle.figures.proofs.Each.{every_is}
use Rattle.figures.proofs.answers.all_priced.Goals as goal

pub returns : goal.returns
returns c =
    all_from_yields_List (λ x. has_price c.args.prices.now x.contract) _ _ _ c.all.ensures.ran (YieldsList-from_slice c.args.positions.all.now cc) (λ x b q k. search (rules, tests))
    ∙ every_is position_of (is_priced c.args.prices.now) c.args.positions.all.now
