use Rattle.std.proofs.Common.{◌-ℤ◌, ◌∙◌, arith}
use Rattle.figures.specs.Sums.{floored}
use Rattle.figures.proofs.Sizes.{kept64, less_kept, beyond_small}
use Rattle.figures.proofs.needs.needed.Goals as goal

pub returns-clause-value : goal.returns-clause-value
returns-clause-value c =
    let a = c.args in
    let o = c.owed.result in
    let owed = kept64 o (omega (arith, c.owed.ensures.small)) ∙ c.owed.ensures.value in
    kept64 c.beyond.result (beyond_small a.margins a.gained o c.beyond.result (omega (arith, c.requires.0)) c.requires.1 (omega (arith, c.owed.ensures.small)) c.beyond.ensures.small) ∙ c.beyond.ensures.value ∙ (λ i. floored (less_kept a.margins a.gained (omega (arith, c.requires.0)) c.requires.1 i -ℤ owed i))
