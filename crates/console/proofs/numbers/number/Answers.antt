use Rattle.std.proofs.Common.{◌∙◌}
use Rattle.std.specs.Bool.{then_some}
use Rattle.console.proofs.Digits.{decimal_read}
use Rattle.console.proofs.numbers.number.Goals as goal

pub returns : goal.returns
returns c =
    c.then_some.ensures
    ∙ (λ i. then_some (c.has_digits_only.ensures i) (c.unwrap_or-number.ensures i))
    ∙ decimal_read c.args.word.now c.parse.result c.if-is_empty.ensures c.parse.ensures.value.0
