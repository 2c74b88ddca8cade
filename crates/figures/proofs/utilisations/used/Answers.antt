use Rattle.std.proofs.Common.{◌*◌, ◌∙◌}
use Rattle.std.specs.Int.{div_ceil}
use Rattle.figures.proofs.Rounding.{used_up}
use Rattle.figures.proofs.utilisations.used.Goals as goal

pub returns : goal.returns
returns c =
    used_up c.args.backing c.args.risk c.div_ceil.result c.if-backing-eq0.false (c.div_ceil.ensures ∙ (λ i. div_ceil (100 * c.from.ensures i) (c.from-2.ensures i)))
