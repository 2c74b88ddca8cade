use Rattle.std.proofs.Common.{rules}
use Rattle.layout.proofs.FromFn.{made_at}
use Rattle.inspection.proofs.Accepted.{passes}
use Rattle.sheets.specs.Cells.{multiplier_cell}
use Rattle.sheets.proofs.Tabled.{multipliers_are, small_multipliers}
use Rattle.sheets.proofs.accepted.Accepted.read_multipliers.Goals as goal

pub invariant_of-result : goal.invariant_of-result
invariant_of-result c =
    record { small = small_multipliers _ (passes _ c.args.self.now.passed) _ c.from_fn.ensures.items.long (λ k l. made_at _ _ (multiplier_cell c.args.self.now.file.now) 64 _ c.from_fn.ensures.items (λ k y q s m. search rules) k 0 l) c.requires }

pub returns : goal.returns
returns c =
    multipliers_are _ (passes _ c.args.self.now.passed) _ c.from_fn.ensures.items.long (λ k l. made_at _ _ (multiplier_cell c.args.self.now.file.now) 64 _ c.from_fn.ensures.items (λ k y q s m. search rules) k 0 l)
