use Rattle.std.proofs.Common.{refl}
use Rattle.figures.proofs.Chosen.{bounds_choices, reached_by_choice, moves_with_entry}
use Rattle.deficits.proofs.greatest_sums_stand.Goals as goal

pub returns : goal.returns
returns c = record { bounds = bounds_choices; reached = reached_by_choice; moves = moves_with_entry; most = refl }
