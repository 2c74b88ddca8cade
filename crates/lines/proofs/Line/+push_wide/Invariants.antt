use Rattle.lines.proofs.Line.+push_wide.Given as goal

abbrev pub decreases-push_wide : goal.decreases-push_wide
decreases-push_wide l = l.number
