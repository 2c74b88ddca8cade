use Rattle.inspection.proofs.Accepted.{accepted_from_none}
use Rattle.sheets.proofs.kinds.Sheet.fill.Goals as goal

pub invariant_of-read_sheet : goal.invariant_of-read_sheet
invariant_of-read_sheet c = record { passed = accepted_from_none _ c.in_ok-kind.ensures.answer; named = c.in_ok-kind.ensures.named }
