use Rattle.desk.proofs.Slips.{taken_none, taken_out}
use Rattle.desk.proofs.spending.take_held.Goals as goal

pub returns-in_err-place : goal.returns-in_err-place
returns-in_err-place c = taken_none _ _ _ c.from_residual.ensures c.in_err-place.ensures

pub returns : goal.returns
returns c = taken_out c.args.held.now c.take.new.self c.args.serial c.in_ok-place.place c.take.result c.in_ok-place.ensures c.take.ensures.value c.take.ensures.after
