use Rattle.std.proofs.Common.{◌≡◌, rules}
use Rattle.statements.proofs.days.Day.need_of.Goals as goal

-- the number that was narrowed is the one that was asked of
pub returns : goal.returns
returns g c =
    let is : c.in_ok-number.number ≡ c.args.client = search rules in
    rw (← is) search rules
