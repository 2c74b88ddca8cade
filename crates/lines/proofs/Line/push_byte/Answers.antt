use Rattle.lines.proofs.Room.{followed_byte}
use Rattle.lines.proofs.Line.push_byte.Goals as goal

pub returns : goal.returns
returns c = followed_byte c.args.self.now c.args.byte _ (λ h. (c.push.ensures.room h).1) (λ h. (c.push.ensures.full h).1)
