use Rattle.std.proofs.Common.{◌≡◌, take}
use Rattle.lines.specs.Lined.{written, followed}
use Rattle.lines.proofs.Line.push_bytes.Given as goal

abbrev pub invariant-loop-byte : goal.invariant-loop-byte
invariant-loop-byte l = written l.self ≡ followed (written l.initial.self) (take l.byte-index l.bytes)
