use Rattle.std.proofs.Common.{◌≡◌, length, drop, vec_items}
use Rattle.console.specs.Words.{words}
use Rattle.tables.specs.Numbers.{all_signed, after}
use Rattle.tables.proofs.numbers.all_signed.Given as goal

abbrev pub invariant-loop-word : goal.invariant-loop-word
invariant-loop-word l =
    all_signed (words l.text) ≡ after (vec_items l.numbers) (all_signed (drop (length l.yielded) (words l.text)))
