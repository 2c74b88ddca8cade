use Rattle.std.proofs.Common.{true, ap, ◌∙◌}
use Rattle.console.specs.Words.{run_length, words}
use Rattle.console.proofs.Cutting.{unspaced_dark, words_unspaced}
use Rattle.console.proofs.Front.{trimmed}
use Rattle.console.proofs.words.skip_spaces.Goals as goal

pub returns : goal.returns
returns c =
    let line = c.args.line.now in
    let is = trimmed line c.trim_start_matches.result.now c.trim_start_matches.ensures.matches in
    record { value = is; words = ap words is ∙ words_unspaced line; dark = ap (run_length true) is ∙ unspaced_dark line }
