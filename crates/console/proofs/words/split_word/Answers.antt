use Rattle.std.proofs.Common.{Some, take, drop, sym, ap, ◌∙◌, true-eqb, false-eqb}
use Rattle.console.specs.Words.{words_of_cut}
use Rattle.console.proofs.Cutting.{cuts, cut_empty, cut_some}
use Rattle.console.proofs.words.split_word.Goals as goal

pub returns-then-is_empty : goal.returns-then-is_empty
returns-then-is_empty c =
    let text = c.args.text.now in
    let is = cut_empty text (true-eqb _ 0 c.if-is_empty.ensures) in
    record { cut = is; words = cuts text c.requires ∙ ap words_of_cut (sym is) }

pub returns-else-is_empty : goal.returns-else-is_empty
returns-else-is_empty c =
    let text = c.args.text.now in
    let n = c.word_length.ensures.value in
    let is = (λ i. Some (c.split_at.ensures.front i, c.split_at.ensures.back i)) ∙ (λ i. Some (take (n i) text, drop (n i) text)) ∙ cut_some text c.requires (false-eqb _ 0 c.if-is_empty.ensures) in
    record { cut = is; words = cuts text c.requires ∙ ap words_of_cut (sym is) }
