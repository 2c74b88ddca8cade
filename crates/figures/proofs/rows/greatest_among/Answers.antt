use Rattle.std.proofs.Common.{◌≡◌, ℕ, length, ap, ◌∙◌, arith, w64, rules}
use Rattle.std.proofs.lemmas.Int.{to_z-of_z}
use Rattle.figures.specs.Losses.{at}
use Rattle.figures.specs.Sums.{greatest_below}
use Rattle.figures.proofs.Meanings.{greatest_front}
use Rattle.figures.proofs.rows.greatest_among.Goals as goal

pub returns : goal.returns
returns c =
    let row = c.args.row.now in
    let long : length row ≡ 64 = search rules in
    to_z-of_z w64 c.greatest_of.result (record { sfits = c.greatest_of.type_inv })
    ∙ c.greatest_of.ensures
    ∙ greatest_front row c.from.result (omega arith) (omega arith)
    ∙ ap (λ (n : ℕ). greatest_below n (at row)) c.from.ensures
