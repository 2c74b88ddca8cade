use Rattle.std.proofs.Common.{unwrap_or, ℤ, pos, Option, sym, ap, ◌∙◌, w64}
use Rattle.std.specs.Int.{int_max}
use Rattle.std.specs.Ordering.{int_cmp, max_by_ordering}
use Rattle.std.proofs.lemmas.Int.{to_z-of_z}
use Rattle.std.proofs.lemmas.Iterator.{YieldsList-from_slice}
use Rattle.std.proofs.lemmas.Iterator.Adapters.{option_map_id}
use Rattle.std.proofs.lemmas.Iterator.Consumers.{reduce_by_from_yields_List, YieldsList-from_copied}
use Rattle.figures.proofs.Greatest.{picked, greatest_reduced}
use Rattle.figures.proofs.rows.greatest_of.Goals as goal

pub returns : goal.returns
returns c =
    let row = c.args.row.now in
    let most = sym (option_map_id c.max.result) ∙ reduce_by_from_yields_List (λ (x : ℤ) (y : ℤ). max_by_ordering (int_cmp x y) x y) int_max c.copied.result c.max.result picked c.max.ensures.ran (YieldsList-from_copied (YieldsList-from_slice row cc)) in
    to_z-of_z w64 c.unwrap_or.result (record { sfits = c.unwrap_or.type_inv })
    ∙ c.unwrap_or.ensures
    ∙ ap (λ (o : Option ℤ). unwrap_or o (pos 0)) most
    ∙ greatest_reduced row
