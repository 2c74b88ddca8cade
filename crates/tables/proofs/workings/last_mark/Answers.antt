use Rattle.std.proofs.Common.{◌∙◌}
use Rattle.sheets.specs.Tables.{table_of}
use Rattle.tables.proofs.Marking.{mark_of_last, mark_of_none}
use Rattle.tables.proofs.workings.last_mark.Goals as goal

pub returns : goal.returns
returns c =
    let found = c.in_ok-last.ensures.item in
    let market = c.args.market.now in
    c.mark.ensures.value ∙ mark_of_last (table_of market.model.now) market.prices.now c.args.positions.now c.in_ok-last.field-0.now found.3.0 found.1

pub returns-in_err-last : goal.returns-in_err-last
returns-in_err-last c =
    let market = c.args.market.now in
    c.from_residual.ensures ∙ mark_of_none (table_of market.model.now) market.prices.now c.args.positions.now c.in_err-last.ensures.item.3
