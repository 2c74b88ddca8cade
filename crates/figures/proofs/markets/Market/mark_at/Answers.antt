use Rattle.std.proofs.Common.{sym, ◌∙◌, arith}
use Rattle.std.proofs.iter.Serving.{serving}
use Rattle.figures.proofs.markets.Market.mark_at.Goals as goal

pub map_or-requires : goal.map_or-requires
map_or-requires g c x e =
    let law = g.met.M.ScenarioModel.lawful c.args.self.now.model.now in
    let few = law.multiplier_small c.args.position.now.contract x.0 x.1 (sym c.place.ensures ∙ e) in
    let small = c.ticks_of-ticks.ensures.small in
    grind (serving, arith, few, small)
