use Rattle.std.proofs.Common.{rules, ◌≡◌, ◌∙◌, ap, sum, map, arith}
use Rattle.std.specs.List.{range_with_len}
use Rattle.std.proofs.lemmas.Iterator.{YieldsList-from_range, YieldsList-from_map}
use Rattle.std.proofs.lemmas.Iterator.Consumers.{sum_from_yields_List, fits_from_yields_list}
use borrow.Author.Tests.{tests}
use Rattle.scenario.specs.Counts.{sum_below, all_scenarios}
use Rattle.scenario.proofs.Counts.{sum_range, all_few, all_some}
use Rattle.scenario.proofs.count.scenario_count.Goals as goal

pub sum-requires-clause-fits : goal.sum-requires-clause-fits
sum-requires-clause-fits g c =
    let t = g.M.ScenarioModel.table c.args.model.now in
    let n = c.subportfolios.result in
    let few = all_few t (g.met.M.ScenarioModel.lawful c.args.model.now) in
    let all : sum (map t.scenarios (range_with_len 0 n)) ≡ all_scenarios t = sum_range t.scenarios n ∙ ap (sum_below t.scenarios) c.subportfolios.ensures in
    fits_from_yields_list _ _ (YieldsList-from_map _ t.scenarios (YieldsList-from_range 0 n n (search rules) (omega arith)) c.map.ensures.closure (λ x r q k. search (rules, tests))) (omega (arith, all, few))

pub returns : goal.returns
returns g c =
    let t = g.M.ScenarioModel.table c.args.model.now in
    let l = g.met.M.ScenarioModel.lawful c.args.model.now in
    let n = c.subportfolios.result in
    let value : c.sum.result ≡ all_scenarios t =
    sum_from_yields_List _ c.sum.result c.sum.ensures.ran (YieldsList-from_map _ t.scenarios (YieldsList-from_range 0 n n (search rules) (omega arith)) c.map.ensures.closure (λ x r q k. search (rules, tests))) ∙
    sum_range t.scenarios n ∙
    ap (sum_below t.scenarios) c.subportfolios.ensures in
    record {
      value = value;
      some = omega (arith, value, all_some t l);
      few = omega (arith, value, all_few t l);
    }
