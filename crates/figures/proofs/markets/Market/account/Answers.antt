use Rattle.std.proofs.Common.{◌≡◌, ℕ, ◌≤◌, true, List, [], get_or, ℤ, pos, ◌-ℤ◌, nat_abs, ◌≤ℤ◌, sym, refl, ap, ◌∙◌, subst, arith}
use Rattle.std.proofs.lemmas.Int.{ints, clamps}
use Rattle.figures.specs.Figures.{margin, mark}
use Rattle.figures.specs.Losses.{lost_together, at}
use Rattle.figures.specs.Markets.{market}
use Rattle.figures.specs.Positions.{positions_of}
use Rattle.figures.specs.Sums.{floored, smaller, greatest_below, those_below, total, total_below}
use Rattle.figures.proofs.Greatest.{greatest_small}
use Rattle.figures.proofs.Listing.{map_same, total_those, each_small}
use Rattle.figures.proofs.Meanings.{rows_are, rows_small, margins_are, margin_is}
use Rattle.figures.proofs.Sizes.{kept64}
use Rattle.figures.proofs.markets.Market.account.Given as given
use Rattle.figures.proofs.markets.Market.account.Goals as goal
use Rattle.figures.proofs.markets.Market.account.Goals.{After-sum_of}

pub sum_of-requires : goal.sum_of-requires
sum_of-requires g c =
    let m = g.M.ScenarioModel.table c.args.self.now.model.now in
    let rows = c.tally_of-tally.result.rows in
    let small : (k : ℕ) → nat_abs (greatest_below (m.scenarios k) (at (get_or rows k []))) ≤ 1024000000000000 = λ k. greatest_small (m.scenarios k) 1024000000000000 (at (get_or rows k [])) (c.tally_of-tally.ensures.losses k).small in
    λ k. subst (λ (xs : List ℤ). nat_abs (at xs k) ≤ 11264000000000000) (sym c.greatest_by_row-margins.ensures) (omega (arith, each_small (λ j. greatest_below (m.scenarios j) (at (get_or rows j []))) 1024000000000000 small (those_below m.subportfolios (λ _. true)) k))

sum_is : (g : given.Over) (c : After-sum_of g) → c.sum_of.result ≡ total_below (g.M.ScenarioModel.table c.args.self.now.model.now).subportfolios (λ k. greatest_below ((g.M.ScenarioModel.table c.args.self.now.model.now).scenarios k) (at (get_or c.tally_of-tally.result.rows k [])))
sum_is g c =
    c.sum_of.ensures
    ∙ ap (total (λ (x : ℤ). x)) c.greatest_by_row-margins.ensures
    ∙ total_those (λ k. greatest_below ((g.M.ScenarioModel.table c.args.self.now.model.now).scenarios k) (at (get_or c.tally_of-tally.result.rows k []))) (g.M.ScenarioModel.table c.args.self.now.model.now).subportfolios

sum_small : (g : given.Over) (c : After-sum_of g) → nat_abs c.sum_of.result ≤ 8192000000000000
sum_small g c =
    subst (λ (z : ℤ). nat_abs z ≤ 8192000000000000) (sym (sum_is g c))
    (rows_small (g.M.ScenarioModel.table c.args.self.now.model.now) (g.met.M.ScenarioModel.lawful c.args.self.now.model.now) c.tally_of-tally.result.rows 1024000000000000 (λ k. (c.tally_of-tally.ensures.losses k).small))

pub needed-requires : goal.needed-requires
needed-requires g c =
    let small = sum_small g (goal.at.needed-requires g c).After-sum_of in (
      rw (kept64 c.sum_of.result (omega (arith, small))) small,
      rw (kept64 c.tally_of-tally.result.gained (omega (arith, c.tally_of-tally.ensures.small))) c.tally_of-tally.ensures.small,
    )

not_below : (z : ℤ) → pos 0 ≤ℤ floored z
not_below z = omega (arith, ints, clamps)

pub returns : goal.returns
returns g c =
    let m = g.M.ScenarioModel.table c.args.self.now.model.now in
    let law = g.met.M.ScenarioModel.lawful c.args.self.now.model.now in
    let μ = market c.args.self.now.prices.now in
    let ts = positions_of c.args.positions.all.now in
    let t = c.tally_of-tally in
    let rows = t.result.rows in
    let at_sum = (goal.at.returns g c).After-sum_of in
    let margins = kept64 c.sum_of.result (omega (arith, sum_small g at_sum)) ∙ sum_is g at_sum ∙ rows_are m law μ lost_together ts rows 1024000000000000 t.ensures.losses ∙ margins_are m law μ ts in
    let gained = kept64 t.result.gained (omega (arith, t.ensures.small)) ∙ t.ensures.gained in
    let e = kept64 c.needed.result (omega (arith, c.needed.ensures.small)) in
    let need_is = e ∙ c.needed.ensures.value ∙ (λ i. floored (margins i -ℤ gained i -ℤ smaller (pos 0) c.args.cash.amount)) in
    record {
      margins =
          c.greatest_by_row-margins.ensures
          ∙ map_same (λ (k : ℕ). greatest_below (m.scenarios k) (at (get_or rows k []))) (margin m ts) (those_below m.subportfolios (λ _. true)) (λ k. margin_is m law μ ts k (m.scenarios k) (get_or rows k []) 1024000000000000 refl (t.ensures.losses k));
      need = need_is;
      small = rw e c.needed.ensures.small;
      floor = subst (λ (z : ℤ). pos 0 ≤ℤ z) (sym need_is) (not_below (total_below m.subportfolios (margin m ts) -ℤ total (mark m μ) ts -ℤ smaller (pos 0) c.args.cash.amount));
    }
