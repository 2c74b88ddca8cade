use Rattle.std.proofs.Common.{ℕ, ◌≤◌, [], List, get_or, ℤ, nat_abs, sym, ap, ◌∙◌, subst, arith}
use Rattle.figures.specs.Losses.{lost_alone, at}
use Rattle.figures.specs.Markets.{market}
use Rattle.figures.specs.Positions.{positions_of}
use Rattle.figures.specs.Sums.{total, greatest_below}
use Rattle.figures.proofs.Greatest.{greatest_small}
use Rattle.figures.proofs.Listing.{total_those, each_small}
use Rattle.figures.proofs.Meanings.{rows_are, rows_small}
use Rattle.figures.proofs.Sizes.{kept64}
use Rattle.figures.proofs.markets.Market.open_risk_of.Goals as goal

pub sum_of-requires : goal.sum_of-requires
sum_of-requires g c =
    let m = g.M.ScenarioModel.table c.args.self.now.model.now in
    let rows = c.tally_of-tally.result.rows in
    let small : (k : ℕ) → nat_abs (greatest_below (m.scenarios k) (at (get_or rows k []))) ≤ 11264000000000000 = λ k. greatest_small (m.scenarios k) 11264000000000000 (at (get_or rows k [])) (c.tally_of-tally.ensures.losses k).small in
    λ k. subst (λ (xs : List ℤ). nat_abs (at xs k) ≤ 11264000000000000) (sym c.greatest_by_row.ensures) (each_small (λ j. greatest_below (m.scenarios j) (at (get_or rows j []))) 11264000000000000 small _ k)

pub returns : goal.returns
returns g c =
    let m = g.M.ScenarioModel.table c.args.self.now.model.now in
    let law = g.met.M.ScenarioModel.lawful c.args.self.now.model.now in
    let rows = c.tally_of-tally.result.rows in
    let sum = c.sum_of.ensures ∙ ap (total (λ (x : ℤ). x)) c.greatest_by_row.ensures ∙ total_those (λ k. greatest_below (m.scenarios k) (at (get_or rows k []))) m.subportfolios in
    let small : nat_abs c.sum_of.result ≤ 90112000000000000 = subst (λ (z : ℤ). nat_abs z ≤ 90112000000000000) (sym sum) (rows_small m law rows 11264000000000000 (λ k. (c.tally_of-tally.ensures.losses k).small)) in
    let e = kept64 c.sum_of.result (omega (arith, small)) in
    record {
      value = e ∙ sum ∙ rows_are m law (market c.args.self.now.prices.now) lost_alone (positions_of c.args.positions.all.now) rows 11264000000000000 c.tally_of-tally.ensures.losses;
      small = rw e small;
    }
