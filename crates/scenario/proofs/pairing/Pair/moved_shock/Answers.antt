use Rattle.std.proofs.Common.{◌≡◌, ◌∙◌, w64, SFits, rules}
use borrow.Author.Tests.{true-leb}
use Rattle.std.proofs.lemmas.Int.{to_z-of_z}
use Rattle.scenario.specs.Pairs.{moved_shock}
use Rattle.scenario.specs.PairsLemmas.{moved_all, moved_some}
use Rattle.scenario.proofs.pairing.Pair.moved_shock.Goals as goal
use Rattle.scenario.proofs.pairing.Pair.moved_shock.Goals.{then-keeps_all, else-keeps_all}

pub returns-then-is_some : goal.returns-then-is_some
returns-then-is_some g c =
    let a = g.A.ScenarioModel.table c.args.self.now.first in
    let b = g.B.ScenarioModel.table c.args.self.now.second in
    let l = g.met.B.ScenarioModel.lawful c.args.self.now.second in
    let contract = c.args.contract in
    let x = b.shock contract c.args.scenario in
    let f : SFits w64 c.shock.result = search rules in
    let kept : x ≡ moved_shock a.subportfolios (b.place contract) x =
    elim c.if-keeps_all.branch [
      | then-keeps_all w ↦ moved_all a.subportfolios b.subportfolios (b.place contract) x (true-leb _ _ w.if-keeps_all.ensures) (l.placed_within contract) (l.unknown_still contract c.args.scenario)
      | else-keeps_all w ↦ moved_some a.subportfolios (b.place contract) x (cc)
    ] in
    to_z-of_z w64 c.shock.result f ∙ c.shock.ensures ∙ kept
