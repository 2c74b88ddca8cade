use Rattle.std.proofs.Common.{◌≡◌, ◌*ℤ◌, w64, to_z, of_z, rules}
use Rattle.layout.specs.Fields.{exposure, factor_shock}
use Rattle.inspection.proofs.Accepted.{passes, small_exposure, small_factor}
use Rattle.sheets.proofs.Records.{part_small}
use Rattle.sheets.proofs.accepted.FactorCell.part.Goals as goal

pub returns-clause-bound : goal.returns-clause-bound
returns-clause-bound c =
    let at = c.args.self.now in
    let p = passes _ at.passed in
    let x = exposure at.file.now at.j c.args.f in
    let y = factor_shock at.file.now at.s c.args.f in
    let v : to_z w64 (of_z w64 (to_z w64 (of_z w64 c.from.result) *ℤ to_z w64 (of_z w64 c.from-2.result))) ≡ x *ℤ y = search rules in
    rw v (part_small x y (small_exposure _ p at.factored at.j c.args.f at.known c.requires) (small_factor _ p at.factored at.s c.args.f at.stated c.requires))
