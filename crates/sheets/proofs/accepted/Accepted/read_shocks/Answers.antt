use Rattle.std.proofs.Common.{[], arith, rules}
use Rattle.layout.proofs.FromFn.{made_each}
use Rattle.inspection.proofs.Accepted.{passes, some_scenario, few_scenarios}
use Rattle.sheets.specs.Cells.{IsRow}
use Rattle.sheets.proofs.Tabled.{cells_are, cells_within, unmoved_cells}
use Rattle.sheets.proofs.accepted.Accepted.read_shocks.Goals as goal

pub overflow_cast-result : goal.overflow_cast-result
overflow_cast-result c = let few = few_scenarios _ (passes _ c.args.self.now.passed) in omega arith

pub invariant_of-result : goal.invariant_of-result
invariant_of-result c =
    let p = passes _ c.args.self.now.passed in
    let some = some_scenario _ p in
    let few = few_scenarios _ p in
    let long = c.from_fn.ensures.items.long in
    let rows = made_each _ _ (IsRow c.args.self.now.file.now) 64 _ c.from_fn.ensures.items (λ k y q s m. (search rules, search rules)) in
    record {
      some = omega arith;
      few = omega arith;
      within = cells_within _ p _ long (λ j l. (rows j [] l).long) (λ j s l m. (rows j [] l).cells s m);
      unmoved = unmoved_cells _ p _ long (λ j l. (rows j [] l).long) (λ j s l m. (rows j [] l).cells s m);
    }

pub returns-clause-cells : goal.returns-clause-cells
returns-clause-cells c =
    let rows = made_each _ _ (IsRow c.args.self.now.file.now) 64 _ c.from_fn.ensures.items (λ k y q s m. (search rules, search rules)) in
    cells_are _ (passes _ c.args.self.now.passed) _ c.from_fn.ensures.items.long (λ j l. (rows j [] l).long) (λ j s l m. (rows j [] l).cells s m)
