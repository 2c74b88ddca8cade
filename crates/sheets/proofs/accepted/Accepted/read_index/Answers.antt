use Rattle.std.proofs.Common.{None, arith, rules}
use Rattle.layout.specs.Fields.{contracts}
use Rattle.layout.proofs.FromFn.{made_at}
use Rattle.inspection.proofs.Accepted.{passes, few_contracts}
use Rattle.sheets.specs.Sheets.{find}
use Rattle.sheets.proofs.Tabled.{records_are, few_records}
use Rattle.sheets.proofs.accepted.Accepted.read_index.Goals as goal

pub invariant_of-result : goal.invariant_of-result
invariant_of-result c =
    let p = passes _ c.args.self.now.passed in
    let few = few_contracts _ p in
    let long = c.from_fn.ensures.items.long in
    record {
      numbers = omega arith;
      few = few_records _ p _ long (λ k l. made_at _ _ (λ k. find c.args.self.now.file.now k (contracts c.args.self.now.file.now)) 256 _ c.from_fn.ensures.items (λ k y q s m. search rules) k None l);
      counted = omega arith;
    }

pub returns-clause-records : goal.returns-clause-records
returns-clause-records c =
    records_are _ (passes _ c.args.self.now.passed) _ c.from_fn.ensures.items.long (λ k l. made_at _ _ (λ k. find c.args.self.now.file.now k (contracts c.args.self.now.file.now)) 256 _ c.from_fn.ensures.items (λ k y q s m. search rules) k None l)
