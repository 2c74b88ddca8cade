use Rattle.std.proofs.Common.{ℕ, ◌+◌, cond, eqb, pos, sym, ap, ◌∙◌, arith}
use Rattle.inspection.proofs.Accepted.{passes, strike_scenarios, few_strikes, small_payoff}
use Rattle.sheets.specs.Decoded.{record_in}
use Rattle.sheets.proofs.Records.{strike_shock}
use Rattle.sheets.proofs.Sameness.{same_table, other_times}
use Rattle.sheets.proofs.accepted.Accepted.read_strikes.Goals as goal

pub invariant_of-result : goal.invariant_of-result
invariant_of-result c =
    let p = passes _ c.args.self.now.passed in
    let few = few_strikes _ p c.requires in
    let small = small_payoff _ p c.requires in
    let n = c.read_index.ensures.count in
    record { small = omega arith; narrow = omega arith }

pub returns : goal.returns
returns c =
    let p = passes _ c.args.self.now.passed in
    let k = c.requires in
    let n = c.read_index.ensures.count in
    let w = strike_scenarios _ p k in
    record {
      means =
          same_table c.args.self.now.file.now (record_in c.read_index.result.records) (c.read_index.result.count + 1) (λ j. 0) (λ j s. cond (eqb s (j + 1)) (pos c.payoff_field.result) (pos 0))
          c.read_index.ensures.records (omega arith)
          (λ j l. sym (other_times c.args.self.now.file.now (λ e. omega arith) j))
          (λ j s l m. ap (λ (x : ℕ). cond (eqb s (j + 1)) (pos x) (pos 0)) c.payoff_field.ensures ∙ sym (strike_shock c.args.self.now.file.now p k j s));
      counted = n;
    }
