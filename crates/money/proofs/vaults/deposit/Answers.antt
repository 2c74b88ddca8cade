use Rattle.std.proofs.Common.{◌≡◌, true, false, ℤ, pos, ◌+ℤ◌, ◌≤ℤ◌, ◌≤◌, nat_abs, Bool, ℕ, Some, None, Ok, Err, Option, Result, subst, sym, refl, ap, ◌∙◌, arith, w64, to_z, of_z}
use lib.Signed.{lt_z}
use Rattle.std.proofs.lemmas.Int.{ints, to_z-of_z}
use Rattle.scenario.specs.Table.{ScenarioTable}
use Rattle.orders.specs.Meant.{holder_of}
use Rattle.rules.specs.Answers.{Answered, accepted}
use Rattle.rules.specs.Bounds.{most_amount}
use Rattle.rules.specs.Causes.{deposit, cause, is_amount, slips_of, no_such_holder}
use Rattle.rules.specs.Ledger.{Ledger, Holder, collateral_of}
use Rattle.rules.proofs.Answered.{accepts, refuses}
use Rattle.rules.proofs.Funds.{slips_moved}
use Rattle.rules.proofs.Slips.{amounts_not_below}
use Rattle.std.specs.Option.{ok_or}
use Rattle.std.specs.Result.{IsErrAnd}
use Rattle.refusals.specs.declared.Refusal.{Refusal}
use Rattle.refusals.specs.declared.Refusal.TheVariants.{TooMuchCollateral}
use Rattle.figures.proofs.Sizes.{kept64}
use Rattle.orders.specs.Replied.{answered}
use Rattle.book.specs.declared.funds.Fund.{Fund}
use Rattle.book.specs.Funded.{meant_fund}
use Rattle.book.specs.Ledgers.{ledger_in}
use Rattle.book.proofs.Facts.{capped_after, funded_in}
use Rattle.book.proofs.Readings.{read_at}
use Rattle.money.proofs.Paying.{no_contracts, other_money, moved_is, deposit_free, deposit_over, some_fund, no_fund}
use Rattle.money.proofs.vaults.deposit.Goals as goal
use Rattle.money.proofs.vaults.deposit.Goals.{After-checked_add, After-standing}

module _ (c : After-checked_add) where
  abbrev l : Ledger
  l = ledger_in c.args.book.now

  abbrev h : Holder
  h = holder_of c.args.holder

  kept : to_z w64 (of_z w64 c.args.amount) ≡ c.args.amount
  kept = to_z-of_z w64 c.args.amount c.ranges.amount

  held : (no_such_holder l h ≡ false) × (c.in_ok-held.held.amount ≡ collateral_of l h)
  held = read_at _ _ c.collateral.result c.in_ok-held.held c.collateral.ensures c.in_ok-held.ensures.ok_part

  more : (is_amount c.args.amount ≡ true) × (c.in_ok-more.more.amount ≡ c.args.amount)
  more =
      let f = read_at _ _ c.fair_amount.result c.in_ok-more.more c.fair_amount.ensures c.in_ok-more.ensures.ok_part in
      (ap is_amount (sym kept) ∙ f.0, f.1 ∙ kept)

  -- the two together
  sum : c.in_ok-held.held.amount +ℤ c.in_ok-more.more.amount ≡ collateral_of l h +ℤ c.args.amount
  sum = λ i. held.1 i +ℤ more.1 i

-- what the holder would have, its slips counted in, as the code adds it
together : (f s x a b : ℤ) → f ≡ x +ℤ a → s ≡ b → nat_abs f ≤ 1000000000000000 → nat_abs s ≤ 32000000000000000 → to_z w64 (of_z w64 (to_z w64 (of_z w64 f) +ℤ to_z w64 (of_z w64 s))) ≡ x +ℤ b +ℤ a
together f s x a b p q h k =
    ap (λ (z : ℤ). to_z w64 (of_z w64 z)) (λ i. kept64 f (omega arith) i +ℤ kept64 s (omega arith) i) ∙ kept64 (f +ℤ s) (omega (arith, ints)) ∙ omega (arith, ints)

-- the refusal that a `?` answers
answer : (r : Result (Unit {0}) Refusal) (e f : Refusal) (o : Option Fund) → IsErrAnd r (λ y. y ≡ e) → ◌≡◌ {A = Result Fund Refusal} (Err e) (ok_or o f) → o ≡ None → r ≡ Err f
answer (Ok x) e f o p q n = absurd p
answer (Err y) e f None p q n = let is : e ≡ f = cc in ap Err (p ∙ is)
answer (Err y) e f (Some z) p q n = let k : ◌≡◌ {A = ℕ} 0 1 = cc in absurd (omega arith)

-- what is too much is too much with the slips counted in
over : (u x a s : ℤ) → u ≡ x +ℤ a → pos 0 ≤ℤ s → lt_z (pos most_amount) u ≡ true → lt_z (pos most_amount) (x +ℤ s +ℤ a) ≡ true
over u x a s e n h = grind (arith, ints)

module _ (c : After-standing) where
  -- what stands of the holder's slips
  stands : c.standing.result ≡ slips_of (ledger_in c.args.book.now) (holder_of c.args.holder)
  stands = c.standing.ensures.value

  -- what the holder would have
  fund_is : c.in_ok-fund.fund.amount ≡ c.in_ok-held.held.amount +ℤ c.in_ok-more.more.amount
  fund_is = some_fund c.in_ok-fund.fund _ (ap meant_fund (sym c.in_ok-fund.ensures.ok_part) ∙ c.checked_add.ensures)

  counted : (x a : ℤ) (t : Bool) → c.in_ok-held.held.amount +ℤ c.in_ok-more.more.amount ≡ x +ℤ a → lt_z (pos most_amount) (to_z w64 (of_z w64 (to_z w64 (of_z w64 c.in_ok-fund.fund.amount) +ℤ to_z w64 (of_z w64 c.standing.result)))) ≡ t → lt_z (pos most_amount) (x +ℤ slips_of (ledger_in c.args.book.now) (holder_of c.args.holder) +ℤ a) ≡ t
  counted x a t e u =
      let f = c.in_ok-fund.fund in
      ap (lt_z (pos most_amount)) (sym (together f.amount c.standing.result x a _ (fund_is ∙ e) stands (omega (arith, ints, f.low, f.high)) c.standing.ensures.small)) ∙ u

pub returns-in_err-fund : goal.returns-in_err-fund
returns-in_err-fund c m =
    let w = (goal.at.returns-in_err-fund c).After-checked_add in
    let much = over _ (collateral_of (l w) (h w)) c.args.amount (slips_of (l w) (h w)) (sum w) (amounts_not_below (l w).slips (h w) (funded_in c.args.book.now).paid) (no_fund (c.in_ok-held.held.amount +ℤ c.in_ok-more.more.amount) (omega (arith, ints, c.in_ok-held.held.low, c.in_ok-more.more.low)) (ap meant_fund (sym c.in_err-fund.ensures.ok_part) ∙ c.checked_add.ensures)) in
    subst (λ (r : Result (Unit {0}) Refusal). Answered m (l w) (deposit (h w) c.args.amount) (answered {X = Unit {0}} (λ _. accepted) r) (l w))
    (sym (answer c.from_residual-in_err-fund.result _ TooMuchCollateral c.checked_add.result c.from_residual-in_err-fund.ensures.1 c.in_err-fund.ensures.value c.in_err-fund.ensures.ok_part))
    (refuses m (l w) (deposit (h w) c.args.amount) 18 (deposit_over m (l w) (h w) c.args.amount (held w).0 (more w).0 much))

pub returns-then-fund-standing-gt-MOST_AMOUNT : goal.returns-then-fund-standing-gt-MOST_AMOUNT
returns-then-fund-standing-gt-MOST_AMOUNT c m =
    let g = goal.at.returns-then-fund-standing-gt-MOST_AMOUNT c in
    let w = g.After-checked_add in
    refuses m (l w) (deposit (h w) c.args.amount) 18 (deposit_over m (l w) (h w) c.args.amount (held w).0 (more w).0 (counted g.After-standing (collateral_of (l w) (h w)) c.args.amount true (sum w) c.if-fund-standing-gt-MOST_AMOUNT.true))

free : (w : After-checked_add) (m : ScenarioTable) → lt_z (pos most_amount) (collateral_of (l w) (h w) +ℤ slips_of (l w) (h w) +ℤ w.args.amount) ≡ false → cause m (l w) (deposit (h w) w.args.amount) ≡ None
free w m e = deposit_free m (l w) (h w) w.args.amount (held w).0 (more w).0 e

pub invariant_of-book : goal.invariant_of-book
invariant_of-book c =
    let g = goal.at.invariant_of-book c in
    let w = g.After-checked_add in
    let e = counted g.After-standing (collateral_of (l w) (h w)) c.args.amount false (sum w) c.if-fund-standing-gt-MOST_AMOUNT.false in
    let p = c.set_collateral.ensures (l w) c.args.amount refl refl (fund_is g.After-standing ∙ sum w) in
    record { capped = capped_after no_contracts c.args.book.now (deposit (h w) c.args.amount) (free w no_contracts e) _ _ _ p.0 p.1 (sym (slips_moved (l w) (h w) c.args.amount)) }

pub returns : goal.returns
returns c m =
    let g = goal.at.returns c in
    let w = g.After-checked_add in
    let e = counted g.After-standing (collateral_of (l w) (h w)) c.args.amount false (sum w) c.if-fund-standing-gt-MOST_AMOUNT.false in
    let p = c.set_collateral.ensures (l w) c.args.amount refl refl (fund_is g.After-standing ∙ sum w) in
    accepts m (l w) (deposit (h w) c.args.amount) accepted _ (free w m e) refl ((λ i. other_money (l w) (p.0 i) (p.1 i) (l w).slips (l w).made) ∙ moved_is (l w) (h w) c.args.amount)
