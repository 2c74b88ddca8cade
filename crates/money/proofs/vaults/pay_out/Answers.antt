use Rattle.std.proofs.Common.{◌≡◌, ◌+◌, ◌<◌, not, ltb, [], ◌∷◌, ◌++◌, length, ℕ, ℤ, pos, ◌≤ℤ◌, Ok, Err, Result, ◌+ℤ◌, ◌-ℤ◌, neg_ℤ, None, refl, ap, ◌∙◌, arith, w64, to_z, of_z}
use Rattle.std.proofs.lemmas.Int.{ints, to_z-of_z}
use Rattle.std.proofs.lemmas.List.{length-map}
use Rattle.std.proofs.lemmas.Bool.{or_parts, not-false, ltb-true}
use Rattle.cells.specs.Listed.{listed}
use Rattle.orders.specs.Meant.{holder_of}
use Rattle.rules.specs.Bounds.{most_standing, most_slips}
use Rattle.rules.specs.Causes.{next_slip, amounts_of}
use Rattle.rules.specs.Ledger.{Ledger, Holder, Slip, collateral_of, collateral_in, moved}
use Rattle.book.specs.Ledgers.{ledger_in}
use Rattle.book.specs.Means.{slip_in, slips_in, traders_in, clients_in}
use Rattle.money.specs.Paid.{pay_cause}
use Rattle.std.specs.Result.{result_or}
use Rattle.refusals.specs.declared.Refusal.{Refusal}
use Rattle.book.specs.declared.stubs.Stub.{Stub}
use Rattle.money.proofs.Paying.{other_money, paid_is, pushed_slip, capped_at, FreeToPay, free_to_pay, capped_paid}
use Rattle.money.proofs.vaults.pay_out.Goals as goal
use Rattle.money.proofs.vaults.pay_out.Goals.{After-push}

module _ (c : After-push) where
  abbrev l : Ledger
  l = ledger_in c.args.book.now

  abbrev h : Holder
  h = holder_of c.args.holder

  kept : to_z w64 (of_z w64 c.args.amount) ≡ c.args.amount
  kept = to_z-of_z w64 c.args.amount c.ranges.amount

  uncaused : None ≡ pay_cause l h c.args.amount
  uncaused = c.in_ok-parting.ensures.caused ∙ ap (pay_cause l h) kept

  free : FreeToPay l h c.args.amount
  free = free_to_pay l h c.args.amount uncaused

  slip_says : slip_in record { serial = l.made + 1; holder = c.args.holder; amount = c.in_ok-parting.parting.paid } ≡ next_slip l h c.args.amount
  slip_says = ap (λ (a : ℤ). let s : Slip = record { serial = l.made + 1; holder = h; amount = a } in s) (c.in_ok-parting.ensures.made.1 ∙ kept)

  moves : (traders_in c.set_collateral.new.traders ≡ (moved l h (neg_ℤ c.args.amount)).traders) × (clients_in c.set_collateral.new.clients ≡ (moved l h (neg_ℤ c.args.amount)).clients)
  moves = c.set_collateral.ensures l (neg_ℤ c.args.amount) refl refl (less _ (collateral_of l h) c.args.amount _ c.in_ok-parting.ensures.made.0 kept)
    where
      less : (r x a b : ℤ) → r ≡ x -ℤ b → b ≡ a → r ≡ x +ℤ neg_ℤ a
      less r x a b e q = omega (arith, ints)

  room : length (listed c.args.book.now.slips) < 32
  room = omega (arith, length-map (listed c.args.book.now.slips) slip_in, ltb-true (length l.slips) most_standing (not-false _ (or_parts (not (ltb (length l.slips) most_standing)) (not (ltb l.made most_slips)) free.room).0))

  longer : slips_in c.push.new.self ≡ l.slips ++ next_slip l h c.args.amount ∷ []
  longer = pushed_slip (listed c.args.book.now.slips) (listed c.push.new.self) _ (next_slip l h c.args.amount) (c.push.ensures.room room).1 slip_says

capped : (c : After-push) → (k : Holder) → (collateral_in (traders_in c.set_collateral.new.traders) (clients_in c.set_collateral.new.clients) k +ℤ amounts_of (slips_in c.push.new.self) k) ≤ℤ pos 1000000000000000
capped c = capped_at _ _ _ _ _ _ (moves c).0 (moves c).1 (longer c) (capped_paid c.args.book.now (h c) c.args.amount (free c))

pub invariant_of-book : goal.invariant_of-book
invariant_of-book c = record { capped = capped (goal.at.invariant_of-book c).After-push }

pub returns-in_err-or : goal.returns-in_err-or
returns-in_err-or c =
    let w = (goal.at.returns-in_err-or c).After-push in
    absurd (no_err _ _ _ c.in_err-or.ensures (c.push.ensures.room (room w)).0)
  where
    no_err : (r : Result (Unit {0}) Stub) (e f : Refusal) → ◌≡◌ {A = Result (Unit {0}) Refusal} (Err e) (result_or r (Err f)) → r ≡ Ok tt → ⊥
    no_err r e f p q = let z : ◌≡◌ {A = Result (Unit {0}) Refusal} (Err e) (Ok tt) = p ∙ ap (λ (v : Result (Unit {0}) Stub). result_or v (Err f)) q in let y : ◌≡◌ {A = ℕ} 0 1 = cc in omega arith

pub invariant_of-book-2 : goal.invariant_of-book-2
invariant_of-book-2 c = record { capped = capped (goal.at.invariant_of-book-2 c).After-push }

pub returns : goal.returns
returns c =
    let w = (goal.at.returns c).After-push in
    record {
      caused = uncaused w;
      leaves = (λ i. other_money (l w) ((moves w).0 i) ((moves w).1 i) (longer w i) ((l w).made + 1)) ∙ paid_is (l w) (h w) (neg_ℤ c.args.amount) ((l w).slips ++ next_slip (l w) (h w) c.args.amount ∷ []) ((l w).made + 1);
      slip = slip_says w;
    }
