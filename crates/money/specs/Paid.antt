-- What is handed out against a slip, a client's needs and its trader's limit aside. Assumes nothing.
use Rattle.std.specs.Prelude.{◌≡◌, ℕ, ◌+◌, not, ◌||◌, [], ◌∷◌, ◌++◌, length, ℤ, ◌-ℤ◌, neg_ℤ, Ok, Err, Option, Result, int_lt, nat_lt}
use Rattle.refusals.specs.declared.Refusal.{Refusal}
use Rattle.refusals.specs.Numbers.{refusal_of}
use Rattle.rules.specs.Bounds.{most_standing, most_slips}
use Rattle.rules.specs.Ledger.{Ledger, Holder, collateral_of, moved}
use Rattle.rules.specs.Causes.{first, no_such_holder, is_amount, next_slip, with_slips}
use Rattle.book.specs.declared.stubs.Stub.{Stub}
use Rattle.book.specs.Means.{slip_in}
use Rattle.money.specs.declared.vaults.Parting.{Parting}

-- why nothing is handed out
abbrev pub pay_cause : Ledger → Holder → ℤ → Option ℕ
pay_cause l h a =
    first
    ((no_such_holder l h, 10)
    ∷ (not (nat_lt (length l.slips) most_standing) || not (nat_lt l.made most_slips), 11)
    ∷ (not (is_amount a), 12)
    ∷ (int_lt (collateral_of l h) a, 19)
    ∷ [])

-- what is left to the holder, and what is handed out
abbrev pub Parts : Ledger → Holder → ℤ → Result Parting Refusal → Type 0
Parts l h a (Ok p) = (p.left.amount ≡ collateral_of l h -ℤ a) × (p.paid.amount ≡ a)
Parts l h a (Err e) = Unit {0}

abbrev pub after_paying : Ledger → Holder → ℤ → Result Stub Refusal → Ledger
after_paying l h a (Ok s) = with_slips (moved l h (neg_ℤ a)) (l.slips ++ (next_slip l h a ∷ [])) (l.made + 1)
after_paying l h a (Err e) = l

-- the slip that is handed out
abbrev pub SlipMade : Ledger → Holder → ℤ → Result Stub Refusal → Type 0
SlipMade l h a (Ok s) = slip_in s ≡ next_slip l h a
SlipMade l h a (Err e) = Unit {0}

pub record PaidOut (l : Ledger) (h : Holder) (a : ℤ) (r : Result Stub Refusal) (l' : Ledger) : Type 0 where
  pub caused : refusal_of r ≡ pay_cause l h a
  pub leaves : l' ≡ after_paying l h a r
  pub slip : SlipMade l h a r
