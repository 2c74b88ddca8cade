use Rattle.std.proofs.Common.{◌≡◌, refl, arith}
use Rattle.sheet_set.proofs.Changes.{filled}
use Rattle.sheet_set.proofs.fill_at.Goals as goal

pub returns-in-0-clause-holds : goal.returns-in-0-clause-holds
returns-in-0-clause-holds c =
    let e : 0 ≡ c.args.place = omega arith in
    filled _ _ _ _ _ _ _ (rw (← e) refl) (λ same. cc) c.fill.ensures.holds

pub returns-in-1-clause-holds : goal.returns-in-1-clause-holds
returns-in-1-clause-holds c =
    let e : 1 ≡ c.args.place = omega arith in
    filled _ _ _ _ _ _ _ (rw (← e) refl) (λ same. cc) c.fill-in-1.ensures.holds

pub returns-in-2-clause-holds : goal.returns-in-2-clause-holds
returns-in-2-clause-holds c =
    let e : 2 ≡ c.args.place = omega arith in
    filled _ _ _ _ _ _ _ (rw (← e) refl) (λ same. cc) c.fill-in-2.ensures.holds

pub returns-in-3-clause-holds : goal.returns-in-3-clause-holds
returns-in-3-clause-holds c =
    let e : 3 ≡ c.args.place = omega arith in
    filled _ _ _ _ _ _ _ (rw (← e) refl) (λ same. cc) c.fill-in-3.ensures.holds

pub returns-in-4-clause-holds : goal.returns-in-4-clause-holds
returns-in-4-clause-holds c =
    let e : 4 ≡ c.args.place = omega arith in
    filled _ _ _ _ _ _ _ (rw (← e) refl) (λ same. cc) c.fill-in-4.ensures.holds

pub returns-in-5-clause-holds : goal.returns-in-5-clause-holds
returns-in-5-clause-holds c =
    let e : 5 ≡ c.args.place = omega arith in
    filled _ _ _ _ _ _ _ (rw (← e) refl) (λ same. cc) c.fill-in-5.ensures.holds

pub returns-in-6-clause-holds : goal.returns-in-6-clause-holds
returns-in-6-clause-holds c =
    let e : 6 ≡ c.args.place = omega arith in
    filled _ _ _ _ _ _ _ (rw (← e) refl) (λ same. cc) c.fill-in-6.ensures.holds

pub returns-in_default-clause-holds : goal.returns-in_default-clause-holds
returns-in_default-clause-holds c =
    let e : 7 ≡ c.args.place = omega arith in
    filled _ _ _ _ _ _ _ (rw (← e) refl) (λ same. cc) c.fill-in_default.ensures.holds
