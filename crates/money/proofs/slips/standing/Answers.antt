use Rattle.std.proofs.Common.{◌≡◌, ◌∙◌, ◌+ℤ◌, ◌*◌, ◌≤◌, ℤ, fold, pos, nat_abs, List, [], ◌∷◌, length, w64, rules, map, arith}
use Rattle.std.specs.List.{AllByRecursion}
use Rattle.std.proofs.lemmas.Int.{to_z-of_z, ints}
use Rattle.std.proofs.lemmas.Bool.{cond_both}
use Rattle.std.proofs.lemmas.List.{length-map}
use Rattle.std.proofs.lemmas.Iterator.{YieldsList-from_slice, YieldsList-from_map}
use Rattle.std.proofs.lemmas.Iterator.Adapters.{total_from_yields_List}
use Rattle.cells.specs.Listed.{listed}
use Rattle.scenario.proofs.SignedSums.{sum_fits, small_fits}
use Rattle.orders.specs.Meant.{holder_of}
use Rattle.rules.specs.Causes.{amounts_of}
use Rattle.rules.specs.Ledger.{Holder, same_holder}
use Rattle.rules.proofs.Slips.{part}
use Rattle.book.specs.declared.stubs.Stub.{Stub}
use Rattle.book.specs.Means.{slip_in}
use Rattle.money.proofs.slips.standing.Goals as goal

module _ (h : Holder) where
  abbrev part_in : Stub → ℤ
  part_in x = part h (slip_in x)

  part_small : (x : Stub) → nat_abs (part_in x) ≤ 1000000000000000
  part_small x =
      let low = x.amount.low in
      let high = x.amount.high in
      let own : nat_abs x.amount.amount ≤ 1000000000000000 = omega (arith, ints) in
      cond_both (same_holder h (holder_of x.holder)) _ _ (λ (z : ℤ). nat_abs z ≤ 1000000000000000) (λ _. own) (λ _. omega arith)

  parts_small : (xs : List Stub) → AllByRecursion (λ z. nat_abs z ≤ 1000000000000000) (map part_in xs)
  parts_small [] = tt
  parts_small (x ∷ xs) = (part_small x, parts_small xs)

  amounts_folded : (xs : List Stub) (z : ℤ) → fold ◌+ℤ◌ z (map part_in xs) ≡ z +ℤ amounts_of (map slip_in xs) h
  amounts_folded [] z = omega (arith, ints)
  amounts_folded (x ∷ xs) z = omega (arith, ints, amounts_folded xs (z +ℤ part_in x))

  amounts_small : (xs : List Stub) → nat_abs (amounts_of (map slip_in xs) h) ≤ 1000000000000000 * length xs
  amounts_small [] = omega arith
  amounts_small (x ∷ xs) = omega (arith, ints, part_small x, amounts_small xs)

pub sum-requires-clause-fits : goal.sum-requires-clause-fits
sum-requires-clause-fits c =
    let xs = listed c.args.slips.now in
    let h = holder_of c.args.holder in
    sum_fits (map (part_in h) xs)
    (YieldsList-from_map _ (part_in h) (YieldsList-from_slice xs cc) c.map.ensures.closure (λ x r q k. search rules))
    (small_fits 1000000000000000 (map (part_in h) xs) (parts_small h xs) (omega (arith, length-map xs (part_in h), c.as_slice.ensures.few)))

pub returns : goal.returns
returns c =
    let xs = listed c.args.slips.now in
    let h = holder_of c.args.holder in
    let bits = to_z-of_z w64 c.sum.result (record { sfits = c.sum.type_inv }) in
    let folded : c.sum.result ≡ fold ◌+ℤ◌ (pos 0) (map (part_in h) xs) =
    total_from_yields_List ◌+ℤ◌ (pos 0) c.sum.result c.sum.ensures.ran (YieldsList-from_map _ (part_in h) (YieldsList-from_slice xs cc) c.map.ensures.closure (λ x r q k. search rules)) in
    let is : c.sum.result ≡ amounts_of (map slip_in xs) h = omega (arith, ints, folded, amounts_folded h xs (pos 0)) in
    record { value = bits ∙ is; small = rw bits (omega (arith, ints, is, amounts_small h xs, c.as_slice.ensures.few)) }
