use Rattle.std.proofs.Common.{◌≡◌, ℕ, ◌+◌, ◌<◌, true, List, ℤ, [], ◌∷◌, ◌++◌, map, length, get_or, drop, sym, refl, ap, ◌∙◌, arith, w64, to_z, of_z}
use Rattle.std.specs.Slice.Iter.{iter_rest}
use Rattle.std.proofs.lemmas.Int.{to_z-of_z}
use Rattle.std.proofs.lemmas.List.{length-map, get_or-drop, drop-drop}
use Rattle.cells.specs.Listed.{listed}
use Rattle.figures.specs.Losses.{at}
use Rattle.figures.specs.Sums.{greatest_below, those_below}
use Rattle.figures.proofs.Listing.{those_yes, length_those}
use Rattle.figures.proofs.tally.greatest_by_row.Goals as goal

pub greatest_among-requires : goal.greatest_among-requires
greatest_among-requires g c =
    let law = g.met.M.ScenarioModel.lawful c.args.model.now in
    let step = c.in-Some.ensures.steps in (
      omega (arith, c.scenarios.ensures, law.some_scenario c.in-Some.k (omega (arith, step.0, c.loop-k.invariant.0))),
      omega (arith, c.scenarios.ensures, law.few_scenarios c.in-Some.k),
    )

pub loop-k-preserved : goal.loop-k-preserved
loop-k-preserved g c =
    let m = g.M.ScenarioModel.table c.args.model.now in
    let l = c.loop-k in
    let rows = c.args.rows.now in
    let step = c.in-Some.ensures.steps in
    let i = l.k-iterator.a.start in
    let f : ℕ → _ = λ k. greatest_below (m.scenarios k) (at (get_or rows k [])) in
    let law = g.met.M.ScenarioModel.lawful c.args.model.now in
    let front : drop i rows ≡ c.in-Some.row.now ∷ iter_rest c.next.new.self.b = sym l.invariant.2 ∙ step.1 in
    let row : c.in-Some.row.now ≡ get_or rows i [] = sym (ap (λ (xs : List (List ℤ)). get_or xs 0 []) front) ∙ get_or-drop i rows 0 [] ∙ ap (λ (j : ℕ). get_or rows j []) (omega arith) in
    let next : iter_rest c.next.new.self.b ≡ drop (i + 1) rows = sym (ap (drop 1) front) ∙ drop-drop 1 i rows in
    let here : c.in-Some.k ≡ i = step.0.1.1 in
    let e : to_z w64 (of_z w64 c.greatest_among.result) ≡ f i =
    to_z-of_z w64 c.greatest_among.result (record { sfits = c.greatest_among.type_inv })
    ∙ c.greatest_among.ensures
    ∙ ap (λ (n : ℕ). greatest_below n (at c.in-Some.row.now)) (c.scenarios.ensures ∙ ap m.scenarios here)
    ∙ ap (λ (xs : List ℤ). greatest_below (m.scenarios i) (at xs)) row in
    let same : length (listed l.greatest) ≡ length (map f (those_below i (λ _. true))) = ap length l.invariant.3 in
    let room : length (listed l.greatest) < 8 = omega (arith, same, length-map (those_below i (λ _. true)) f, length_those i (λ _. true), law.few_subportfolios, step.0, l.invariant.0) in
    let made : listed c.push.new.self ≡ map f (those_below (i + 1) (λ _. true)) =
    (c.push.ensures.room room).1
    ∙ ap (λ (xs : List ℤ). xs ++ to_z w64 (of_z w64 c.greatest_among.result) ∷ []) l.invariant.3
    ∙ sym (those_yes f i (λ _. true) _ refl e) in (
      step.0.0 ∙ l.invariant.0,
      omega (arith, step.0),
      rw step.0.1.2 next,
      rw step.0.1.2 made,
    )
