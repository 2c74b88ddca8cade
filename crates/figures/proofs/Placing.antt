-- Where a position lies, and whose row of sums it changes. Assumes nothing.
use Rattle.std.proofs.Common.{◌≡◌, ℕ, ◌<◌, Bool, true, false, cond, eqb, List, [], length, get_or, set, ℤ, pos, neg_ℤ, Some, None, Option, sym, refl, ap, ◌∙◌, inl, inr}
use Rattle.std.proofs.lemmas.List.{get_or-set_same, get_or-set_other}
use Rattle.std.proofs.lemmas.Bool.{cases_eq, eq-eqb, ne_eqb}
use Rattle.scenario.specs.Table.{ScenarioTable}
use Rattle.figures.specs.Figures.{Position, lies_in, moves, mark}
use Rattle.figures.specs.Losses.{lost_together, loses_in, Added}
use Rattle.figures.proofs.Summing.{added_zero, added_same}

abbrev lies : ℕ → Option (ℕ × ℕ) → Bool
lies k o = elim o [ Some p ↦ eqb p.0 k | None ↦ false ]

module _ (m : ScenarioTable) (t : Position) where
  pub lies_there : (k x : ℕ) → m.place t.contract ≡ Some (k, x) → lies_in m k t ≡ true
  lies_there k x e = ap (lies k) e ∙ eq-eqb k k refl

  pub lies_elsewhere : (k j x : ℕ) → m.place t.contract ≡ Some (k, x) → (j ≡ k → ⊥) → lies_in m j t ≡ false
  lies_elsewhere k j x e ne = ap (lies j) e ∙ ne_eqb k j (λ p. ne (sym p))

  pub lies_nowhere : (j : ℕ) → m.place t.contract ≡ None → lies_in m j t ≡ false
  lies_nowhere j e = ap (lies j) e

  module _ (market : ℕ → ℕ) (lost : ℤ → ℤ → ℤ) where
    pub loses_there : (k : ℕ) (z : ℤ) → lies_in m k t ≡ true → z ≡ mark m market t → (s : ℕ) → lost z (moves m s t) ≡ loses_in m market lost k s t
    loses_there k z b e s =
        ap (λ x. lost x (moves m s t)) e ∙ ap (λ (c : Bool). cond c (lost (mark m market t) (moves m s t)) (pos 0)) (sym b)

    pub loses_none : (k : ℕ) → lies_in m k t ≡ false → (s : ℕ) → loses_in m market lost k s t ≡ pos 0
    loses_none k b s = ap (λ (c : Bool). cond c (lost (mark m market t) (moves m s t)) (pos 0)) b

    -- the row of its subportfolio changes, and no other
    pub added_row : (rows : List (List ℤ)) (k x : ℕ) (row : List ℤ) (z : ℤ) (b : ℕ) → m.place t.contract ≡ Some (k, x) → k < length rows → z ≡ mark m market t → Added (get_or rows k []) row (m.scenarios k) (λ s. lost z (moves m s t)) b → (j : ℕ) → Added (get_or rows j []) (get_or (set rows k row) j []) (m.scenarios j) (λ s. loses_in m market lost j s t) b
    added_row rows k x row z b p l e a j =
        elim (cases_eq j k) [
          | inl q ↦ rw (q, get_or-set_same rows k row [] l) (added_same (get_or rows k []) row (m.scenarios k) _ _ b (loses_there k z (lies_there k x p) e) a)
          | inr q ↦ rw (get_or-set_other rows k j row [] q) (added_zero (get_or rows j []) (m.scenarios j) _ b (loses_none j (lies_elsewhere k j x p q)))
        ]

    pub added_no_row : (rows : List (List ℤ)) (b : ℕ) → m.place t.contract ≡ None → (j : ℕ) → Added (get_or rows j []) (get_or rows j []) (m.scenarios j) (λ s. loses_in m market lost j s t) b
    added_no_row rows b p j = added_zero (get_or rows j []) (m.scenarios j) _ b (loses_none j (lies_nowhere j p))

  -- gains and losses together need no mark
  pub together_there : (market : ℕ → ℕ) (k : ℕ) → lies_in m k t ≡ true → (s : ℕ) → neg_ℤ (moves m s t) ≡ loses_in m market lost_together k s t
  together_there market k b s = ap (λ (c : Bool). cond c (neg_ℤ (moves m s t)) (pos 0)) (sym b)
