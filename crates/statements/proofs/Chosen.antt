-- The figures of a trader's clients, one client more at a time. Assumes nothing.
use Rattle.std.proofs.Common.{◌≡◌, ℕ, ◌+◌, ◌<◌, Bool, true, false, eqb, ltb, List, [], ◌∷◌, ◌++◌, map, length, sym, ap, ◌∙◌, arith}
use Rattle.std.proofs.lemmas.List.{length-map, map_push}
use Rattle.std.proofs.lemmas.Bool.{lt-ltb}
use Rattle.scenario.specs.Table.{ScenarioTable}
use Rattle.figures.specs.Sums.{those_below}
use Rattle.figures.proofs.Listing.{those_yes, those_no, length_those}
use Rattle.rules.specs.Answers.{ClientFigures, client_figures}
use Rattle.rules.specs.Ledger.{Ledger, client_of}
use Rattle.statements.specs.declared.clients.ClientFigures.{ClientFigures as Kept}
use Rattle.statements.specs.Figured.{figures_in}

module _ (m : ScenarioTable) (l : Ledger) (tr : ℕ) where
  abbrev pub is_of : ℕ → Bool
  is_of c = eqb (client_of l c).trader tr

  -- of the clients below a number
  abbrev pub stated : ℕ → List ClientFigures
  stated n = map (client_figures m l) (those_below n is_of)

  module _ (n : ℕ) (found : List Kept) (inv : map figures_in found ≡ stated n) where
    pub stated_room : n < 128 → ltb (length found) 128 ≡ true
    stated_room h =
        let same : length (map figures_in found) ≡ length (stated n) = ap length inv in
        lt-ltb (length found) 128 (omega (arith, length-map found figures_in, length-map (those_below n is_of) (client_figures m l), length_those n is_of))

    pub stated_yes : (more : List Kept) (x : Kept) → is_of n ≡ true → figures_in x ≡ client_figures m l n → more ≡ found ++ x ∷ [] → map figures_in more ≡ stated (n + 1)
    stated_yes more x t e u =
        ap (map figures_in) u
        ∙ map_push figures_in found x
        ∙ ap (λ (v : List ClientFigures). v ++ figures_in x ∷ []) inv
        ∙ sym (those_yes (client_figures m l) n is_of (figures_in x) t e)

    pub stated_no : is_of n ≡ false → map figures_in found ≡ stated (n + 1)
    stated_no t = inv ∙ sym (those_no (client_figures m l) n is_of t)
