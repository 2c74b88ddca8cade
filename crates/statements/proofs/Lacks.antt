-- What clients lack. Assumes nothing.
use Rattle.std.proofs.Common.{◌≡◌, ℕ, ◌≤◌, true, leb, List, [], ◌∷◌, map, length, ℤ, pos, ◌≤ℤ◌, refl, ap, ◌∙◌, arith}
use lib.Signed.{le_z}
use Rattle.std.proofs.lemmas.List.{length-map}
use Rattle.std.proofs.lemmas.Int.{ints}
use Rattle.std.proofs.lemmas.Bool.{and_from, le-leb}
use Rattle.scenario.specs.Table.{ScenarioTable}
use Rattle.rules.specs.Answers.{ClientFigures, client_figures}
use Rattle.rules.specs.Ledger.{Ledger}
use Rattle.rules.specs.Limits.{deficit_of}
use Rattle.deficits.specs.declared.Deficit.{Deficit}
use Rattle.deficits.specs.Summed.{amounts, fair, all_fair, summable}
use Rattle.statements.specs.declared.clients.ClientFigures.{ClientFigures as Kept}
use Rattle.statements.specs.Figured.{figures_in}

abbrev pub lacks : List Kept → List ℤ
lacks xs = map (λ (c : Kept). c.deficit) xs

le_so : (a b : ℤ) → a ≤ℤ b → le_z a b ≡ true
le_so a b h = grind (arith, ints)

pub all_lacks_fair : (xs : List Kept) → all_fair (lacks xs) ≡ true
all_lacks_fair [] = refl
all_lacks_fair (x ∷ xs) =
    and_from (fair x.deficit) (all_fair (lacks xs)) (and_from (le_z (pos 0) x.deficit) (le_z x.deficit (pos 50000000000000000)) (le_so (pos 0) x.deficit x.low) (le_so x.deficit (pos 50000000000000000) x.high)) (all_lacks_fair xs)

-- what clients lack can be summed
pub lacks_summable : (ds : List Deficit) (xs : List Kept) → length xs ≤ 128 → amounts ds ≡ lacks xs → summable ds ≡ true
lacks_summable ds xs few e =
    let same : length (amounts ds) ≡ length (lacks xs) = ap length e in
    and_from (leb (length ds) 128) (all_fair (amounts ds))
    (le-leb (length ds) 128 (omega (arith, length-map ds (λ (d : Deficit). d.amount), length-map xs (λ (c : Kept). c.deficit))))
    (ap all_fair e ∙ all_lacks_fair xs)

-- by what the figures mean
pub lacks_meant : (xs : List Kept) → lacks xs ≡ map (λ (f : ClientFigures). f.lacking) (map figures_in xs)
lacks_meant [] = refl
lacks_meant (x ∷ xs) = ap (λ (l : List ℤ). x.deficit ∷ l) (lacks_meant xs)

pub lacking_of : (m : ScenarioTable) (l : Ledger) (cs : List ℕ) → map (λ (f : ClientFigures). f.lacking) (map (client_figures m l) cs) ≡ map (deficit_of m l) cs
lacking_of m l [] = refl
lacking_of m l (c ∷ cs) = ap (λ (ds : List ℤ). deficit_of m l c ∷ ds) (lacking_of m l cs)
