-- The console's answers about sheets, as text. Assumes nothing.
use Rattle.std.specs.Prelude.{ℕ, zero, suc, cond, List, [], ◌++◌, Some, None, Ok, Err, codes, decimal, Option, Result, ◌==◌}
use Rattle.std.specs.Fmt.{signed_decimal}
use Rattle.refusals.specs.declared.Refusal.{Refusal}
use Rattle.refusals.specs.declared.Refusal.TheVariants.{Unknown}
use Rattle.layout.specs.Fields.{kind, contracts, scenarios}
use Rattle.scenario.specs.Table.{ScenarioTable}
use Rattle.replies.specs.declared.notes.Misplaced.TheVariants.{SheetsFull}
use Rattle.replies.specs.Texts.{refused_text, misplaced_text}

-- the name of a kind of sheet, by its number in a file
abbrev pub kind_name : ℕ → List ℕ
kind_name k = cond (k == 1) (codes "factors") (cond (k == 2) (codes "series") (codes "strikes"))

-- a sheet that was read from the file b: its place, its kind, and how many contracts and scenarios it has
abbrev pub sheet_text : ℕ → List ℕ → List ℕ
sheet_text place b =
    codes "sheet " ++ (decimal place ++ (codes " " ++ (kind_name (kind b) ++ (codes " contracts " ++ (decimal (contracts b) ++ (codes " scenarios " ++ decimal (scenarios b)))))))

-- a file that finds no place
abbrev pub no_place_text : List ℕ
no_place_text = misplaced_text SheetsFull

-- what reading the file b into the set of sheets came to
abbrev pub added_text : Result (Option ℕ) Refusal → List ℕ → List ℕ
added_text (Ok (Some place)) b = sheet_text place b
added_text (Ok None) b = no_place_text
added_text (Err e) b = refused_text e

-- a contract's shocks in the first n scenarios, each after a space
unfoldable pub shocks_text : ScenarioTable → ℕ → ℕ → List ℕ
shocks_text t c zero = []
shocks_text t c (suc n) = shocks_text t c n ++ (codes " " ++ signed_decimal (t.shock c n))

-- a contract with its subportfolio, its multiplier and its shocks
abbrev pub heading_text : ℕ → ℕ → ℕ → List ℕ
heading_text c k m =
    codes "contract " ++ (decimal c ++ (codes " subportfolio " ++ (decimal k ++ (codes " multiplier " ++ (decimal m ++ codes " shocks")))))

abbrev pub placed_text : ScenarioTable → ℕ → Option (ℕ × ℕ) → List ℕ
placed_text t c None = refused_text Unknown
placed_text t c (Some p) = heading_text c p.0 p.1 ++ shocks_text t c (t.scenarios p.0)

-- what a table says of a contract: an unknown one is refused
abbrev pub contract_text : ScenarioTable → ℕ → List ℕ
contract_text t c = placed_text t c (t.place c)
