-- The kinds of sheet: their numbers in a file, and their names. Assumes nothing.
use Rattle.std.specs.Prelude.{◌≡◌, ℕ, ◌<◌, ◌⊎◌, List, codes, Result, MatchResult}
use Rattle.layout.specs.declared.kinds.Kind.{Kind}
use Rattle.layout.specs.declared.kinds.Kind.TheVariants.{Factors, Series, Strikes}
use Rattle.layout.specs.declared.kinds.UnknownKind.{UnknownKind}

abbrev pub kind_number : Kind → ℕ
kind_number Factors = 1
kind_number Series = 2
kind_number Strikes = 3

-- the result is the kind with this number, or an error with a number that no kind has
abbrev pub Decodes : ℕ → Result Kind UnknownKind → Type 0
Decodes n r = MatchResult r (λ k. kind_number k ≡ n) (λ e. (e.0 ≡ n) × ((n < 1) ⊎ (3 < n)))

-- one word for people
abbrev pub name_of : Kind → List ℕ
name_of Factors = codes "factors"
name_of Series = codes "series"
name_of Strikes = codes "strikes"
