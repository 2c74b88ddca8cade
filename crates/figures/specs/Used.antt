-- The utilisation that a value of the code means. Assumes nothing.
use Rattle.std.specs.Prelude.{ℕ, ℤ, pos, negsuc, Some, None, Option, Ok, Err, Result}
use Rattle.figures.specs.declared.utilisations.BelowZero.{BelowZero}
use Rattle.figures.specs.Figures.{Utilisation, percent, no_backing, utilisation}

-- a percentage, none where nothing stands behind the risk
abbrev pub utilisation_of : Option ℕ → Utilisation
utilisation_of (Some p) = percent p
utilisation_of None = no_backing

abbrev pub used : Result (Option ℕ) BelowZero → Option Utilisation
used (Ok u) = Some (utilisation_of u)
used (Err e) = None

-- of a backing and a risk, where neither is below 0
abbrev pub utilisation_if : ℤ → ℤ → Option Utilisation
utilisation_if (pos b) (pos r) = Some (utilisation b r)
utilisation_if (pos b) (negsuc r) = None
utilisation_if (negsuc b) r = None
