-- The sum of the greatest of some amounts, where it can be worked out. Assumes nothing.
use Rattle.std.specs.Prelude.{Bool, ◌&&◌, List, length, ℤ, pos, negsuc, None, Option, nat_le}
use Rattle.figures.specs.Markets.{figure_if}
use Rattle.figures.specs.Sums.{total_greatest}
use Rattle.deficits.specs.Summed.{most_deficits, all_fair}

-- few enough amounts, each of them fair
abbrev pub summable : List ℤ → Bool
summable xs = nat_le (length xs) most_deficits && all_fair xs

abbrev pub greatest_if : ℤ → List ℤ → Option ℤ
greatest_if (pos n) xs = figure_if (summable xs) (total_greatest n xs)
greatest_if (negsuc n) xs = None
