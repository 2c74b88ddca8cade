-- The figure that a question asks for, by the definitions of the figures. Assumes nothing.
use Rattle.std.specs.Prelude.{ℕ, ◌^◌, cond, ◌&&◌, List, [], ◌∷◌, ℤ, pos, Some, None, codes, Option, int_le, nat_lt}
use Rattle.std.specs.Str.{bytes_eq}
use Rattle.scenario.specs.Table.{ScenarioTable}
use Rattle.figures.specs.declared.prices.Prices.{Prices}
use Rattle.figures.specs.Figures as figures
use Rattle.figures.specs.Figures.{Position, Utilisation, percent, no_backing}
use Rattle.figures.specs.Markets.{market, is_priced, answerable, fair_cash, figure_if}
use Rattle.figures.specs.Used.{utilisation_if}
use Rattle.tables.specs.declared.workings.Figure.{Figure}
use Rattle.tables.specs.declared.workings.Figure.TheVariants.{Number, NoBacking}
use Rattle.tables.specs.Greatest.{greatest_if}
use Rattle.tables.specs.Numbers.{signed_in}
use Rattle.tables.specs.Questions.{Question, shock, mark, loss, risk, need, deficit, greatest, utilisation}

-- a number as a figure
abbrev pub number_if : Option ℤ → Option Figure
number_if None = None
number_if (Some z) = Some (Number z)

-- the figure that a word writes
abbrev pub word_figure : List ℕ → Option Figure
word_figure w = cond (bytes_eq w (codes "none")) (Some NoBacking) (number_if (signed_in w))

abbrev pub figure_in : Option (List ℕ) → Option Figure
figure_in None = None
figure_in (Some w) = word_figure w

-- a percentage that fits 63 bits
abbrev pub percent_if : ℕ → Option Figure
percent_if p = cond (nat_lt p (2 ^ 63)) (Some (Number (pos p))) None

abbrev pub utilisation_figure : Option Utilisation → Option Figure
utilisation_figure None = None
utilisation_figure (Some (percent p)) = percent_if p
utilisation_figure (Some no_backing) = Some NoBacking

-- the mark of the last position
abbrev pub last_mark : ScenarioTable → Prices → List Position → Option ℤ
last_mark m ps [] = None
last_mark m ps (t ∷ []) = figure_if (is_priced ps t) (figures.mark m (market ps) t)
last_mark m ps (t ∷ u ∷ ts) = last_mark m ps (u ∷ ts)

abbrev pub figure_for : ScenarioTable → Prices → List Position → Question → Option Figure
figure_for m ps ts (shock c s) = Some (Number (m.shock c s))
figure_for m ps ts mark = number_if (last_mark m ps ts)
figure_for m ps ts (loss k s) = number_if (figure_if (answerable ps ts) (figures.losers_in m (market ps) ts k s))
figure_for m ps ts risk = number_if (figure_if (answerable ps ts) (figures.open_risk m (market ps) ts))
figure_for m ps ts need = number_if (figure_if (answerable ps ts && fair_cash (pos 0)) (figures.need m (market ps) ts (pos 0)))
figure_for m ps ts (deficit n c) = number_if (figure_if (int_le (pos 0) c) (figures.deficit n c))
figure_for m ps ts (greatest n xs) = number_if (greatest_if n xs)
figure_for m ps ts (utilisation r b) = utilisation_figure (utilisation_if b r)

abbrev pub figure_if_asked : ScenarioTable → Prices → List Position → Option Question → Option Figure
figure_if_asked m ps ts None = None
figure_if_asked m ps ts (Some q) = figure_for m ps ts q
