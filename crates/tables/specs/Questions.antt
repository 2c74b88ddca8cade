-- The figures that the rows of a table ask for. Assumes nothing.
use Rattle.std.specs.Prelude.{ℕ, cond, List, [], ◌∷◌, ℤ, Some, None, codes, Option}
use Rattle.std.specs.Str.{bytes_eq}
use Rattle.tables.specs.declared.questions.Question.{Question as Kept}
use Rattle.tables.specs.declared.questions.Question.TheVariants.{Shock, Mark, Loss, Risk, Need, Deficit, Greatest, Utilisation}
use Rattle.tables.specs.Numbers.{below}

-- the figure that a row asks for
pub data Question : Type 0 where
  shock : ℕ → ℕ → Question
  mark : Question
  loss : ℕ → ℕ → Question
  risk : Question
  need : Question
  deficit : ℤ → ℤ → Question
  greatest : ℤ → List ℤ → Question
  utilisation : ℤ → ℤ → Question

abbrev pub question_of : Kept → Question
question_of (Shock c s) = shock c s
question_of Mark = mark
question_of (Loss k s) = loss k s
question_of Risk = risk
question_of Need = need
question_of (Deficit n c) = deficit n c
question_of (Greatest n xs) = greatest n xs.now
question_of (Utilisation r b) = utilisation r b

abbrev pub both : {A B : Type 0} → Option A → Option B → Option (A × B)
both None q = None
both (Some a) None = None
both (Some a) (Some b) = Some (a, b)

-- two numbers of 0 to 255
abbrev pub two_bytes : ℤ → ℤ → Option (ℕ × ℕ)
two_bytes a b = both (below 256 a) (below 256 b)

abbrev pub with_two : {A B : Type 0} → (A → A → B) → Option (A × A) → Option B
with_two f None = None
with_two f (Some p) = Some (f p.0 p.1)

-- the questions about the positions, which are asked with no number
abbrev pub of_positions : List ℕ → Option Question
of_positions w =
    cond (bytes_eq w (codes "mark")) (Some mark)
    (cond (bytes_eq w (codes "risk")) (Some risk) (cond (bytes_eq w (codes "need")) (Some need) None))

-- those that are asked with two numbers
abbrev pub of_two : List ℕ → ℤ → ℤ → Option Question
of_two w a b =
    cond (bytes_eq w (codes "shock")) (with_two shock (two_bytes a b))
    (cond (bytes_eq w (codes "loss")) (with_two loss (two_bytes a b))
    (cond (bytes_eq w (codes "deficit")) (Some (deficit a b))
    (cond (bytes_eq w (codes "utilisation")) (Some (utilisation a b)) None)))

-- the one about a list of deficits, after how many count
abbrev pub of_list : List ℤ → Option Question
of_list [] = None
of_list (n ∷ xs) = Some (greatest n xs)

abbrev pub of_few : List ℕ → List ℤ → Option Question
of_few w [] = of_positions w
of_few w (a ∷ []) = None
of_few w (a ∷ b ∷ []) = of_two w a b
of_few w (a ∷ b ∷ c ∷ xs) = None

-- what a word asks with numbers
abbrev pub asked : List ℕ → List ℤ → Option Question
asked w xs = cond (bytes_eq w (codes "greatest")) (of_list xs) (of_few w xs)
