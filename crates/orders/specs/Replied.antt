-- The answer that a result of the code means. Assumes nothing.
use Rattle.std.specs.Prelude.{Ok, Err, Result}
use Rattle.refusals.specs.declared.Refusal.{Refusal}
use Rattle.refusals.specs.Numbers.{number_of}
use Rattle.rules.specs.Answers.{Answer, refused}

-- a refusal by its number of the table, and anything else by what it tells
abbrev pub answered : {X : Type 0} → (X → Answer) → Result X Refusal → Answer
answered f (Ok x) = f x
answered f (Err e) = refused (number_of e)
