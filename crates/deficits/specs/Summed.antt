-- Which deficits can be summed, and what is picked of them. Assumes nothing.
use Rattle.std.specs.Prelude.{ℕ, ◌*◌, min, Bool, true, cond, ◌&&◌, List, [], ◌∷◌, map, length, ℤ, pos, Some, None, Option, int_le, nat_le}
use Rattle.figures.specs.Sums.{total_greatest}
use Rattle.deficits.specs.declared.Deficit.{Deficit}
use Rattle.deficits.specs.declared.Picked.{Picked}

-- what each of some clients lacks
abbrev pub amounts : List Deficit → List ℤ
amounts ds = map (λ d. d.amount) ds

-- the most deficits in one list, and the largest amount of one
abbrev pub most_deficits : ℕ
most_deficits = 128

abbrev pub most_amount : ℕ
most_amount = 50000000000000000

-- the largest sum of so many
abbrev pub most_sum : ℕ
most_sum = most_deficits * most_amount

-- an amount of 0 to the largest
abbrev pub fair : ℤ → Bool
fair x = int_le (pos 0) x && int_le x (pos most_amount)

abbrev pub all_fair : List ℤ → Bool
all_fair [] = true
all_fair (x ∷ xs) = fair x && all_fair xs

-- few enough deficits, each of a fair amount
abbrev pub summable : List Deficit → Bool
summable ds = nat_le (length ds) most_deficits && all_fair (amounts ds)

-- an answer where the deficits can be summed
abbrev pub if_summable : {A : Type 0} → List Deficit → A → Option A
if_summable ds x = cond (summable ds) (Some x) None

-- how many of n cells the greatest of some deficits fill, and what these sum to
abbrev pub picked_of : ℕ → List Deficit → Picked
picked_of n ds = record { count = min n (length ds); sum = total_greatest n (amounts ds) }
