-- What the words of a line say, one after another. Assumes nothing.
use Rattle.std.specs.Prelude.{ℕ, cond, List, [], ◌∷◌, ℤ, Some, None, codes, Option}
use Rattle.std.specs.Option.{option_map}
use Rattle.std.specs.Str.{bytes_eq}
use Rattle.orders.specs.declared.Side.{Side}
use Rattle.orders.specs.declared.Side.TheVariants.{Buy, Sell}
use Rattle.orders.specs.declared.Holder.{Holder}
use Rattle.orders.specs.declared.Holder.TheVariants.{Client, Trader, Member}
use Rattle.orders.specs.declared.Lot.{Lot}
use Rattle.commands.specs.Numbers.{whole, amount}

-- what is read, before the words that follow it
abbrev pub before_words : {A : Type 0} → Option A → List (List ℕ) → Option (A × List (List ℕ))
before_words None ws = None
before_words (Some x) ws = Some (x, ws)

-- the first word, read in some way, and the words after it
abbrev pub first : {A : Type 0} → (List ℕ → Option A) → List (List ℕ) → Option (A × List (List ℕ))
first f [] = None
first f (w ∷ ws) = before_words (f w) ws

-- the first word read in one way, and the words after it in another
abbrev pub and_rest : {A B : Type 0} → (List (List ℕ) → Option B) → Option (A × List (List ℕ)) → Option (A × B)
and_rest g None = None
and_rest g (Some p) = option_map (λ y. (p.0, y)) (g p.1)

abbrev pub first_then : {A B : Type 0} → (List ℕ → Option A) → (List (List ℕ) → Option B) → List (List ℕ) → Option (A × B)
first_then f g ws = and_rest g (first f ws)

-- the only word, read in some way
abbrev pub alone : {A : Type 0} → (List ℕ → Option A) → List (List ℕ) → Option A
alone f [] = None
alone f (w ∷ []) = f w
alone f (w ∷ v ∷ ws) = None

-- no word at all
abbrev pub no_words : {A : Type 0} → A → List (List ℕ) → Option A
no_words x [] = Some x
no_words x (w ∷ ws) = None

-- bought or sold
abbrev pub side : List ℕ → Option Side
side w = cond (bytes_eq w (codes "buy")) (Some Buy) (cond (bytes_eq w (codes "sell")) (Some Sell) None)

-- two numbers, two amounts, and a number with an amount
abbrev pub two_numbers : List (List ℕ) → Option (ℕ × ℕ)
two_numbers ws = first_then whole (alone whole) ws

abbrev pub two_amounts : List (List ℕ) → Option (ℤ × ℤ)
two_amounts ws = first_then amount (alone amount) ws

abbrev pub number_and_amount : List (List ℕ) → Option (ℕ × ℤ)
number_and_amount ws = first_then whole (alone amount) ws

-- what was traded: the contract, the side, the quantity and the price
abbrev pub lot_of : ℕ × (Side × (ℕ × ℕ)) → Lot
lot_of p = record { contract = p.0; side = p.1.0; quantity = p.1.1.0; price = p.1.1.1 }

abbrev pub lot : List (List ℕ) → Option Lot
lot ws = option_map lot_of (first_then whole (first_then side two_numbers) ws)

abbrev pub number_and_lot : List (List ℕ) → Option (ℕ × Lot)
number_and_lot ws = first_then whole lot ws

-- whose collateral, by the word before the holder's number
abbrev pub holder : List ℕ → ℕ → Option Holder
holder w n =
    cond (bytes_eq w (codes "client")) (Some (Client n))
    (cond (bytes_eq w (codes "trader")) (Some (Trader n)) (cond (bytes_eq w (codes "member")) (Some (Member n)) None))

-- a holder and an amount
abbrev pub held : List ℕ → Option (ℕ × ℤ) → Option (Holder × ℤ)
held w None = None
held w (Some p) = option_map (λ h. (h, p.1)) (holder w p.0)

abbrev pub collateral : List (List ℕ) → Option (Holder × ℤ)
collateral [] = None
collateral (w ∷ ws) = held w (number_and_amount ws)
