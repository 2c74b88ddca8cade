-- The orders that lines give, each by its first word and the words after it. Assumes nothing.
use Rattle.std.specs.Prelude.{ℕ, cond, List, [], ◌∷◌, None, codes, Option}
use Rattle.std.specs.Option.{option_map, option_or}
use Rattle.std.specs.Str.{bytes_eq}
use Rattle.orders.specs.declared.Order.{Order}
use Rattle.orders.specs.declared.Order.TheVariants.{Trader, Client, Carry, Price, Deposit, Open, Trade, Specify, Cancel, Withdraw, Settle, PutBack, Cash, Window, Statement}
use Rattle.commands.specs.Fields.{alone, no_words, two_numbers, two_amounts, number_and_amount, number_and_lot, collateral}
use Rattle.commands.specs.Numbers.{whole}

-- the orders of the preparation
abbrev pub preparation : List ℕ → List (List ℕ) → Option Order
preparation w ws =
    cond (bytes_eq w (codes "trader")) (option_map (λ p. Trader p.0 p.1) (two_amounts ws))
    (cond (bytes_eq w (codes "client")) (option_map (λ n. Client n) (alone whole ws))
    (cond (bytes_eq w (codes "carry")) (option_map (λ p. Carry p.0 p.1) (number_and_lot ws))
    (cond (bytes_eq w (codes "price")) (option_map (λ p. Price p.0 p.1) (two_numbers ws))
    (cond (bytes_eq w (codes "deposit")) (option_map (λ p. Deposit p.0 p.1) (collateral ws))
    (cond (bytes_eq w (codes "open")) (no_words Open ws) None)))))

-- the orders that enter trades and give them to clients, and a statement
abbrev pub trading : List ℕ → List (List ℕ) → Option Order
trading w ws =
    cond (bytes_eq w (codes "trade")) (option_map (λ p. Trade p.0 p.1) (number_and_lot ws))
    (cond (bytes_eq w (codes "specify")) (option_map (λ p. Specify p.0 p.1) (two_numbers ws))
    (cond (bytes_eq w (codes "cancel")) (option_map (λ n. Cancel n) (alone whole ws))
    (cond (bytes_eq w (codes "statement")) (option_map (λ n. Statement n) (alone whole ws)) None)))

-- the orders that hand out collateral and settle
abbrev pub settlement : List ℕ → List (List ℕ) → Option Order
settlement w ws =
    cond (bytes_eq w (codes "withdraw")) (option_map (λ p. Withdraw p.0 p.1) (collateral ws))
    (cond (bytes_eq w (codes "settle")) (option_map (λ n. Settle n) (alone whole ws))
    (cond (bytes_eq w (codes "putback")) (option_map (λ n. PutBack n) (alone whole ws))
    (cond (bytes_eq w (codes "cash")) (option_map (λ p. Cash p.0 p.1) (number_and_amount ws))
    (cond (bytes_eq w (codes "window")) (no_words Window ws) None))))

-- the order of a line that begins with the word w, if it is one
abbrev pub order_by : List ℕ → List (List ℕ) → Option Order
order_by w ws = option_or (preparation w ws) (option_or (trading w ws) (settlement w ws))

-- the order of a line, by its words
abbrev pub order_in : List (List ℕ) → Option Order
order_in [] = None
order_in (w ∷ ws) = order_by w ws
