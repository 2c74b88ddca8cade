-- The lines of a trader's statement, as text. Amounts are signed. Assumes nothing.
use Rattle.std.specs.Prelude.{ℕ, Bool, cond, List, [], ◌∷◌, ◌++◌, ℤ, pos, Some, None, codes, decimal, Option, int_lt}
use Rattle.std.specs.Fmt.{signed_decimal}

-- whose statement it is, and its end
abbrev pub statement_text : ℕ → List ℕ
statement_text trader = codes "statement " ++ decimal trader

abbrev pub end_text : List ℕ
end_text = codes "end"

-- margins, each after a space
unfoldable pub margins_text : List ℤ → List ℕ
margins_text [] = []
margins_text (m ∷ ms) = (codes " " ++ signed_decimal m) ++ margins_text ms

-- what a client has to cover, what covers it, what is missing, and the margins of its subportfolios
abbrev pub figures_text : ℕ → ℤ → ℤ → ℤ → List ℕ
figures_text client need collateral deficit =
    (codes "client " ++ decimal client) ++ ((codes " need " ++ signed_decimal need) ++ ((codes " collateral " ++ signed_decimal collateral) ++ (codes " deficit " ++ signed_decimal deficit)))

abbrev pub client_figures_text : ℕ → ℤ → ℤ → ℤ → List ℤ → List ℕ
client_figures_text client need collateral deficit margins =
    figures_text client need collateral deficit ++ (codes " margins" ++ margins_text margins)

-- the two parts of a trader's risk, the risk, and what backs it
abbrev pub specified_text : ℤ → List ℕ
specified_text x = codes "specified " ++ signed_decimal x

abbrev pub unspecified_text : ℤ → List ℕ
unspecified_text x = codes "unspecified " ++ signed_decimal x

abbrev pub risk_text : ℤ → List ℕ
risk_text x = codes "risk " ++ signed_decimal x

abbrev pub backing_text : ℤ → List ℕ
backing_text x = codes "backing " ++ signed_decimal x

-- the limit, which is backing less risk; below zero it is violated
abbrev pub violation_text : Bool → List ℕ
violation_text violated = cond violated (codes " violation") []

abbrev pub limit_text : ℤ → List ℕ
limit_text x = (codes "limit " ++ signed_decimal x) ++ violation_text (int_lt x (pos 0))

-- how much of the backing is used, in percent, if there is any
abbrev pub utilisation_text : Option ℕ → List ℕ
utilisation_text None = codes "utilisation no backing"
utilisation_text (Some percent) = codes "utilisation " ++ decimal percent
