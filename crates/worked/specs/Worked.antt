-- Worked examples of the field, as facts about the definitions. Money is in centavos. Assumes nothing.
use Rattle.std.specs.Prelude.{◌≡◌, ℕ, List, [], ◌∷◌, pos, negsuc, neg_ℤ, None}
use Rattle.layout.specs.Bytes.{i32_at}
use Rattle.inspection.specs.Causes.{sheet_cause}
use Rattle.sheets.specs.Sheets.{sheet_table}
use Rattle.figures.specs.Sums.{total_greatest}
use Rattle.figures.specs.Figures.{Position, mark, need, open_risk, percent, no_backing, utilisation}

-- a sheet of factors: contract 7 with multiplier 2,500 and exposure 1 to one factor; its shocks are 0, 5,000, -5,000 and 4,999 ten-thousandths
abbrev pub ties : List ℕ
ties =
    1 ∷ 0 ∷ 1 ∷ 0 ∷ 4 ∷ 0 ∷ 1 ∷ 0 ∷ 24 ∷ 0 ∷ 0 ∷ 0 ∷ 32 ∷ 0 ∷ 0 ∷ 0 ∷ 48 ∷ 0 ∷ 0 ∷ 0 ∷ 0 ∷ 0 ∷ 0 ∷ 0
    ∷ 7 ∷ 0 ∷ 196 ∷ 9 ∷ 1 ∷ 0 ∷ 0 ∷ 0
    ∷ 0 ∷ 0 ∷ 0 ∷ 0
    ∷ 136 ∷ 19 ∷ 0 ∷ 0
    ∷ 120 ∷ 236 ∷ 255 ∷ 255
    ∷ 135 ∷ 19 ∷ 0 ∷ 0 ∷ []

-- a sheet of series: four contracts in three scenarios after the unmoved one, worth
-- -50,000,000, -50,000,000, +35,000,000; +20,000,000, +15,000,000, -25,000,000; -90,000,000, -80,000,000, +60,000,000; +5,000,000, -40,000,000, -10,000,000
abbrev pub four_trades : List ℕ
four_trades =
    2 ∷ 0 ∷ 4 ∷ 0 ∷ 4 ∷ 0 ∷ 0 ∷ 0 ∷ 24 ∷ 0 ∷ 0 ∷ 0 ∷ 40 ∷ 0 ∷ 0 ∷ 0 ∷ 104 ∷ 0 ∷ 0 ∷ 0 ∷ 0 ∷ 0 ∷ 0 ∷ 0
    ∷ 1 ∷ 0 ∷ 0 ∷ 0 ∷ 2 ∷ 0 ∷ 0 ∷ 0 ∷ 3 ∷ 0 ∷ 0 ∷ 0 ∷ 4 ∷ 0 ∷ 0 ∷ 0
    ∷ 0 ∷ 0 ∷ 0 ∷ 0 ∷ 128 ∷ 15 ∷ 5 ∷ 253 ∷ 128 ∷ 15 ∷ 5 ∷ 253 ∷ 192 ∷ 14 ∷ 22 ∷ 2
    ∷ 0 ∷ 0 ∷ 0 ∷ 0 ∷ 0 ∷ 45 ∷ 49 ∷ 1 ∷ 192 ∷ 225 ∷ 228 ∷ 0 ∷ 192 ∷ 135 ∷ 130 ∷ 254
    ∷ 0 ∷ 0 ∷ 0 ∷ 0 ∷ 128 ∷ 181 ∷ 162 ∷ 250 ∷ 0 ∷ 76 ∷ 59 ∷ 251 ∷ 0 ∷ 135 ∷ 147 ∷ 3
    ∷ 0 ∷ 0 ∷ 0 ∷ 0 ∷ 64 ∷ 75 ∷ 76 ∷ 0 ∷ 0 ∷ 166 ∷ 157 ∷ 253 ∷ 128 ∷ 105 ∷ 103 ∷ 255 ∷ []

-- a sheet of factors, dollar and index: a dollar future and a coupon future with exposure 10,000,000 to the dollar, an index future with 10,000,000 to the index;
-- after the unmoved scenario the four combinations of dollar +8 % and -8 % with index +10 % and -12 %
abbrev pub futures : List ℕ
futures =
    1 ∷ 0 ∷ 3 ∷ 0 ∷ 5 ∷ 0 ∷ 2 ∷ 0 ∷ 24 ∷ 0 ∷ 0 ∷ 0 ∷ 60 ∷ 0 ∷ 0 ∷ 0 ∷ 100 ∷ 0 ∷ 0 ∷ 0 ∷ 0 ∷ 0 ∷ 0 ∷ 0
    ∷ 1 ∷ 0 ∷ 196 ∷ 9 ∷ 128 ∷ 150 ∷ 152 ∷ 0 ∷ 0 ∷ 0 ∷ 0 ∷ 0
    ∷ 2 ∷ 0 ∷ 196 ∷ 9 ∷ 128 ∷ 150 ∷ 152 ∷ 0 ∷ 0 ∷ 0 ∷ 0 ∷ 0
    ∷ 3 ∷ 0 ∷ 100 ∷ 0 ∷ 0 ∷ 0 ∷ 0 ∷ 0 ∷ 128 ∷ 150 ∷ 152 ∷ 0
    ∷ 0 ∷ 0 ∷ 0 ∷ 0 ∷ 0 ∷ 0 ∷ 0 ∷ 0
    ∷ 32 ∷ 3 ∷ 0 ∷ 0 ∷ 232 ∷ 3 ∷ 0 ∷ 0
    ∷ 32 ∷ 3 ∷ 0 ∷ 0 ∷ 80 ∷ 251 ∷ 255 ∷ 255
    ∷ 224 ∷ 252 ∷ 255 ∷ 255 ∷ 232 ∷ 3 ∷ 0 ∷ 0
    ∷ 224 ∷ 252 ∷ 255 ∷ 255 ∷ 80 ∷ 251 ∷ 255 ∷ 255 ∷ []

-- a sheet of two strikes with payoff 10,000
abbrev pub strikes : List ℕ
strikes =
    3 ∷ 0 ∷ 2 ∷ 0 ∷ 3 ∷ 0 ∷ 0 ∷ 0 ∷ 24 ∷ 0 ∷ 0 ∷ 0 ∷ 32 ∷ 0 ∷ 0 ∷ 0 ∷ 32 ∷ 0 ∷ 0 ∷ 0 ∷ 16 ∷ 39 ∷ 0 ∷ 0
    ∷ 1 ∷ 0 ∷ 0 ∷ 0 ∷ 2 ∷ 0 ∷ 0 ∷ 0 ∷ []

-- so many of a contract, at a price
abbrev pub bought : ℕ → ℕ → ℕ → Position
bought c q p = record { contract = c; quantity = pos q; price = p }

abbrev pub sold : ℕ → ℕ → ℕ → Position
sold c q p = record { contract = c; quantity = neg_ℤ (pos q); price = p }

-- a market in which every contract has the price 100, at which the positions below were traded
abbrev pub even : ℕ → ℕ
even c = 100

abbrev pub trades : List Position
trades = bought 1 1 100 ∷ bought 2 1 100 ∷ bought 3 1 100 ∷ bought 4 1 100 ∷ []

abbrev pub hedge : List Position
hedge = bought 1 1 100 ∷ sold 2 1 100 ∷ []

abbrev pub hedge_and_index : List Position
hedge_and_index = bought 1 1 100 ∷ sold 2 1 100 ∷ bought 3 1 100 ∷ []

abbrev pub struck : List Position
struck = sold 1 30 100 ∷ bought 1 5 100 ∷ sold 2 20 100 ∷ []

pub record WorkedExamples : Type 0 where
  -- the files are accepted
  pub ties_accepted : sheet_cause ties ≡ None
  pub trades_accepted : sheet_cause four_trades ≡ None
  pub futures_accepted : sheet_cause futures ≡ None
  pub strikes_accepted : sheet_cause strikes ≡ None
  -- exposure 1 with shock 5,000 gives 1, with -5,000 gives -1, with 4,999 gives 0
  pub half_up : (sheet_table ties).shock 7 1 ≡ pos 1
  pub half_down : (sheet_table ties).shock 7 2 ≡ negsuc 0
  pub below_half : (sheet_table ties).shock 7 3 ≡ pos 0
  -- the four bytes of value 255 are the number -1
  pub all_ones : i32_at (255 ∷ 255 ∷ 255 ∷ 255 ∷ []) 0 ≡ negsuc 0
  -- of the deficits 400,000,000, 250,000,000 and 100,000,000 two count
  pub two_greatest : total_greatest 2 (pos 400000000 ∷ pos 250000000 ∷ pos 100000000 ∷ []) ≡ pos 650000000
  -- four trades without a client in three scenarios
  pub trades_risk : open_risk (sheet_table four_trades) even trades ≡ pos 170000000
  -- a dollar future bought, a coupon future sold, an index future bought; without the third; the first two with one client
  pub futures_risk : open_risk (sheet_table futures) even hedge_and_index ≡ pos 2000000
  pub hedge_risk : open_risk (sheet_table futures) even hedge ≡ pos 800000
  pub hedge_need : need (sheet_table futures) even hedge (pos 0) ≡ pos 0
  -- strike one sold 30 and bought 5, strike two sold 20: with one client, and as trades without a client
  pub strikes_need : need (sheet_table strikes) even struck (pos 0) ≡ pos 250000
  pub strikes_risk : open_risk (sheet_table strikes) even struck ≡ pos 300000
  -- buy 10 at 4,400, market 4,390, multiplier 2,500
  pub fallen_mark : mark (sheet_table ties) (λ c. 4390) (bought 7 10 4400) ≡ negsuc 249999
  -- risk 1 with backing 300, and with backing 0
  pub one_percent : utilisation 300 1 ≡ percent 1
  pub nothing_behind : utilisation 0 1 ≡ no_backing
