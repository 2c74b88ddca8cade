-- What each call answers, and what a statement holds. Assumes nothing.
use Rattle.std.specs.Prelude.{◌≡◌, ℕ, Bool, true, false, List, map, length, ℤ, Some, None, unsigned_abs}
use Rattle.scenario.specs.Table.{ScenarioTable}
use Rattle.figures.specs.Sums.{those_below}
use Rattle.figures.specs.Figures.{Utilisation, utilisation, margin}
use Rattle.rules.specs.Ledger.{Ledger, Slip, client_of}
use Rattle.rules.specs.Limits.{held, clients_of, need_of, deficit_of, specified_risk, unspecified_risk, risk, backing, limit}
use Rattle.rules.specs.Causes.{Call, trader, client, carry, price, deposit, opening, trade, specify, cancel, withdraw, settle, put_back, cash, window, statement, cause, entered, next_slip}

pub record ClientFigures : Type 0 where
  pub number : ℕ
  -- by subportfolio
  pub margins : List ℤ
  pub needed : ℤ
  pub collateral : ℤ
  pub lacking : ℤ

pub record Statement : Type 0 where
  -- each client of the trader, by rising number
  pub clients : List ClientFigures
  pub specified : ℤ
  pub unspecified : ℤ
  pub at_risk : ℤ
  pub behind : ℤ
  pub left : ℤ
  pub used : Utilisation

module _ (m : ScenarioTable) (l : Ledger) where
  abbrev pub client_figures : ℕ → ClientFigures
  client_figures c = record {
    number = c;
    margins = map (margin m (held l c)) (those_below m.subportfolios (λ k. true));
    needed = need_of m l c;
    collateral = (client_of l c).collateral;
    lacking = deficit_of m l c;
  }

  abbrev pub statement_of : ℕ → Statement
  statement_of tr = record {
    clients = map client_figures (clients_of l tr);
    specified = specified_risk m l tr;
    unspecified = unspecified_risk m l tr;
    at_risk = risk m l tr;
    behind = backing m l tr;
    left = limit m l tr;
    used = utilisation (unsigned_abs (backing m l tr)) (unsigned_abs (risk m l tr));
  }

pub data Answer : Type 0 where
  -- by a number of the table
  refused : ℕ → Answer
  accepted : Answer
  -- the number of the trader, client or trade
  numbered : ℕ → Answer
  handed : Slip → Answer
  stated : Statement → Answer

abbrev pub is_accepted : Answer → Bool
is_accepted (refused n) = false
is_accepted accepted = true
is_accepted (numbered n) = true
is_accepted (handed s) = true
is_accepted (stated s) = true

-- what an accepted call answers
abbrev pub reply : ScenarioTable → Ledger → Call → Answer
reply m l (trader a n) = numbered (length l.traders)
reply m l (client t) = numbered (length l.clients)
reply m l (carry c k side q p) = numbered (length l.trades)
reply m l (price k p) = accepted
reply m l (deposit h a) = accepted
reply m l opening = accepted
reply m l (trade t k side q p) = numbered (length l.trades)
reply m l (specify i c) = accepted
reply m l (cancel i) = accepted
reply m l (withdraw h a) = handed (next_slip l h a)
reply m l (settle s) = accepted
reply m l (put_back s) = accepted
reply m l (cash c v) = accepted
reply m l window = accepted
reply m l (statement t) = stated (statement_of m l t)

abbrev pub ruling : ScenarioTable → Ledger → Call → Answer
ruling m l x = elim (cause m l x) [ Some n ↦ refused n | None ↦ reply m l x ]

-- the promise of every call: its answer is the rules', and it leaves what the rules say
pub record Answered (m : ScenarioTable) (l : Ledger) (x : Call) (r : Answer) (l' : Ledger) : Type 0 where
  pub ruled : r ≡ ruling m l x
  pub leaves : l' ≡ elim (cause m l x) [ Some n ↦ l | None ↦ entered m l x ]
