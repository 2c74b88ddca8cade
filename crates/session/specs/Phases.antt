-- What a preparation, a session and their slips stand for. Assumes nothing.
use Rattle.std.specs.Prelude.{◌≡◌, Ok, Err, Result}
use Rattle.refusals.specs.declared.Refusal.{Refusal}
use Rattle.refusals.specs.Numbers.{number_of}
use Rattle.rules.specs.Ledger.{Ledger, Slip}
use Rattle.rules.specs.Answers.{Answer, Answered, accepted, refused}
use Rattle.rules.specs.Causes.{Call}
use Rattle.scenario.specs.Table.{ScenarioTable}
use Rattle.book.specs.Ledgers.{ledger_in}
use Rattle.book.specs.Means.{slip_in}
use Rattle.session.specs.declared.phases.Preparation.{Preparation}
use Rattle.session.specs.declared.phases.Session.{Session}
use Rattle.session.specs.declared.slips.Slip.{Slip as Held}

module _ {M : Type 0} where
  abbrev pub prepared : Preparation M → Ledger
  prepared p = ledger_in p.book

  abbrev pub open_ledger : Session M → Ledger
  open_ledger s = ledger_in s.book

module _ {M : Type 0} (table : M → ScenarioTable) where
  -- the promise of each call that changes a preparation: it answers and enters by the rules, over the model as it was
  pub record Prepares (p : Preparation M) (x : Call) (r : Answer) (q : Preparation M) : Type 0 where
    pub rules : Answered (table p.model) (prepared p) x r (prepared q)
    pub model : q.model ≡ p.model

  -- the same of a session
  pub record Enters (s : Session M) (x : Call) (r : Answer) (t : Session M) : Type 0 where
    pub rules : Answered (table s.model) (open_ledger s) x r (open_ledger t)
    pub model : t.model ≡ s.model

abbrev pub slip_of : Held → Slip
slip_of s = slip_in s.stub

-- what spending a slip answers
abbrev pub spent : Result (Unit {0}) (Refusal × Held) → Answer
spent (Ok x) = accepted
spent (Err p) = refused (number_of p.0)

-- a refused slip comes back as it was
abbrev pub ComesBack : Result (Unit {0}) (Refusal × Held) → Held → Type 0
ComesBack (Ok x) s = Unit {0}
ComesBack (Err p) s = p.1 ≡ s

-- a place that a refused statement leaves as it was
abbrev pub AsItWas : {A : Type 0} → Result (Unit {0}) Refusal → A → A → Type 0
AsItWas (Ok x) a b = Unit {0}
AsItWas (Err e) a b = b ≡ a
