-- What an answered call tells of the run that it belongs to. Assumes nothing.
use Rattle.std.proofs.Common.{◌≡◌, ℕ, Bool, true, cond, Some, None, Option, sym, refl, ap, ◌∙◌}
use Rattle.scenario.specs.Table.{ScenarioTable}
use Rattle.rules.specs.Ledger.{Ledger}
use Rattle.rules.specs.Causes.{Call, trader, client, carry, price, deposit, opening, trade, specify, cancel, withdraw, settle, put_back, cash, window, statement, cause, entered, absent}
use Rattle.rules.specs.Answers.{Answer, refused, is_accepted, reply, Answered}
use Rattle.rules.specs.Runs.{Event, After, Run, ledger}
use Rattle.rules.proofs.Runs.{longer, ledger_longer}

reply_accepted : (m : ScenarioTable) (l : Ledger) (x : Call) → is_accepted (reply m l x) ≡ true
reply_accepted m l (trader a n) = refl
reply_accepted m l (client t) = refl
reply_accepted m l (carry c k side q p) = refl
reply_accepted m l (price k p) = refl
reply_accepted m l (deposit h a) = refl
reply_accepted m l opening = refl
reply_accepted m l (trade t k side q p) = refl
reply_accepted m l (specify i c) = refl
reply_accepted m l (cancel i) = refl
reply_accepted m l (withdraw h a) = refl
reply_accepted m l (settle s) = refl
reply_accepted m l (put_back s) = refl
reply_accepted m l (cash c v) = refl
reply_accepted m l window = refl
reply_accepted m l (statement t) = refl

-- by its answer a call was accepted exactly when no row refuses it
pub told : (m : ScenarioTable) (l : Ledger) (x : Call) (r : Answer) (l' : Ledger) → Answered m l x r l' → is_accepted r ≡ absent (cause m l x)
told m l x r l' a = ap is_accepted a.ruled ∙ go (cause m l x)
  where
    go : (o : Option ℕ) → is_accepted (elim o as (λ _. Answer) [ Some n ↦ refused n | None ↦ reply m l x ]) ≡ absent o
    go (Some n) = refl
    go None = reply_accepted m l x

-- and it leaves what a run's ledger takes in
pub left : (m : ScenarioTable) (l : Ledger) (x : Call) (r : Answer) (l' : Ledger) → Answered m l x r l' → l' ≡ cond (is_accepted r) (entered m l x) l
left m l x r l' a = a.leaves ∙ go (cause m l x) ∙ ap (λ (t : Bool). cond t (entered m l x) l) (sym (told m l x r l' a))
  where
    go : (o : Option ℕ) → elim o as (λ _. Ledger) [ Some n ↦ l | None ↦ entered m l x ] ≡ cond (absent o) (entered m l x) l
    go (Some n) = refl
    go None = refl

-- so an answered call of a session makes a run one call longer
pub run_on : (m : ScenarioTable) (r : Run m) (x : Call) (s : Answer) (l' : Ledger) → After x → Answered m (ledger m r) x s l' → (r' : Run m) × (ledger m r' ≡ l')
run_on m r x s l' p a =
    let e : Event = record { call = x; accepted = is_accepted s } in
    (longer m r e p (told m (ledger m r) x s l' a), ledger_longer m r e p (told m (ledger m r) x s l' a) ∙ sym (left m (ledger m r) x s l' a))

-- ---- how a call comes to be answered

pub refuses : (m : ScenarioTable) (l : Ledger) (x : Call) (n : ℕ) → cause m l x ≡ Some n → Answered m l x (refused n) l
refuses m l x n e = record { ruled = ap (λ (o : Option ℕ). elim o as (λ _. Answer) [ Some k ↦ refused k | None ↦ reply m l x ]) (sym e); leaves = ap (λ (o : Option ℕ). elim o as (λ _. Ledger) [ Some k ↦ l | None ↦ entered m l x ]) (sym e) }

pub accepts : (m : ScenarioTable) (l : Ledger) (x : Call) (r : Answer) (l' : Ledger) → cause m l x ≡ None → r ≡ reply m l x → l' ≡ entered m l x → Answered m l x r l'
accepts m l x r l' e q h = record { ruled = q ∙ ap (λ (o : Option ℕ). elim o as (λ _. Answer) [ Some k ↦ refused k | None ↦ reply m l x ]) (sym e); leaves = h ∙ ap (λ (o : Option ℕ). elim o as (λ _. Ledger) [ Some k ↦ l | None ↦ entered m l x ]) (sym e) }
