-- What was asked and told is a run of the rules. Assumes nothing.
use Rattle.std.proofs.Common.{◌≡◌, List, [], ◌∷◌, Some, None, Option, refl, subst}
use Rattle.scenario.specs.Table.{ScenarioTable}
use Rattle.orders.specs.declared.Order.{Order}
use Rattle.rules.specs.Ledger.{Ledger, Slip, empty_ledger}
use Rattle.rules.specs.Causes.{Call, settle, put_back, cause, entered, absent}
use Rattle.rules.specs.Answers.{Answer, ruling}
use Rattle.rules.specs.Runs.{Before, After, AllCalls, Ruled, fed, ledger_at_opening, ledger_after}
use Rattle.rules.proofs.Answered.{told}
use Rattle.rules.proofs.Runs.{ruled_append, calls_append}
use Rattle.orders.specs.declared.Order.TheVariants as orders
use Rattle.desk.specs.Told.{Step}
use Rattle.desk.specs.Meant.{Meaning, makes, opens, no_call, prepares, trades, spends}
use Rattle.desk.specs.Talks.{Moment, preparing, trading, Talk, begun, prepared, opened, traded, early, late, event}

-- the call that is made is one of those
abbrev pub CallIn : (Call → Type 0) → Meaning → Type 0
CallIn P (makes x) = P x
CallIn P opens = Unit {0}
CallIn P (no_call why) = Unit {0}

prepares_before : (o : Order) → CallIn Before (prepares o)
prepares_before (orders.Trader a n) = tt
prepares_before (orders.Client t) = tt
prepares_before (orders.Carry c x) = tt
prepares_before (orders.Price k p) = tt
prepares_before (orders.Deposit h a) = tt
prepares_before o = tt

spends_after : (f : Slip → Call) → ((s : Slip) → After (f s)) → (o : Option Slip) → CallIn After (spends f o)
spends_after f h None = tt
spends_after f h (Some s) = h s

trades_after : (bs : List Slip) (l : Ledger) (o : Order) → CallIn After (trades bs l o)
trades_after bs l (orders.Settle n) = spends_after settle (λ s. tt) _
trades_after bs l (orders.PutBack n) = spends_after put_back (λ s. tt) _
trades_after bs l (orders.SettleBrought k) = spends_after settle (λ s. tt) _
trades_after bs l (orders.PutBackBrought k) = spends_after put_back (λ s. tt) _
trades_after bs l o = tt

-- an event whose answer is the rules' is accepted as the rows say
event_ruled : (m : ScenarioTable) (l : Ledger) (x : Call) (a : Answer) → a ≡ ruling m l x → (event x a).accepted ≡ absent (cause m l x)
event_ruled m l x a e = told m l x a (elim (cause m l x) [ Some n ↦ l | None ↦ entered m l x ]) (record { ruled = e; leaves = refl })

-- the calls so far, in their time and as the rows say
abbrev pub RuledAt : ScenarioTable → Moment → Type 0
RuledAt m (preparing es) = AllCalls Before es × Ruled m empty_ledger es
RuledAt m (trading es fs) = (AllCalls Before es × Ruled m empty_ledger es) × (AllCalls After fs × Ruled m (ledger_at_opening m es) fs)

pub talk_ruled : {m : ScenarioTable} {bs : List Slip} {w : Moment} {ss : List Step} → Talk m bs w ss → RuledAt m w
talk_ruled begun = (tt, tt)
talk_ruled {m = m} (prepared {es = es} o x a t e r) =
    let h = talk_ruled t in
    let b : Before x = subst (CallIn Before) e (prepares_before o) in
    (calls_append Before es (event x a ∷ []) h.0 (b, tt), ruled_append m empty_ledger es (event x a ∷ []) h.1 (event_ruled m (fed m empty_ledger es) x a r, tt))
talk_ruled (opened t) = (talk_ruled t, (tt, tt))
talk_ruled {m = m} {bs = bs} (traded {es = es} {fs = fs} o x a t e r) =
    let h = talk_ruled t in
    let b : After x = subst (CallIn After) e (trades_after bs (ledger_after m es fs) o) in
    (h.0, (calls_append After fs (event x a ∷ []) h.1.0 (b, tt), ruled_append m (ledger_at_opening m es) fs (event x a ∷ []) h.1.1 (event_ruled m (ledger_after m es fs) x a r, tt)))
talk_ruled (early o why t e) = talk_ruled t
talk_ruled (late o why t e) = talk_ruled t
