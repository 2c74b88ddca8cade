-- Events one after another, and runs with a call more or with fewer calls. Assumes nothing.
use Rattle.std.proofs.Common.{◌≡◌, cond, List, [], ◌∷◌, ◌++◌, refl}
use Rattle.scenario.specs.Table.{ScenarioTable}
use Rattle.rules.specs.Ledger.{Ledger}
use Rattle.rules.specs.Causes.{Call, cause, entered, absent}
use Rattle.rules.specs.Runs.{Event, fed, After, AllCalls, Ruled, Run, opened_ledger, ledger}

-- ---- events

pub fed_append : (m : ScenarioTable) (l : Ledger) (es fs : List Event) → fed m l (es ++ fs) ≡ fed m (fed m l es) fs
fed_append m l [] fs = refl
fed_append m l (e ∷ es) fs = fed_append m (cond e.accepted (entered m l e.call) l) es fs

pub ruled_append : (m : ScenarioTable) (l : Ledger) (es fs : List Event) → Ruled m l es → Ruled m (fed m l es) fs → Ruled m l (es ++ fs)
ruled_append m l [] fs r s = s
ruled_append m l (e ∷ es) fs (a, r) s = (a, ruled_append m (cond e.accepted (entered m l e.call) l) es fs r s)

pub ruled_front : (m : ScenarioTable) (l : Ledger) (es fs : List Event) → Ruled m l (es ++ fs) → Ruled m l es
ruled_front m l [] fs r = tt
ruled_front m l (e ∷ es) fs (a, r) = (a, ruled_front m (cond e.accepted (entered m l e.call) l) es fs r)

pub calls_append : (P : Call → Type 0) (es fs : List Event) → AllCalls P es → AllCalls P fs → AllCalls P (es ++ fs)
calls_append P [] fs a b = b
calls_append P (e ∷ es) fs (p, a) b = (p, calls_append P es fs a b)

pub calls_front : (P : Call → Type 0) (es fs : List Event) → AllCalls P (es ++ fs) → AllCalls P es
calls_front P [] fs a = tt
calls_front P (e ∷ es) fs (p, a) = (p, calls_front P es fs a)

-- ---- runs

-- one call more, accepted or refused as the rows say
abbrev pub longer : (m : ScenarioTable) (r : Run m) (e : Event) → After e.call → e.accepted ≡ absent (cause m (ledger m r) e.call) → Run m
longer m r e p q = record {
  before = r.before;
  after = r.after ++ (e ∷ []);
  prepares = r.prepares;
  trades = calls_append After r.after (e ∷ []) r.trades (p, tt);
  prepared = r.prepared;
  ruled = ruled_append m (opened_ledger m r) r.after (e ∷ []) r.ruled (q, tt);
}

pub ledger_longer : (m : ScenarioTable) (r : Run m) (e : Event) (p : After e.call) (q : e.accepted ≡ absent (cause m (ledger m r) e.call)) → ledger m (longer m r e p q) ≡ cond e.accepted (entered m (ledger m r) e.call) (ledger m r)
ledger_longer m r e p q = fed_append m (opened_ledger m r) r.after (e ∷ [])

-- the session's calls up to some point: at every moment of a session there is a run
abbrev pub front : (m : ScenarioTable) (r : Run m) (es rest : List Event) → es ++ rest ≡ r.after → Run m
front m r es rest e = record {
  before = r.before;
  after = es;
  prepares = r.prepares;
  trades = calls_front After es rest (rw e r.trades);
  prepared = r.prepared;
  ruled = ruled_front m (opened_ledger m r) es rest (rw e r.ruled);
}
