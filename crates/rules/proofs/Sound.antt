-- What every ledger of a day keeps. Assumes nothing.
use Rattle.std.proofs.Common.{◌≡◌, Bool, true, false, cond, List, [], ◌∷◌, None, refl}
use Rattle.scenario.specs.Table.{ScenarioTable}
use Rattle.rules.specs.Ledger.{Ledger, empty_ledger}
use Rattle.rules.specs.Causes.{Call, opening, entered, cause, absent}
use Rattle.rules.specs.Runs.{Event, fed, Ruled, Run, ledger, opened_ledger}
use Rattle.rules.specs.Sound.{Sound}
use Rattle.rules.proofs.Rows.{no_cause}
use Rattle.rules.proofs.Funds.{funded_entered, funded_empty}
use Rattle.rules.proofs.Given.{given_entered, given_empty}
use Rattle.rules.proofs.Bounded.{bounded_entered, bounded_empty}

pub sound_entered : (m : ScenarioTable) (l : Ledger) (x : Call) → cause m l x ≡ None → Sound l → Sound (entered m l x)
sound_entered m l x e s = record { funded = funded_entered m l x e s.funded; given = given_entered m l x e s.given; bounded = bounded_entered m l x e s.bounded }

pub sound_empty : Sound empty_ledger
sound_empty = record { funded = funded_empty; given = given_empty; bounded = bounded_empty }

pub sound_fed : (m : ScenarioTable) (es : List Event) (l : Ledger) → Ruled m l es → Sound l → Sound (fed m l es)
sound_fed m [] l r s = s
sound_fed m (e ∷ es) l (a, r) s = sound_fed m es (cond e.accepted (entered m l e.call) l) r (go e.accepted a)
  where
    go : (t : Bool) → t ≡ absent (cause m l e.call) → Sound (cond t (entered m l e.call) l)
    go true k = sound_entered m l e.call (no_cause (cause m l e.call) k) s
    go false k = s

pub sound_ledger : (m : ScenarioTable) (r : Run m) → Sound (ledger m r)
sound_ledger m r =
    sound_fed m r.after (opened_ledger m r) r.ruled (sound_entered m (fed m empty_ledger r.before) opening refl (sound_fed m r.before empty_ledger r.prepared sound_empty))
