-- The end of a day: every slip that still stands is put back, which is never refused. Assumes nothing.
use Rattle.std.proofs.Common.{◌≡◌, Bool, true, false, cond, List, [], ◌∷◌, ◌++◌, None, sym, refl, ap, ◌∙◌, subst}
use Rattle.scenario.specs.Table.{ScenarioTable, Lawful}
use Rattle.rules.specs.Ledger.{Ledger, Slip, empty_ledger, is_standing, struck}
use Rattle.rules.specs.Causes.{Call, trader, client, carry, price, deposit, opening, put_back, cause, entered, absent, with_slips}
use Rattle.rules.specs.Runs.{Event, Before, After, AllCalls, Ruled, Run, fed, ledger_at_opening, ledger_after}
use Rattle.rules.proofs.Funds.{slips_moved}
use Rattle.rules.proofs.Law.{law_throughout}
use Rattle.rules.proofs.Runs.{fed_append, ruled_append, calls_append}
use Rattle.rules.proofs.Slips.{slip_itself}
use Rattle.rules.proofs.Slips as slips
use Rattle.desk.specs.Told.{Step}
use Rattle.desk.specs.Talks.{Moment, preparing, trading, calls_before, calls_after, Finished}
use Rattle.desk.specs.Going.{Prepared, Unopened, Traded}
use Rattle.desk.specs.Served.{given_back, Served}
use Rattle.desk.proofs.Ruled.{RuledAt, talk_ruled}

-- the first slip stands, and is the one that is struck
pub first_stands : (s : Slip) (ss : List Slip) → is_standing s (s ∷ ss) ≡ true
first_stands s ss = rw (slip_itself s)

pub first_struck : (s : Slip) (ss : List Slip) → struck s (s ∷ ss) ≡ ss
first_struck s ss = rw (slip_itself s)

module _ (m : ScenarioTable) where
  -- the first slip is put back
  pub put_back_first : (l : Ledger) (s : Slip) (ss : List Slip) → l.slips ≡ s ∷ ss → cause m l (put_back s) ≡ None
  put_back_first l s ss e = slips.given_back m l s (ap (is_standing s) e ∙ first_stands s ss)

  -- and the others stay
  pub slips_left : (l : Ledger) (s : Slip) (ss : List Slip) → l.slips ≡ s ∷ ss → (entered m l (put_back s)).slips ≡ ss
  slips_left l s ss e = slips_moved (with_slips l (struck s l.slips) l.made) s.holder s.amount ∙ ap (struck s) e ∙ first_struck s ss

  pub back_ruled : (ss : List Slip) (l : Ledger) → l.slips ≡ ss → Ruled m l (given_back ss)
  back_ruled [] l e = tt
  back_ruled (s ∷ ss) l e = (sym (ap absent (put_back_first l s ss e)), back_ruled ss (entered m l (put_back s)) (slips_left l s ss e))

  back_none : (ss : List Slip) (l : Ledger) → l.slips ≡ ss → (fed m l (given_back ss)).slips ≡ []
  back_none [] l e = e
  back_none (s ∷ ss) l e = back_none ss (entered m l (put_back s)) (slips_left l s ss e)

pub back_after : (ss : List Slip) → AllCalls After (given_back ss)
back_after [] = tt
back_after (s ∷ ss) = (tt, back_after ss)

-- a preparation hands out no slip
before_slips : (m : ScenarioTable) (l : Ledger) (x : Call) → Before x → (entered m l x).slips ≡ l.slips
before_slips m l (trader a n) p = refl
before_slips m l (client t) p = refl
before_slips m l (carry c k side q x) p = refl
before_slips m l (price k x) p = refl
before_slips m l (deposit h a) p = slips_moved l h a
before_slips m l x p = absurd p

none_before : (m : ScenarioTable) (l : Ledger) (es : List Event) → l.slips ≡ [] → AllCalls Before es → (fed m l es).slips ≡ []
none_before m l [] e p = e
none_before m l (x ∷ es) e p = none_before m (cond x.accepted (entered m l x.call) l) es (go x.accepted) p.1
  where
    go : (t : Bool) → (cond t (entered m l x.call) l).slips ≡ []
    go true = before_slips m l x.call p.0 ∙ e
    go false = e

-- the run of a day that went so far, and then put its slips back
abbrev pub day_run : {m : ScenarioTable} (w : Moment) → RuledAt m w → Run m
day_run {m = m} (preparing es) h =
    let l = ledger_at_opening m es in
    record { before = es; after = given_back l.slips; prepares = h.0; trades = back_after l.slips; prepared = h.1; ruled = back_ruled m l.slips l refl }
day_run {m = m} (trading es fs) h =
    let l = ledger_after m es fs in
    record {
      before = es;
      after = fs ++ given_back l.slips;
      prepares = h.0.0;
      trades = calls_append After fs (given_back l.slips) h.1.0 (back_after l.slips);
      prepared = h.0.1;
      ruled = ruled_append m (ledger_at_opening m es) fs (given_back l.slips) h.1.1 (back_ruled m l.slips l refl);
    }

-- a whole day, of what was asked and told and of the ledger that is left
pub day_served : {D : Type 0} {past : D → D → List Step → Type 0} {m : ScenarioTable} {bs : List Slip} {first last : D} → Lawful m → (w : Moment) → Finished past m bs first last w → (l l' : Ledger) → l ≡ ledger_after m (calls_before w) (calls_after w) → l' ≡ fed m l (given_back l.slips) → Served past m bs first last l'
day_served {m = m} lawful (preparing es) t l l' e q =
    let k = ledger_at_opening m es in
    let here : l' ≡ fed m k (given_back k.slips) = subst (λ (v : Ledger). l' ≡ fed m v (given_back v.slips)) e q in
    let r = day_run (preparing es) (talk_ruled t.talk) in
    record {
      moment = preparing es;
      talk = t;
      run = r;
      before = refl;
      after = refl;
      ends = here;
      none_stand = ap (λ (v : Ledger). v.slips) here ∙ back_none m k.slips k refl;
      law = law_throughout m lawful r;
    }
day_served {m = m} lawful (trading es fs) t l l' e q =
    let k = ledger_after m es fs in
    let here : l' ≡ fed m k (given_back k.slips) = subst (λ (v : Ledger). l' ≡ fed m v (given_back v.slips)) e q in
    let r = day_run (trading es fs) (talk_ruled t.talk) in
    record {
      moment = trading es fs;
      talk = t;
      run = r;
      before = refl;
      after = refl;
      ends = here ∙ sym (fed_append m (ledger_at_opening m es) fs (given_back k.slips));
      none_stand = ap (λ (v : Ledger). v.slips) here ∙ back_none m k.slips k refl;
      law = law_throughout m lawful r;
    }

-- ---- a day, by how its loops end

module _ {D : Type 0} {past : D → D → List Step → Type 0} {m : ScenarioTable} {bs : List Slip} {first last : D} where
  pub served_traded : Lawful m → (es : List Event) (l l' : Ledger) → Traded past m bs first last es l → l' ≡ fed m l (given_back l.slips) → Served past m bs first last l'
  served_traded lawful es l l' t q = day_served lawful (trading es t.calls) t.finished l l' t.ledger q

  pub served_unopened : Lawful m → (l l' l'' : Ledger) → Unopened past m bs first last l → l' ≡ entered m l opening → l'' ≡ fed m l' (given_back l'.slips) → Served past m bs first last l''
  served_unopened lawful l l' l'' u e q = day_served lawful (preparing u.calls) u.finished l' l'' (e ∙ ap (λ (v : Ledger). entered m v opening) u.ledger) q

-- no slip stands before the opening
pub none_prepared : {D : Type 0} (past : D → D → List Step → Type 0) (m : ScenarioTable) (bs : List Slip) (first now : D) (l : Ledger) (b : Bool) → Prepared past m bs first now l b → l.slips ≡ []
none_prepared past m bs first now l true p = ap (λ (v : Ledger). v.slips) p.ledger ∙ none_before m empty_ledger p.calls refl (talk_ruled p.talked.talk).0.0
none_prepared past m bs first now l false p = ap (λ (v : Ledger). v.slips) p.ledger ∙ none_before m empty_ledger p.calls refl (talk_ruled p.finished.talk).0
