-- A talk grows by one order and its answer at a time. Assumes nothing.
use Rattle.std.proofs.Common.{◌≡◌, ℕ, ◌+◌, ◌≤◌, List, [], ◌∷◌, ◌++◌, length, Some, None, Option, sym, refl, ap, ◌∙◌, subst, arith}
use Rattle.std.proofs.lemmas.List.{append_assoc, append-nil, length-append}
use Rattle.scenario.specs.Table.{ScenarioTable}
use Rattle.orders.specs.declared.Order.{Order}
use Rattle.orders.specs.declared.Order.TheVariants as orders
use Rattle.rules.specs.Ledger.{Ledger, Slip, empty_ledger}
use Rattle.rules.specs.Causes.{Call, opening, entered}
use Rattle.rules.specs.Answers.{Answer, Answered}
use Rattle.rules.specs.Runs.{Event, fed, ledger_at_opening, ledger_after}
use Rattle.rules.proofs.Answered.{left}
use Rattle.rules.proofs.Runs.{fed_append}
use Rattle.desk.specs.Told.{Told, done, astray, Step, asked, told}
use Rattle.desk.specs.Meant.{Meaning, makes, opens, no_call, prepares, trades, shown}
use Rattle.desk.specs.Turns.{Turned}
use Rattle.desk.specs.Talks.{Moment, begun, prepared, opened, traded, early, late, event, turn, Talked, Finished, no_more, worn_out}
use Rattle.desk.specs.Going.{Preparing, Opened, Unopened, Trading, Traded}

-- a ledger after one call more
pub fed_more : (m : ScenarioTable) (l : Ledger) (es : List Event) (x : Call) (a : Answer) (l' : Ledger) → Answered m (fed m l es) x a l' → l' ≡ fed m l (es ++ event x a ∷ [])
fed_more m l es x a l' r = left m (fed m l es) x a l' r ∙ sym (fed_append m l es (event x a ∷ []))

-- what is heard of an order and its answer
module _ {D : Type 0} (past : D → D → List Step → Type 0) where
  -- one desk became another by some steps
  abbrev pub Heard : D → D → List Step → Type 0
  Heard a b ss = (d : D) (h : List Step) → past d a h → past d b (h ++ ss)

  pub heard_more : (a b c : D) (ss us : List Step) → Heard a b ss → Heard b c us → Heard a c (ss ++ us)
  heard_more a b c ss us p q d h u = subst (past d c) (append_assoc h ss us) (q d (h ++ ss) (p d h u))

  pub heard_turn : (m : ScenarioTable) (a b c : D) (o : Order) (t : Told) → Heard a b (asked m (Some o) ∷ []) → Heard b c (told t ∷ []) → Heard a c (turn m o t)
  heard_turn m a b c o t p q = heard_more a b c (asked m (Some o) ∷ []) (told t ∷ []) p q

  -- by which model the desk was asked
  pub heard_by : (m m' : ScenarioTable) (a b : D) (o : Option Order) → m ≡ m' → Heard a b (asked m o ∷ []) → Heard a b (asked m' o ∷ [])
  heard_by m m' a b o e p = subst (λ (v : ScenarioTable). Heard a b (asked v o ∷ [])) e p

  pub heard_none : (a : D) → Heard a a []
  heard_none a d h u = subst (past d a) (sym (append-nil h)) u

module _ {D : Type 0} {past : D → D → List Step → Type 0} {m : ScenarioTable} {bs : List Slip} {first a : D} where
  -- an order of the preparation more
  pub prepare_turn : {l : Ledger} {n : ℕ} (g : Preparing past m bs first a l n) (o : Order) (t : Told) (b c : D) (l' : Ledger) → Turned m (prepares o) t l l' → Heard past a b (asked m (Some o) ∷ []) → Heard past b c (told t ∷ []) → Preparing past m bs first c l' (n + 1)
  prepare_turn {l = l} {n = n} g o t b c l' r p q = go (prepares o) refl r
    where
      heard : Heard past first c (g.talked.steps ++ turn m o t)
      heard = heard_more past first a c g.talked.steps (turn m o t) g.talked.heard (heard_turn past m a b c o t p q)

      longer : (v : Told) → n + 1 ≤ length (g.talked.steps ++ turn m o v)
      longer v = omega (arith, g.long, length-append g.talked.steps (turn m o v))

      go : (k : Meaning) → prepares o ≡ k → Turned m k t l l' → Preparing past m bs first c l' (n + 1)
      go (makes x) e r =
          let here : Answered m (fed m empty_ledger g.calls) x r.answer l' = subst (λ (v : Ledger). Answered m v x r.answer l') g.ledger r.rules in
          record {
            calls = g.calls ++ event x r.answer ∷ [];
            talked = record { steps = g.talked.steps ++ turn m o (shown x r.answer); talk = prepared o x r.answer g.talked.talk e here.ruled; heard = subst (λ (v : Told). Heard past first c (g.talked.steps ++ turn m o v)) r.shows heard };
            ledger = fed_more m empty_ledger g.calls x r.answer l' here;
            long = longer (shown x r.answer);
          }
      go opens e r = absurd r
      go (no_call why) e r = record {
        calls = g.calls;
        talked = record { steps = g.talked.steps ++ turn m o (astray why); talk = early o why g.talked.talk e; heard = subst (λ (v : Told). Heard past first c (g.talked.steps ++ turn m o v)) r.0 heard };
        ledger = r.1 ∙ g.ledger;
        long = longer (astray why);
      }

  -- the order that opens the session
  pub open_turn : {l : Ledger} {n : ℕ} (g : Preparing past m bs first a l n) (o : Order) (b c : D) (l' : Ledger) → o ≡ orders.Open → l' ≡ l → Heard past a b (asked m (Some o) ∷ []) → Heard past b c (told done ∷ []) → Opened past m bs first c l'
  open_turn g o b c l' e same p q = record {
    calls = g.calls;
    talked = record {
      steps = g.talked.steps ++ turn m orders.Open done;
      talk = opened g.talked.talk;
      heard = subst (λ (v : Order). Heard past first c (g.talked.steps ++ turn m v done)) e (heard_more past first a c g.talked.steps (turn m o done) g.talked.heard (heard_turn past m a b c o done p q));
    };
    ledger = same ∙ g.ledger;
  }

  -- an order of the session more
  pub trade_turn : {es : List Event} {l : Ledger} {n : ℕ} (g : Trading past m bs first a es l n) (o : Order) (t : Told) (b c : D) (l' : Ledger) → Turned m (trades bs l o) t l l' → Heard past a b (asked m (Some o) ∷ []) → Heard past b c (told t ∷ []) → Trading past m bs first c es l' (n + 1)
  trade_turn {es = es} {l = l} {n = n} g o t b c l' r p q = go (trades bs l o) refl r
    where
      heard : Heard past first c (g.talked.steps ++ turn m o t)
      heard = heard_more past first a c g.talked.steps (turn m o t) g.talked.heard (heard_turn past m a b c o t p q)

      longer : (v : Told) → n + 1 ≤ length (g.talked.steps ++ turn m o v)
      longer v = omega (arith, g.long, length-append g.talked.steps (turn m o v))

      meant : (k : Meaning) → trades bs l o ≡ k → trades bs (ledger_after m es g.calls) o ≡ k
      meant k e = ap (λ (v : Ledger). trades bs v o) (sym g.ledger) ∙ e

      go : (k : Meaning) → trades bs l o ≡ k → Turned m k t l l' → Trading past m bs first c es l' (n + 1)
      go (makes x) e r =
          let here : Answered m (ledger_after m es g.calls) x r.answer l' = subst (λ (v : Ledger). Answered m v x r.answer l') g.ledger r.rules in
          record {
            calls = g.calls ++ event x r.answer ∷ [];
            talked = record { steps = g.talked.steps ++ turn m o (shown x r.answer); talk = traded o x r.answer g.talked.talk (meant (makes x) e) here.ruled; heard = subst (λ (v : Told). Heard past first c (g.talked.steps ++ turn m o v)) r.shows heard };
            ledger = fed_more m (ledger_at_opening m es) g.calls x r.answer l' here;
            long = longer (shown x r.answer);
          }
      go opens e r = absurd r
      go (no_call why) e r = record {
        calls = g.calls;
        talked = record { steps = g.talked.steps ++ turn m o (astray why); talk = late o why g.talked.talk (meant (no_call why) e); heard = subst (λ (v : Told). Heard past first c (g.talked.steps ++ turn m o v)) r.0 heard };
        ledger = r.1 ∙ g.ledger;
        long = longer (astray why);
      }

  -- the desk has no more orders
  finish : {w : Moment} (b : D) → Talked past m bs first a w → Heard past a b (asked m None ∷ []) → Finished past m bs first b w
  finish b t p = record { steps = t.steps; end = asked m None ∷ []; talk = t.talk; lasts = no_more; heard = heard_more past first a b t.steps (asked m None ∷ []) t.heard p }

  -- or has given more than can be counted
  wear_out : {w : Moment} (t : Talked past m bs first a w) → 18446744073709551615 ≤ length t.steps → Finished past m bs first a w
  wear_out t h = record { steps = t.steps; end = []; talk = t.talk; lasts = worn_out h; heard = heard_more past first a a t.steps [] t.heard (heard_none past a) }

  pub never_opened : {l : Ledger} {n : ℕ} (g : Preparing past m bs first a l n) (b : D) → Heard past a b (asked m None ∷ []) → Unopened past m bs first b l
  never_opened g b p = record { calls = g.calls; finished = finish b g.talked p; ledger = g.ledger }

  pub opened_too_late : {l : Ledger} {n : ℕ} (g : Preparing past m bs first a l n) → 18446744073709551615 ≤ n → Unopened past m bs first a l
  opened_too_late g h = record { calls = g.calls; finished = wear_out g.talked (omega (arith, g.long, h)); ledger = g.ledger }

  pub trade_no_more : {es : List Event} {l : Ledger} {n : ℕ} (g : Trading past m bs first a es l n) (b : D) → Heard past a b (asked m None ∷ []) → Traded past m bs first b es l
  trade_no_more g b p = record { calls = g.calls; finished = finish b g.talked p; ledger = g.ledger }

  pub trade_worn_out : {es : List Event} {l : Ledger} {n : ℕ} (g : Trading past m bs first a es l n) → 18446744073709551615 ≤ n → Traded past m bs first a es l
  trade_worn_out g h = record { calls = g.calls; finished = wear_out g.talked (omega (arith, g.long, h)); ledger = g.ledger }

  -- a day begins
  pub prepare_begun : (l : Ledger) → l ≡ empty_ledger → a ≡ first → Preparing past m bs first a l 0
  prepare_begun l e f = record {
    calls = [];
    talked = record { steps = []; talk = begun; heard = subst (λ (x : D). Heard past first x []) (sym f) (heard_none past first) };
    ledger = e;
    long = omega arith;
  }

  pub trade_begun : {l : Ledger} (o : Opened past m bs first a l) (l' : Ledger) → l' ≡ entered m l opening → Trading past m bs first a o.calls l' 0
  trade_begun o l' e = record { calls = []; talked = o.talked; ledger = e ∙ ap (λ (v : Ledger). entered m v opening) o.ledger; long = omega arith }
