-- A row more, and the table of a day that has no contract. Assumes nothing.
use Rattle.std.proofs.Common.{◌≡◌, ℕ, ◌<◌, Bool, true, false, not, ◌&&◌, ltb, List, [], ◌∷◌, ◌++◌, map, length, ℤ, pos, is_some, Some, None, Option, sym, refl, ap, ◌∙◌, arith}
use Rattle.std.proofs.lemmas.List.{map_push, length-map}
use Rattle.std.proofs.lemmas.Bool.{lt-ltb, false≢true}
use Rattle.scenario.specs.Table.{ScenarioTable}
use Rattle.rules.specs.Bounds.{most_traders, most_amount, most_defaults}
use Rattle.rules.specs.Ledger.{Ledger}
use Rattle.rules.specs.Causes.{trader, cause, within, absent}
use Rattle.rules.proofs.Rows.{skip}
use Rattle.entries.specs.Made.{made_if}

-- a table that knows no contract: where a call does not ask the table, any will do
abbrev pub no_contracts : ScenarioTable
no_contracts = record { subportfolios = 1; scenarios = λ k. 1; place = λ c. None; shock = λ c s. pos 0 }

-- a row more, by what it means
pub pushed : {X Y : Type 0} (f : X → Y) (xs ys : List X) (x : X) (y : Y) → ys ≡ xs ++ x ∷ [] → f x ≡ y → map f ys ≡ map f xs ++ y ∷ []
pushed f xs ys x y h q = ap (map f) h ∙ map_push f xs x ∙ ap (λ v. map f xs ++ v ∷ []) q

-- whether a table is full, by the number of its rows
pub not_full : {X Y : Type 0} (f : X → Y) (xs : List X) (n k : ℕ) → n ≡ length xs → n < k → not (ltb (length (map f xs)) k) ≡ false
not_full f xs n k e h = ap not (lt-ltb _ _ (omega (arith, length-map xs f)))

-- how many rows there are, by what they mean
pub counted : {X Y : Type 0} (f : X → Y) (xs : List X) (n : ℕ) → n ≡ length xs → n ≡ length (map f xs)
counted f xs n e = e ∙ sym (length-map xs f)

-- what is made where a test holds
pub made_some : {A : Type 0} (b : Bool) (x y : A) → Some x ≡ made_if b y → (b ≡ true) × (x ≡ y)
made_some true x y e = (refl, cc)
made_some false x y e = let z : ◌≡◌ {A = ℕ} 0 1 = cc in absurd (omega arith)

-- whether there is a price
pub unpriced : {A : Type 0} (o p : Option A) → o ≡ p → is_some o ≡ false → absent p ≡ true
unpriced {A} o p e h = go p (ap is_some (sym e) ∙ h)
  where
    go : (p : Option A) → is_some p ≡ false → absent p ≡ true
    go None q = refl
    go (Some x) q = absurd (false≢true (sym q))

pub priced : {A : Type 0} (o p : Option A) → o ≡ p → is_some o ≡ true → absent p ≡ false
priced {A} o p e h = go p (ap is_some (sym e) ∙ h)
  where
    go : (p : Option A) → is_some p ≡ true → absent p ≡ false
    go None q = absurd (false≢true q)
    go (Some x) q = refl

-- ---- a trader

module _ (m : ScenarioTable) (l : Ledger) (a n : ℤ) (room : not (ltb (length l.traders) most_traders) ≡ false) where
  pub trader_free : (within (pos 0) (pos most_amount) a && within (pos 1) (pos most_defaults) n) ≡ true → cause m l (trader a n) ≡ None
  trader_free e = skip _ 11 _ _ room (skip _ 12 _ _ (ap not e) refl)
