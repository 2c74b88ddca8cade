-- Prices stay low, and figures that could be worked out. Assumes nothing.
use Rattle.std.proofs.Common.{◌≡◌, ℕ, ◌≤◌, Bool, true, false, replicate, ℤ, Some, None, Option, sym, refl, subst, inl, inr, arith}
use Rattle.std.proofs.lemmas.List.{get_or-replicate, get_or_past, length-replicate}
use Rattle.std.proofs.lemmas.Bool.{cases_lt}
use Rattle.figures.specs.Markets.{figure_if}
use Rattle.figures.specs.Priced.{priced}

abbrev Low : Option ℕ → Type 0
Low o = elim o [ Some p ↦ p | None ↦ 0 ] ≤ 100000

-- where every contract has the same price, or none
pub low_same : (n : ℕ) (o : Option ℕ) → Low o → (c : ℕ) → priced (replicate n o) c ≤ 100000
low_same n o h c =
    elim (cases_lt c n) [
      | inl l ↦ subst Low (sym (get_or-replicate n c o None l)) h
      | inr l ↦ subst Low (sym (get_or_past (replicate n o) c None (omega (arith, length-replicate n o)))) (omega arith)
    ]

-- a figure that was worked out could be, and is the one
pub figure_some : (b : Bool) (x v : ℤ) → Some x ≡ figure_if b v → (b ≡ true) × (x ≡ v)
figure_some true x v e = (refl, cc)
figure_some false x v e = let z : ◌≡◌ {A = ℕ} 0 1 = cc in absurd (omega arith)
