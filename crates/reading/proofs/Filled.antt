-- What a source gave is put behind what it gave before. Assumes nothing.
use Rattle.std.proofs.Common.{◌≡◌, ℕ, ◌+◌, List, ◌++◌, take, drop, Option, sym, ap, subst, ◌∙◌}
use Rattle.std.proofs.Math.Seq.{take-add}
use Rattle.std.proofs.KnownBytes.{Consumes-trans}
use Rattle.std.specs.Io.KnownBytes.{Consumes}

pub filled : (a b c : Option (List ℕ)) (old new : List ℕ) (u n : ℕ) → take u new ≡ take u old → Consumes a b (take u old) → Consumes b c (take n (drop u new)) → Consumes a c (take (u + n) new)
filled a b c old new u n front first next = subst (Consumes a c) (ap (λ (t : List ℕ). t ++ take n (drop u new)) (sym front) ∙ sym (take-add u n new)) (Consumes-trans a b c _ _ first next)
