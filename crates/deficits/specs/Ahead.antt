-- The order of deficits: the larger amount first, and of equal amounts the lower client. Assumes nothing.
use Rattle.std.specs.Prelude.{Bool, true, false, cond, int_lt, nat_lt}
use Rattle.std.specs.Ordering.{int_cmp, nat_cmp, on, flip_args, then_cmp}
use Rattle.std.specs.declared.cmp.Ordering.{Ordering}
use Rattle.deficits.specs.declared.Deficit.{Deficit}

-- the same as `cmp` answers it: the one that goes first is the greater
abbrev pub by_amount : Deficit → Deficit → Ordering
by_amount = then_cmp (on (λ d. d.amount) int_cmp) (flip_args (on (λ d. d.client) nat_cmp))

abbrev pub ahead : Deficit → Deficit → Bool
ahead x y = cond (int_lt y.amount x.amount) true (cond (int_lt x.amount y.amount) false (nat_lt x.client y.client))
