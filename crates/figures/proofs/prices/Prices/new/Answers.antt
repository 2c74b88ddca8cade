use Rattle.std.proofs.Common.{refl, arith}
use Rattle.figures.proofs.Pricing.{low_same}
use Rattle.figures.proofs.prices.Prices.new.Goals as goal

pub invariant_of-result : goal.invariant_of-result
invariant_of-result c = record { long = refl; low = low_same 256 _ (omega arith) }
