-- What is read out of an option. Assumes nothing.
use Rattle.std.proofs.Common.{◌≡◌, Some, Option, subst, MatchOption}

-- what an option told, at the value that it holds
pub read_at : {X : Type 0} (N : Type 0) (P : X → Type 0) (o : Option X) (x : X) → MatchOption o N P → o ≡ Some x → P x
read_at N P o x h q = subst (λ v. MatchOption v N P) q h
