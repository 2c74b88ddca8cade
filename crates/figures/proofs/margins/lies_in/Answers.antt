use Rattle.std.proofs.Common.{◌≡◌, ℕ, false, eqb, Some, None, Option, MatchOption, Bool, ap, ◌∙◌, rules}
use Rattle.figures.proofs.margins.lies_in.Goals as goal

asked : (o : Option (ℕ × ℕ)) (k : ℕ) (b : Bool) (P : ℕ × ℕ → Type 0) → ((x : ℕ × ℕ) → P x → b ≡ eqb x.0 k) → MatchOption o (b ≡ false) P → b ≡ elim o [ Some p ↦ eqb p.0 k | None ↦ false ]
asked (Some x) k b P f h = f x h
asked None k b P f h = h

pub returns : goal.returns
returns g c =
    asked c.place.result c.args.k c.is_some_and.result _ (λ x h. search rules) c.is_some_and.ensures
    ∙ ap (λ (o : Option (ℕ × ℕ)). elim o [ Some p ↦ eqb p.0 c.args.k | None ↦ false ]) c.place.ensures
