use Rattle.std.proofs.Common.{◌≡◌, ℕ, ◌+◌, ◌-◌, ◌<◌, ◌≤◌, ◌⊎◌, List, [], length, get_or, Some, None, Option, MatchOption, Bor, unwrap_or, take, drop, length-drop, refl, sym, ap, ◌∙◌, arith, rules}
use Rattle.std.specs.List.{slice_range}
use Rattle.std.proofs.lemmas.List.{get_or_past, get_or-drop, take_all}
use Rattle.layout.proofs.FromFn.{made_at}
use Rattle.layout.proofs.bytes.bytes_at.Goals as goal

-- what is left of a file from a place on, or nothing past the end
rest_is : (file : List ℕ) (at : ℕ) (o : Option (Bor (List ℕ))) (rest empty : Bor (List ℕ)) → MatchOption o ((length file < at) ⊎ (length file < length file)) (λ x. (at ≤ length file) × (length file ≤ length file) × (x.now ≡ slice_range file at (length file)) × (length x.now + at ≡ length file)) → rest ≡ unwrap_or o empty → empty.now ≡ [] → (k : ℕ) → get_or rest.now k 0 ≡ get_or file (at + k) 0
rest_is file at (Some x) rest empty m e z k =
    let whole : take (length file - at) (drop at file) ≡ drop at file = take_all _ _ (omega (arith, length-drop at file)) in
    ap (λ (y : Bor (List ℕ)). get_or y.now k 0) e ∙ ap (λ (xs : List ℕ). get_or xs k 0) (m.2 ∙ whole) ∙ get_or-drop at file k 0
rest_is file at None rest empty m e z k =
    ap (λ (y : Bor (List ℕ)). get_or y.now k 0) e ∙ ap (λ (xs : List ℕ). get_or xs k 0) z ∙ sym (get_or_past file (at + k) 0 (omega arith))

pub returns : goal.returns
returns g c = λ k l.
    made_at _ _ (λ k. get_or c.unwrap_or-rest.result.now k 0) g.row.N c.from_fn.result c.from_fn.ensures.items (λ k y q s m. search rules) k 0 l
    ∙ rest_is _ _ c.get.result c.unwrap_or-rest.result _ c.get.ensures.lookup.0 c.unwrap_or-rest.ensures refl k
