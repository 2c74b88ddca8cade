-- An array made by a closure that stays as it is.
use Rattle.std.proofs.Common.{◌≡◌, ℕ, zero, suc, ◌+◌, ◌<◌, ◌≤◌, List, get_or, refl, sym, subst, ⊎_elim, arith}
use Rattle.std.proofs.lemmas.Bool.{cases_eq}
use denote.Param.Members.{Mut}
use Rattle.std.specs.Fn.{Called}
use Rattle.std.specs.Array.{IsFromFnResultFrom, IsFromFnResult}

module _ {F B : Type 0} (g : Mut F (ℕ × Unit {0}) B) (f : F) (P : ℕ → B → Type 0) where
  made_from : (n i : ℕ) (ys : List B) (x : F) → x ≡ f → ((k : ℕ) (y : B) (q : F) → k < i + n → Called g f (k, tt) y q → (q ≡ f) × P k y) → IsFromFnResultFrom g x ys i n → (k : ℕ) (e : B) → i ≤ k → k < i + n → P k (get_or ys k e)
  made_from zero i ys x p calls r k e l m = absurd (omega arith)
  made_from (suc n) i ys x p calls r k e l m =
      let c = calls i r.1 r.0 (omega arith) (subst (λ (z : F). Called g z (i, tt) r.1 r.0) p r.3) in
      ⊎_elim
      (λ (q : k ≡ i). subst (λ (z : ℕ). P z (get_or ys z e)) (sym q) (subst (P i) (sym (r.2.1 e)) c.1))
      (λ (ne : k ≡ i → ⊥). made_from n (i + 1) ys r.0 c.0 (λ z y q s. calls z y q (omega arith)) r.4 k e (omega (arith, ne)) (omega arith))
      (cases_eq k i)

  -- what holds of each answer holds at each place
  pub made_each : (n : ℕ) (ys : List B) → IsFromFnResult g f ys n → ((k : ℕ) (y : B) (q : F) → k < n → Called g f (k, tt) y q → (q ≡ f) × P k y) → (k : ℕ) (e : B) → k < n → P k (get_or ys k e)
  made_each n ys r calls k e l = made_from n 0 ys f refl (λ z y q s. calls z y q (omega arith)) r.each k e (omega arith) (omega arith)

-- each place has the function of the place that the closure answers
pub made_at : {F B : Type 0} (g : Mut F (ℕ × Unit {0}) B) (f : F) (h : ℕ → B) (n : ℕ) (ys : List B) → IsFromFnResult g f ys n → ((k : ℕ) (y : B) (q : F) → k < n → Called g f (k, tt) y q → (q ≡ f) × (y ≡ h k)) → (k : ℕ) (e : B) → k < n → get_or ys k e ≡ h k
made_at g f h n ys r calls = made_each g f (λ k y. y ≡ h k) n ys r calls
