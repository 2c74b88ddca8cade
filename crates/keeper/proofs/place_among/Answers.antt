use Rattle.std.proofs.Common.{rules, ◌≡◌, true, false, refl, ◌∙◌, sym, not, arith}
use Rattle.std.specs.List.{position_or_len}
use borrow.Author.Tests.{tests}
use Rattle.std.proofs.lemmas.Iterator.{IsFirst-from_position, index_from_first, YieldsList-from_slice}
use Rattle.std.proofs.lemmas.List.Sums.{prefix_len-le-length}
use Rattle.keeper.proofs.place_among.Goals as goal

pub returns : goal.returns
returns g c =
    let b = g.T.Ranked.before c.args.x in
    let first = IsFirst-from_position _ _ c.position.result (λ y. b y ≡ true) (λ y. b y ≡ false) c.position.ensures.ran (YieldsList-from_slice c.args.held.now cc) (λ y q k. search (rules, tests)) (λ y q k. search (rules, tests)) in
    let place : c.unwrap_or.result ≡ position_or_len b c.args.held.now =
    c.unwrap_or.ensures ∙ sym (index_from_first (position_or_len b) (λ y. b y ≡ true) (λ y. b y ≡ false) refl (λ y ys e. simp e) (λ y ys e. simp e (omega arith)) c.args.held.now c.position.result first) in
    record { place = place; within = omega (arith, place, prefix_len-le-length (λ y. not (b y)) c.args.held.now) }
