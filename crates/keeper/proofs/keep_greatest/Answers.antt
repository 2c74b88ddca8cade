use Rattle.std.proofs.Common.{◌≡◌, ◌+◌, List, [], ◌∷◌, ◌++◌, take, sym, refl, ap, ◌∙◌, subst, arith, take_all, rules}
use Rattle.std.proofs.lemmas.List.{take_more}
use Rattle.keeper.specs.Kept.{Keeping}
use Rattle.keeper.proofs.Kept.{keeping_none, keeping_more, keeping_done}
use Rattle.keeper.proofs.Greatest.{keeping_greatest, keeping_only, keeping_any_order}
use Rattle.keeper.proofs.keep_greatest.Goals as goal

pub loop-x-init : goal.loop-x-init
loop-x-init g c =
    (rw c.new-keeper.ensures.none (keeping_none g.T.Ranked.before c.new-keeper.result.cells.now), refl)

pub loop-x-preserved : goal.loop-x-preserved
loop-x-preserved g c =
    let p = c.offer.ensures in
    let k = c.loop-x.keeper in
    let m = c.offer.new.self in
    let xs = c.args.offered.now in
    let i = c.loop-x.x-index in
    let x = c.x-item.result in
    let e : take (i + 1) xs ≡ take i xs ++ x ∷ [] = take_more xs i x c.loop-x-test.true ∙ ap (λ y. take i xs ++ y ∷ []) (sym c.x-item.is) in (
      subst (λ l. Keeping g.T.Ranked.before c.new-keeper.result.cells.now l m.filled m.cells.now) (sym e)
          (keeping_more g.T.Ranked.before c.new-keeper.result.cells.now (take i xs) x k.filled k.cells.now m.filled m.cells.now c.loop-x.invariant.0 p.count (cc p.held) p.rest p.size),
      p.lent ∙ c.loop-x.invariant.1,
    )

pub returns : goal.returns
returns g c =
    let b = g.T.Ranked.before in
    let o = g.met.T.Ranked.ranks in
    let a = g.met.T.Ranked.apart in
    let es = c.args.cells.now in
    let xs = c.args.offered.now in
    let all : take c.loop-x.x-index xs ≡ xs = take_all _ _ c.loop-x-test.false in
    let k : (zs : List g.row.T.Denot) → zs ≡ c.loop-x.keeper.cells.now → Keeping b es xs c.finish.result zs =
    λ zs e. keeping_done b c.new-keeper.result.cells.now (take c.loop-x.x-index xs) es xs c.loop-x.keeper.filled c.finish.result c.loop-x.keeper.cells.now zs
    c.loop-x.invariant.0 c.new-keeper.ensures.same all c.finish.ensures.count e in
    record {
      count = omega (arith, (k _ refl).count);
      held = (k _ (search rules)).held;
      rest = (k _ (search rules)).rest;
      greatest = keeping_greatest b o es xs c.finish.result _ (k _ (search rules));
      only = keeping_only b o a es xs c.finish.result _ (k _ (search rules));
      order = keeping_any_order b o a es xs c.finish.result _ (k _ (search rules));
    }
