-- `front_mut` lends the first elements of the array as a slice. The borrow checker shows no
-- write-back clause for a part of a `[T; N]`, so this proof walks the code by hand.
use mathlib.Core.Path.{◌≡◌, refl, sym, ap, ◌∙◌}
use Prim.Native.Nat.{ℕ, ◌*◌, ◌^◌, ◌<◌, ◌≤◌}
use native.Mathlib.Nat.{mul-le-mul_right}
use native.Mathlib.Omega.{arith}
use mathlib.Core.List.{List, [], ◌∷◌, ◌++◌}
use seplogic.Ra.Ura.{Ura}
use mir.Syntax.{Fn, named, w64}
use mir.MapTy.{inst_fn}
use mir.Val.{Val, vptr, vint}
use base.Logic.{SProp, ent, sep, ex}
use base.Fml.{Fml, Lft, GName, Share, ftrue, flft}
use prog.Memory.{Memory, size}
use prog.Routine.{Routine}
use prog.Wp.{Calls, Loops, WpFn, Tables}
use types.Logic.{Logic, sem}
use types.Mut.{open_ref}
use contract.BorrowLft.{◌⊑◌}
use contract.Lifetimes.{AllOutlive}
use contract.Monad.{Fun}
use contract.Running.{tables, tables_of}
use sound.WpLaws.{WpFn-mono}
use types.Kit.{Item, ‵, ◌⊛◌, raw, given, some, later, ◌$◌, ◌∵◌, !, qed, by, move, keep, drop, split, split3, join, learn, fsplit, fsplit3, fjoin, use1, use2, await, pick, suffices, frame, done, updating, group, now, show, rewrite}
use denote.Array.{Array}
use denote.Builtin.{RefMutOf, usize}
use denote.Exit.{yes, no}
use denote.Follow.{follows}
use denote.Memory.{mem}
use denote.Param.{number, layout}
use denote.Param.Laws.{Laws}
use denote.Plain.{uint_vals, uint_Tells}
use denote.RattleType.{RattleType, owns}
use denote.Ref.{MutBor, MutRef, mut_vals, mut_Tells}
use denote.Signature.{plain}
use denote.Steps.{nothing}
use denote.Triple.Clauses.{Clauses, Ended, closing}
use denote.Triple.Entry.{on_entry}
use denote.Triple.Spec.{Meets, triple_of}
use denote.Triple.Table.{entered}
use denote.Triple.Walked.{says, Stays, stay_dropped, walk_of, ends_at, walked, Goes-dropped, Goes-spent_ref, walk_Meets}
use lib.ListN.{length, take, drop as drop_list, take-append-drop, length-drop, length-append}
use lib.Seq.{take_all}
use types.SemTy.{cells}
use types.Part.{agg}
use types.Run.{stop, fld, addr, and_then, no_more, returns, enter}
use types.ByLocal.{alloc_all, pass_all, free_all, look_at, get, through, sets}
use denote.FollowSlice.{lends_Elements}
use denote.Slice.{MutSlice, Room, slice_val}
use borrow.Table.Elements.{at, cut_app, join_app, length-take-le}
use Rattle.std.specs.List.{refill}
use Rattle.cells.proofs.CellsMemory.{args, R, S, start, Left, elements_out, elements_in}
use Rattle.cells.specs.contracts.cells.Cells.front_mut as F
use Rattle.cells.specs.contracts.cells.Cells.front_mut.Key.{name as #self}
use Rattle.cells.proofs.cells.Cells.front_mut.Statement as stated
use Rattle.cells.proofs.cells.Cells.front_mut.Code as code

-- as many elements as were lent, before the rest, are the refilled array
refill_front : {X : Type 0} (m : ℕ) (xs ws : List X) → m ≤ length xs → length ws ≡ m
    → ws ++ drop_list m xs ≡ refill (length xs) xs ws
refill_front m xs ws le e =
    let both = length-append ws (drop_list m xs) in
    let rest = length-drop m xs in
    sym (take_all (length xs) (ws ++ drop_list m xs) (omega arith))
    ∙ ap (λ k. take (length xs) (ws ++ drop_list k xs)) (sym e)

module _ (X : RattleType) (n : ℕ) where
  abbrev function : Fn
  function = inst_fn (args X n) code.function

  abbrev ended : Ended
  ended = F.ended X (number n)

  abbrev stayed : Stays ended.signature.params ended.kept
  stayed = (
    stay_dropped (RefMutOf (0 ∷ []) tt (plain (λ _. S X n)) (λ _. tt)) no,
    (stay_dropped (plain (λ _. usize)) yes, tt),
  )

module _ (X : RattleType) (n : ℕ) (L : Laws X) {M : Type 1} {𝓤 : Ura M} (𝓛 : Logic 𝓤) where
  open 𝓛 use {H, A}

  module _ (κ : Lft) (q : Share) (b o : ℕ) (γ : GName) (d : (S X n).Denot) (m : ℕ) where
    abbrev p : ℕ
    p = start X n o

    abbrev front : List X.Denot
    front = take m d.at

    abbrev back : List X.Denot
    back = drop_list m d.at

    abbrev after : List X.Denot → (S X n).Denot
    after ws = record { at = refill (length d.at) d.at ws }

    abbrev elements : List X.Denot → ℕ → Fml
    elements ws = cells (mem (R X n)) ws b

    abbrev past : ℕ → ℕ
    past = at p (mem (R X n)).size

    abbrev Rest : SProp 𝓤
    Rest = sep 𝓤 (sem 𝓛 (elements back (past (length front)))) (Left X n 𝓛 b o)

    put : m ≤ n → length d.at ≡ n → (ws : List X.Denot) → length ws ≡ length front
        → ent 𝓤 (sep 𝓤 (sem 𝓛 (elements ws p)) Rest) (sem 𝓛 ((mem (S X n)).own_at (after ws) b o))
    put within long ws e =
        let count : length front ≡ m = length-take-le m d.at (omega arith) in
        let both = length-append ws back in
        let rest = length-drop m d.at in
        let same : ws ++ back ≡ (after ws).at = refill_front m d.at ws (omega arith) (e ∙ count) in
        let all = ap length same in
        qed 𝓛 (‵ (elements ws p) ∷ ‵ (elements back (past (length front))) ∷ raw (Left X n 𝓛 b o) ∷ []) ∵
        rewrite ! 1 (λ (k : ℕ). ‵ (elements back (past k))) (sym e) refl $
        use2 𝓛 (‵ (elements (ws ++ back) p)) (join_app 𝓛 (mem (R X n)) ws back b p) $
        rewrite ! 0 (λ (l : List X.Denot). ‵ (elements l p)) same refl $
        by ! (elements_in X n 𝓛 b o (after ws) (omega arith))

    abbrev Lent : ℕ → GName → SProp 𝓤
    Lent k δ = sep 𝓤 (sem 𝓛 ((MutSlice (named 0) κ (R X n)).own_val (record { ref_ptr = (b, p); ghost_name = δ; now = front }) (slice_val (b, p) k ∷ []))) (sep 𝓤 (A.lft κ q) (sem 𝓛 (follows (S X n) (Array (R X n) 0) γ δ after)))

    abbrev lent : ℕ → GName → Item 𝓤
    lent k δ = ‵ ((MutSlice (named 0) κ (R X n)).own_val (record { ref_ptr = (b, p); ghost_name = δ; now = front }) (slice_val (b, p) k ∷ [])) ⊛ ‵ (flft κ q) ⊛ ‵ (follows (S X n) (Array (R X n) 0) γ δ after)

    lends : m ≤ n → m < 2 ^ 64 → n * size (layout X) < 2 ^ 63 → (vs : List Val)
        → ent 𝓤 (sep 𝓤 (sem 𝓛 ((MutRef (named 0) κ (S X n)).own_val (record { ref_ptr = (b, o); ghost_name = γ; now = d }) vs)) (A.lft κ q)) (H.⇛ (ex 𝓤 (Lent m)))
    lends within fm small vs =
        qed 𝓛 (‵ ((MutRef (named 0) κ (S X n)).own_val (record { ref_ptr = (b, o); ghost_name = γ; now = d }) vs) ∷ ‵ (flft κ q) ∷ []) ∵
        updating ! $ fsplit3 ! $ drop ! $ open_ref ! tt (mem (S X n)) {b = b} {o = o} $
        use1 𝓛 (given (length d.at ≡ n) (‵ (elements d.at p) ⊛ raw (Left X n 𝓛 b o))) (elements_out X n 𝓛 b o L d) $
        learn ! (λ long. split ! $
        let count : length front ≡ m = length-take-le m d.at (omega arith) in
        let bytes : length front * size (layout X) ≤ n * size (layout X) = mul-le-mul_right (size (layout X)) (omega arith) in
        let room : Room (R X n) (length front) = (omega arith, omega arith) in
        rewrite ! 0 (λ (l : List X.Denot). ‵ (elements l p)) (sym (take-append-drop m d.at)) refl $
        use1 𝓛 (‵ (elements front p) ⊛ ‵ (elements back (past (length front)))) (cut_app 𝓛 (mem (R X n)) front back b p) $
        split ! $ move ! (1 ∷ 2 ∷ []) $ join ! $ move ! (2 ∷ 3 ∷ 4 ∷ 1 ∷ 0 ∷ []) $ group ! 5 $
        use1 𝓛 (later (some (lent (length front))))
        (lends_Elements 𝓛 (S X n) (R X n) after (named 0) κ q b o b p γ front room Rest (put within long) ((S X n).coded.code d) ((S X n).coded.code d)) $
        await ! tt $ pick ! (λ δ. rewrite ! 0 (λ (k : ℕ). lent k δ) count refl $ now ! $ show ! (Lent m) δ $ done !))

  module _ (at_mem : Memory → SProp 𝓤) (run : Routine → Fun 𝓤) where
    abbrev clauses : Clauses 𝓤 (ended X n)
    clauses = F.clauses X (number n) 𝓛 at_mem run

    module _ (C : Calls 𝓤 H) (Λ : Loops 𝓤 H) (κ κT κN : Lft) (q qT qN : Share)
        (bd : AllOutlive 3 (ended X n).signature.outlives (κ, (κT, (κN, tt)))) (b o : ℕ) (γ : GName)
        (d : (S X n).Denot) (m : ℕ) where
      abbrev self : MutBor (S X n).Denot
      self = record { ref_ptr = (b, o); ghost_name = γ; now = d }

      abbrev bound : (walk_of 𝓛 (ended X n) (stayed X n) clauses).Ghost
      bound = (((κ, (κT, (κN, tt))), (q, (qT, (qN, tt))), bd, (self, (m, tt)), (mut_vals self, (vint w64 m ∷ [], tt))), tt)

      walk : m ≤ n → m < 2 ^ 64 → n * size (layout X) < 2 ^ 63
          → ent 𝓤 (on_entry 𝓛 (ended X n).signature (κ, (κT, (κN, tt))) (q, (qT, (qN, tt))) (self, (m, tt)) (mut_vals self, (vint w64 m ∷ [], tt))) (WpFn 𝓤 H C Λ (function X n) (vptr b o ∷ vint w64 m ∷ []) ((walk_of 𝓛 (ended X n) (stayed X n) clauses).post bound))
      walk within fm small =
          qed 𝓛 ((‵ (flft κ q) ⊛ ‵ (flft κT qT) ⊛ ‵ (flft κN qN) ⊛ ‵ ftrue) ∷ ‵ (owns (MutRef (named 0) κ (S X n) ∷ usize ∷ []) (self, (m, tt)) (mut_vals self, (vint w64 m ∷ [], tt))) ∷ []) ∵
          enter ! C Λ (function X n) (vptr b o ∷ vint w64 m ∷ []) _ $
          alloc_all ! (λ l. pass_all ! refl ((tt, tt), ((tt, record { fits = fm }), tt)) $
          sets ! (addr ! (through ! refl (fld ! refl (stop !)))) refl (tt, tt) $
          sets ! (agg ! (and_then ! (get ! refl) (and_then ! (get ! refl) (no_more !)))) refl (tt, (tt, (record { fits = fm }, tt))) $
          split ! $ move ! (2 ∷ []) $ fsplit ! $ move ! (0 ∷ 2 ∷ []) $
          use2 𝓛 (later (some (lent κ q b o γ d m m))) (lends κ q b o γ d m within fm small (mut_vals self)) $
          await ! tt $ pick ! (λ δ.
          returns ! (look_at ! 0 refl) $ free_all ! refl $ keep ! (0 ∷ 2 ∷ []) $ split3 ! $
          suffices ! _ (ends_at 𝓛 (ended X n) (stayed X n) clauses bound (slice_val (b, start X n o) m) (record { ref_ptr = (b, start X n o); ghost_name = δ; now = take m d.at }) (tt, (tt, tt)) (tt, (tt, tt))) $
          nothing ! $ nothing ! $ fjoin ! $ nothing ! $ fjoin ! $ join ! $ move ! (1 ∷ 3 ∷ []) $ join ! $ join ! $ frame ! $ says ! refl $ done !))

    meets : (𝓣 : Tables 𝓤 H) → Meets 𝓛 (ended X n).signature (WpFn 𝓤 H 𝓣.C 𝓣.Λ (function X n)) (closing 𝓛 (ended X n) clauses)
    meets 𝓣 =
        walk_Meets 𝓛 (ended X n) (stayed X n) (Goes-spent_ref 𝓛 3 (0 ∷ []) tt (plain (λ _. S X n)), (Goes-dropped 𝓛 3 (plain (λ _. usize)) yes (λ κs x f. refl), tt)) clauses (WpFn 𝓤 H 𝓣.C 𝓣.Λ (function X n)) (WpFn-mono 𝓤 H 𝓛.laws 𝓣 (function X n))
        (walked 𝓛 (ended X n) (stayed X n) clauses (WpFn 𝓤 H 𝓣.C 𝓣.Λ (function X n)) (λ κs. (mut_vals, (uint_vals w64, tt))) (λ κs. (mut_Tells (named 0) κs.0 (S X n), (uint_Tells w64, tt)))
        (λ κs qs bounds a g are.
        qed 𝓛 (raw (on_entry 𝓛 (ended X n).signature κs qs a (mut_vals a.0, (vint w64 a.1.0 ∷ [], tt))) ∷ (given (κs.1.0 ⊑ X.lives) (‵ ftrue) ⊛ given (κs.1.1.0 ⊑ []) (‵ ftrue) ⊛ given (size (layout (S X n)) < 2 ^ 63) (‵ ftrue) ⊛ given (a.1.0 ≤ n) (‵ ftrue)) ∷ []) ∵
        move ! (1 ∷ []) $ split3 ! $ drop ! $ drop ! $ split ! $ learn ! (λ fits. drop ! $ learn ! (λ within. drop ! $
        by ! (walk 𝓣.C 𝓣.Λ κs.0 κs.1.0 κs.1.1.0 qs.0 qs.1.0 qs.1.1.0 bounds a.0.ref_ptr.0 a.0.ref_ptr.1 a.0.ghost_name a.0.now a.1.0 within are.1.0.1 (omega arith))))))

pub front_mut_spec : {M : Type 1} → stated.statement M
unfolding tables_of
front_mut_spec 𝓤 𝓛 𝓜 𝓡 wired X n L fits =
    let 𝓣 : Tables 𝓤 𝓛.H = tables_of 𝓤 𝓛.H 𝓜 (tables 𝓤 𝓛.H 𝓜 𝓡 𝓡.env) in
    entered 𝓤 𝓛.H (triple_of 𝓛 (ended X n).signature (F.spec X (number n) 𝓛 𝓜.mem 𝓡.returns)) 𝓣.C 𝓣.Λ (#self (args X n)) (function X n) (code.unfolded 𝓤 𝓛.H 𝓜 𝓡 wired (X, (number n, tt)))
    (meets X n L 𝓛 𝓜.mem 𝓡.returns 𝓣)
