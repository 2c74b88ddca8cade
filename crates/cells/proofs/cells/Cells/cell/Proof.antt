-- `cell` lends one element of the array, and the struct follows it, for every element type. Assumes `Logic`.
use Rattle.std.proofs.Common.{◌≡◌, ℕ, zero, suc, ◌+◌, ◌*◌, ◌^◌, ◌<◌, ◌≤◌, List, [], ◌∷◌, length, get_or, set, sym, refl, ◌∙◌, le_of_suc-le-suc, not-suc-le-zero, mul-le-mul_right, arith, length-set, w64}
use seplogic.Ra.Ura.{Ura}
use base.Fraction.{full_share}
use mir.Syntax.{Fn, Args, named, a_type, a_number, ty_array}
use mir.MapTy.{inst_fn}
use mir.Val.{Val, vint, vptr}
use base.Logic.{SProp, ent, sep, via, fst∗, snd∗}
use base.Fml.{Lft, GName, Share, ftrue, flft, feq, fsep}
use prog.Memory.{up, size, align}
use prog.Align.{up-ge}
use prog.Wp.{Env, Calls, Loops, WpFn, Tables}
use types.Logic.{Logic, sem}
use contract.Monad.{fact, fact_use}
use contract.Running.{tables, tables_of}
use sound.WpLaws.{WpFn-mono}
use types.Kit.{Item, mean, ‵, raw, later, await, group, ◌⊛◌, some, ◌$◌, ◌∵◌, !, qed, by, move, keep, use1, use2, drop, split, join, pick, rewrite, fsplit, fsplit3, fjoin, feq_i, feq_l, suffices, frame, done}
use types.Mut.{open_ref}
use types.Run.{size_lit, stop, fld, addr, bin, returns, enter}
use types.ByLocal.{alloc_all, pass_all, free_all, look_at, get, through, sets, env}
use denote.Exit.{yes, no}
use denote.RattleType.{RattleType, owns}
use denote.Memory.{part_at, mem, shares}
use denote.Array.{Array}
use denote.ArrayMemory.{Array-apart, Array-whole}
use denote.Index.{place, place_is, others, takes, puts, row}
use denote.Param.{param, number, layout, layouts}
use denote.Param.Laws.{Laws, param_laws}
use denote.Plain.{uint_vals, uint_Tells}
use denote.Ref.{MutRef, mut_vals, mut_Tells}
use denote.Builtin.{usize, RefMutOf}
use denote.Signature.{plain, mut_ref_to}
use denote.Steps.{nothing}
use denote.Follow.{follows, Part, lends_Part}
use denote.Triple.Carry.{spared}
use denote.Triple.Clauses.{Clauses, Ended, closing}
use denote.Triple.Entry.{on_entry}
use denote.Triple.Spec.{Meets, triple_of}
use denote.Triple.Table.{entered, run_framed}
use denote.Triple.Walked.{says, Stays, stay_dropped, walk_of, ends_at, walked, Goes-dropped, Goes-spent_ref, walk_Meets}
use borrow.Struct.Lend.{kept_record, record_fill, record_apart}
use Rattle.cells.specs.declared.cells.Cells.{Cells}
use Rattle.cells.specs.contracts.cells.Cells as type
use Rattle.cells.specs.contracts.cells.Cells.cell.Key.{name as #self}
use Rattle.cells.proofs.cells.Cells.TheLaws as laws
use Rattle.cells.proofs.cells.Cells.cell.Statement as stated
use Rattle.cells.proofs.cells.Cells.cell.Code as code

any_default : {X : Type 0} (xs : List X) (i : ℕ) (d e : X) → i < length xs → get_or xs i d ≡ get_or xs i e
any_default [] i d e l = absurd (not-suc-le-zero l)
any_default (x ∷ xs) zero d e l = refl
any_default (x ∷ xs) (suc i) d e l = any_default xs i d e (le_of_suc-le-suc l)

hd : {X : Type 0} (xs : List X) → 0 < length xs → X
hd [] l = absurd (not-suc-le-zero l)
hd (x ∷ xs) l = x

both : {M : Type 1} (𝓤 : Ura M) (φ ψ : Type 0) (P : SProp 𝓤) {Q : SProp 𝓤} → (φ → ψ → ent 𝓤 P Q) → ent 𝓤 (sep 𝓤 P (sep 𝓤 (fact 𝓤 φ) (fact 𝓤 ψ))) Q
both 𝓤 φ ψ P h =
    fact_use 𝓤 φ (via 𝓤 (sep 𝓤 (fact 𝓤 φ) (fact 𝓤 ψ)) (snd∗ 𝓤 P (sep 𝓤 (fact 𝓤 φ) (fact 𝓤 ψ))) (fst∗ 𝓤 (fact 𝓤 φ) (fact 𝓤 ψ))) (λ x.
    fact_use 𝓤 ψ (via 𝓤 (sep 𝓤 (fact 𝓤 φ) (fact 𝓤 ψ)) (snd∗ 𝓤 P (sep 𝓤 (fact 𝓤 φ) (fact 𝓤 ψ))) (snd∗ 𝓤 (fact 𝓤 φ) (fact 𝓤 ψ))) (λ y.
    via 𝓤 P (fst∗ 𝓤 P (sep 𝓤 (fact 𝓤 φ) (fact 𝓤 ψ))) (h x y)))

module _ (T : RattleType) (L : Laws T) (N : ℕ) where
  abbrev Nr : RattleType
  Nr = param 1 (number N)

  abbrev R : RattleType
  R = param 0 T

  abbrev X : Type 0
  X = T.Denot

  abbrev Cr : RattleType
  Cr = type.the_row R Nr

  abbrev args : Args
  args = layouts (a_type ∷ a_number ∷ []) (T, (number N, tt))

  abbrev s : ℕ
  s = size (layout T)

  abbrev d : ℕ
  d = up (align (ty_array (layout T) N)) 0

  abbrev fn' : Fn
  fn' = inst_fn args code.function

  abbrev ended : Ended
  ended = record { signature = record { lifetimes = 1; outlives = []; params = RefMutOf (0 ∷ []) tt (plain (λ _. Cr)) (λ _. tt) ∷ plain (λ _. usize) ∷ []; result = RefMutOf (0 ∷ []) tt (plain (λ _. R)) (λ _. tt) }; kept = (no, (yes, tt)) }

  abbrev stayed : Stays ended.signature.params ended.kept
  stayed = (stay_dropped (mut_ref_to (0 ∷ []) tt (plain (λ _. Cr))) no, (stay_dropped (plain (λ _. usize)) yes, tt))

  abbrev put : Cells X N → ℕ → X → Cells X N
  put h i w = record { at = set h.at i w }

  abbrev Big : Type 0
  Big = size (layout Cr) < 2 ^ 63

  abbrev spec : {M : Type 1} {𝓤 : Ura M} (𝓛 : Logic 𝓤) → Clauses 𝓤 ended
  spec {𝓤 = 𝓤} 𝓛 κs a = record { ghost = Unit {0}; requires = λ _. sep 𝓤 (fact 𝓤 Big) (fact 𝓤 (a.1.0 < N)); ensures = λ _ r _. sep 𝓤 (sem 𝓛 (follows Cr R a.0.ghost_name r.ghost_name (put a.0.now a.1.0))) (fact 𝓤 ((length a.0.now.at ≡ N) × (r.now ≡ get_or a.0.now.at a.1.0 r.now))) }

  module _ {M : Type 1} {𝓤 : Ura M} (𝓛 : Logic 𝓤) (κ : Lft) (q : Share) (rb ro : ℕ) (γ : GName) (h : Cells X N) (i : ℕ) (fi : i < 2 ^ 64) where
    open 𝓛 use {H, A}

    abbrev bound : (walk_of 𝓛 ended stayed (spec 𝓛)).Ghost
    bound = (((κ, tt), (q, tt), tt, (record { ref_ptr = (rb, ro); ghost_name = γ; now = h }, (i, tt)), (vptr rb ro ∷ [], (vint w64 i ∷ [], tt))), tt)

    abbrev Post : Val → SProp 𝓤
    Post = (walk_of 𝓛 ended stayed (spec 𝓛)).post bound

    abbrev xs : List X
    xs = h.at

    abbrev o : ℕ
    o = ro + d

    abbrev kept : Item 𝓤
    kept = kept_record (type.the_type R Nr) (laws.the_loose R Nr (param_laws 0 T L) refl) 0 d (type.struct R Nr).as_values (type.struct R Nr).Ghost (type.struct R Nr).make (λ v. tt) (λ x. refl) (λ v g. refl) (λ x. x) M 𝓤 𝓛 h rb ro

    abbrev Rest : SProp 𝓤
    Rest = sep 𝓤 (sem 𝓛 (others (shares R) full_share xs i rb o)) (mean 𝓛 kept)

    back : i < length xs → length xs ≡ N → (w : X) → ent 𝓤 (sep 𝓤 (sem 𝓛 ((mem R).own_at w rb (i * s + o))) Rest) (sem 𝓛 ((mem Cr).own_at (put h i w) rb ro))
    back li len w =
        qed 𝓛 (‵ (part_at R full_share w rb (i * s + o)) ∷ ‵ (others (shares R) full_share xs i rb o) ∷ kept ∷ []) ∵
        rewrite ! 0 (λ (k : ℕ). ‵ (part_at R full_share w rb k)) (sym (place_is s o i)) refl $
        use2 𝓛 (‵ (row R full_share (set xs i w) rb o)) (puts (shares R) full_share 𝓛 xs i w rb o li) $
        feq_i ! ℕ (length (set xs i w)) N (length-set xs i w ∙ len) $ fjoin ! $
        use1 𝓛 (‵ (part_at (Array R N) full_share (set xs i w) rb o)) (Array-whole 𝓛 R full_share N (set xs i w) rb o) $
        by ! (record_fill (type.the_type R Nr) (laws.the_loose R Nr (param_laws 0 T L) refl) 0 d (type.struct R Nr).as_values (type.struct R Nr).Ghost (type.struct R Nr).make (λ v. tt) (λ x. refl) (λ v g. refl) (λ x. x) refl (λ f. refl) M 𝓤 𝓛 h (set xs i w) rb ro)

    exits : (x : X) → (length xs ≡ N) × (x ≡ get_or xs i x) → (γ' : GName)
        → ent 𝓤 (sep 𝓤 (sem 𝓛 ((MutRef (named 0) κ R).own_val (record { ref_ptr = (rb, i * s + o); ghost_name = γ'; now = x }) (vptr rb (i * s + o) ∷ []))) (sep 𝓤 (A.lft κ q) (sem 𝓛 (follows Cr R γ γ' (put h i))))) (Post (vptr rb (i * s + o)))
    exits x e γ' =
        qed 𝓛 (‵ ((MutRef (named 0) κ R).own_val (record { ref_ptr = (rb, i * s + o); ghost_name = γ'; now = x }) (vptr rb (i * s + o) ∷ [])) ∷ ‵ (flft κ q) ∷ ‵ (follows Cr R γ γ' (put h i)) ∷ []) ∵
        suffices ! _ (ends_at 𝓛 ended stayed (spec 𝓛) bound (vptr rb (i * s + o)) (record { ref_ptr = (rb, i * s + o); ghost_name = γ'; now = x }) (tt, (tt, tt)) (tt, (tt, tt))) $
        nothing ! $ nothing ! $ fjoin ! $ nothing ! $ fjoin ! $ join ! $ nothing ! $ move ! (2 ∷ 0 ∷ []) $ join ! $ join ! $ frame ! $ says ! e $ done !

    module _ (C : Calls 𝓤 H) (Λ : Loops 𝓤 H) where
      walk : s < 2 ^ 64 → i * s < 2 ^ 64 → i < N → ent 𝓤 (on_entry 𝓛 ended.signature (κ, tt) (q, tt) (record { ref_ptr = (rb, ro); ghost_name = γ; now = h }, (i, tt)) (vptr rb ro ∷ [], (vint w64 i ∷ [], tt))) (WpFn 𝓤 H C Λ fn' (vptr rb ro ∷ vint w64 i ∷ []) Post)
      walk tiny fmi li =
          qed 𝓛 ((‵ (flft κ q) ⊛ ‵ ftrue) ∷ ‵ (owns (MutRef (named 0) κ Cr ∷ usize ∷ []) (record { ref_ptr = (rb, ro); ghost_name = γ; now = h }, (i, tt)) (vptr rb ro ∷ [], (vint w64 i ∷ [], tt))) ∷ []) ∵
          enter ! C Λ fn' (vptr rb ro ∷ vint w64 i ∷ []) _ $
          alloc_all ! (λ l. pass_all ! refl ((tt, tt), ((tt, record { fits = fi }), tt)) $
          let En : Env 𝓤 H = env fn'.locals l in
          move ! (1 ∷ []) $ fsplit ! $ fsplit3 ! $ drop ! $ move ! (3 ∷ []) $ split ! $ move ! (2 ∷ 3 ∷ 0 ∷ []) $
          sets ! (bin ! (get ! refl) (size_lit ! (record { fits = tiny })) (record { fits = fmi })) refl (tt, record { fits = fmi }) $
          sets ! (addr ! (through ! refl (fld ! refl (stop !)))) refl (tt, tt) $
          sets ! (bin ! (get ! refl) (get ! refl) tt) refl (tt, tt) $
          sets ! (addr ! (through ! refl (stop !))) refl (tt, tt) $
          open_ref ! tt (mem Cr) {b = rb} {o = ro} $
          use1 𝓛 (‵ (part_at (Array R N) full_share xs rb o) ⊛ kept) (record_apart (type.the_type R Nr) (laws.the_loose R Nr (param_laws 0 T L) refl) 0 d (type.struct R Nr).as_values (type.struct R Nr).Ghost (type.struct R Nr).make (λ v. tt) (λ x. refl) (λ v g. refl) (λ x. x) 𝓛 refl refl h rb ro) $ split ! $
          use1 𝓛 (‵ (fsep (feq ℕ (length xs) N) (row R full_share xs rb o))) (Array-apart 𝓛 R full_share tt N xs rb o) $ fsplit ! $ feq_l ! (λ len.
          let lx : i < length xs = omega arith in
          let e : X = hd xs (omega arith) in
          let x : X = get_or xs i e in
          use1 𝓛 (‵ (part_at R full_share x rb (place s o i)) ⊛ ‵ (others (shares R) full_share xs i rb o)) (takes (shares R) full_share 𝓛 xs i e rb o lx) $ split ! $
          rewrite ! 0 (λ (k : ℕ). ‵ (part_at R full_share x rb k)) (place_is s o i) refl $
          move ! (1 ∷ 2 ∷ []) $ join ! $ move ! (2 ∷ 3 ∷ 4 ∷ 1 ∷ 0 ∷ []) $ group ! 5 $
          use1 𝓛 (later (some (λ (γ' : GName). raw (Part 𝓛 Cr R (put h i) (named 0) κ q rb ro rb (i * s + o) γ Rest (back lx len) x γ'))))
          (lends_Part 𝓛 Cr R (put h i) (named 0) κ q rb ro rb (i * s + o) γ Rest (back lx len) (Cr.coded.code h) (Cr.coded.code h) x) $ await ! tt $ pick ! (λ γ'.
          returns ! (look_at ! 0 refl) $ free_all ! refl $
          keep ! (0 ∷ []) $ by ! (exits x (len, any_default xs i e x lx) γ'))))

  -- what the struct's size says of the elements'
  tight : Big → (i : ℕ) → i < N → (s < 2 ^ 64) × (i * s < 2 ^ 64)
  tight big i li =
      let e : ℕ = d + N * s in
      let g : e ≤ size (layout Cr) = up-ge _ e in
      let m : N * s < 2 ^ 63 = omega (arith, g, big) in
      let one : 1 * s ≤ N * s = mul-le-mul_right s (omega arith) in
      let le : i * s ≤ N * s = mul-le-mul_right s (omega arith) in
      (omega (arith, m, one), omega (arith, m, le))

  meets : {M : Type 1} {𝓤 : Ura M} (𝓛 : Logic 𝓤) (𝓣 : Tables 𝓤 𝓛.H)
      → Meets 𝓛 ended.signature (WpFn 𝓤 𝓛.H 𝓣.C 𝓣.Λ fn') (closing 𝓛 ended (spec 𝓛))
  meets {𝓤 = 𝓤} 𝓛 𝓣 =
      walk_Meets 𝓛 ended stayed (Goes-spent_ref 𝓛 1 (0 ∷ []) tt (plain (λ _. Cr)), (Goes-dropped 𝓛 1 (plain (λ _. usize)) yes (λ κs x f. refl), tt)) (spec 𝓛) (WpFn 𝓤 𝓛.H 𝓣.C 𝓣.Λ fn') (WpFn-mono 𝓤 𝓛.H 𝓛.laws 𝓣 fn')
      (walked 𝓛 ended stayed (spec 𝓛) (WpFn 𝓤 𝓛.H 𝓣.C 𝓣.Λ fn') (λ κs. (mut_vals, (uint_vals w64, tt))) (λ κs. (mut_Tells (named 0) κs.0 Cr, (uint_Tells w64, tt)))
      (λ κs qs bounds a g are. both 𝓤 Big (a.1.0 < N) _ (λ big li. walk 𝓛 κs.0 qs.0 a.0.ref_ptr.0 a.0.ref_ptr.1 a.0.ghost_name a.0.now a.1.0 are.1.0.1 𝓣.C 𝓣.Λ (tight big a.1.0 li).0 (tight big a.1.0 li).1 li)))

pub cell_spec : {M : Type 1} → stated.statement M
unfolding tables_of
cell_spec 𝓤 𝓛 𝓜 𝓡 wired T N L fits y =
    let A = 𝓛.A in
    let 𝓣 : Tables 𝓤 𝓛.H = tables_of 𝓤 𝓛.H 𝓜 (tables 𝓤 𝓛.H 𝓜 𝓡 𝓡.env) in
    spared 𝓛 (ended T L N).signature (𝓡.run (𝓡.env (#self (args T L N)))) (run_framed 𝓤 𝓛.H 𝓜 𝓡 (𝓡.env (#self (args T L N)))) 2 (T.lives, ([], tt)) (closing 𝓛 (ended T L N) (spec T L N 𝓛))
    (entered 𝓤 𝓛.H (triple_of 𝓛 (ended T L N).signature (closing 𝓛 (ended T L N) (spec T L N 𝓛))) 𝓣.C 𝓣.Λ (#self (args T L N)) (fn' T L N) (code.unfolded 𝓤 𝓛.H 𝓜 𝓡 wired (T, (number N, tt))) (meets T L N 𝓛 𝓣))
    ((y.0.0, y.0.1, tt, y.0.3, y.0.4), y.1)
