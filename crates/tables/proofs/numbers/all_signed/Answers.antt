use Rattle.std.proofs.Common.{◌≡◌, ℕ, ◌<◌, List, length, get_or, vec_items, Some, sym, ap, ◌∙◌, subst, lit<, append-nil, arith, rules, tests}
use Rattle.std.proofs.lemmas.Iterator.Splits.{YieldsList-from_str_split}
use Rattle.std.proofs.lemmas.Iterator.Consumers.{YieldsList-from_filter, YieldsList-turn, YieldsList-end}
use Rattle.std.proofs.lemmas.List.{at_drop_all, length_push}
use Rattle.console.specs.Words.{words}
use Rattle.tables.specs.Numbers.{all_signed, after}
use Rattle.tables.proofs.Splitting.{is_word, words_split, read_next, read_more}
use Rattle.tables.proofs.numbers.all_signed.Goals as goal

pub returns-in_default : goal.returns-in_default
returns-in_default c =
    let y = YieldsList-from_filter _ is_word (YieldsList-from_str_split 32 c.args.text.now (lit< tt) (cc) (cc) (cc)) (cc) (λ x b q k. search (rules, tests)) in
    let t = YieldsList-turn y c.loop-word.yielded _ c.loop-word.yielded_by _ _ c.in-Some.word c.in-Some.is c.next.ensures.steps in
    let n = length c.loop-word.yielded in
    let w = c.in-Some.word.now in
    let e = read_next (words c.args.text.now) n w (subst (λ (ws : List (List ℕ)). (n < length ws) × (w ≡ get_or ws n w)) (words_split c.args.text.now) t) in
    grind (arith, c.loop-word.invariant, e)

pub loop-word-preserved : goal.loop-word-preserved
loop-word-preserved c =
    let y = YieldsList-from_filter _ is_word (YieldsList-from_str_split 32 c.args.text.now (lit< tt) (cc) (cc) (cc)) (cc) (λ x b q k. search (rules, tests)) in
    let t = YieldsList-turn y c.loop-word.yielded _ c.loop-word.yielded_by _ _ c.in-Some.word c.in-Some.is c.next.ensures.steps in
    let n = length c.loop-word.yielded in
    let w = c.in-Some.word.now in
    let e = read_next (words c.args.text.now) n w (subst (λ (ws : List (List ℕ)). (n < length ws) × (w ≡ get_or ws n w)) (words_split c.args.text.now) t) in
    let l = length_push c.loop-word.yielded c.in-Some.word in
    grind (arith, c.loop-word.invariant, e, read_more)

pub returns : goal.returns
returns c =
    let y = YieldsList-from_filter _ is_word (YieldsList-from_str_split 32 c.args.text.now (lit< tt) (cc) (cc) (cc)) (cc) (λ x b q k. search (rules, tests)) in
    let t = YieldsList-end y c.loop-word.yielded _ c.loop-word.yielded_by _ _ c.in-None.is c.next.ensures.steps in
    let n = length c.loop-word.yielded in
    let k : n ≡ length (words c.args.text.now) = subst (λ (ws : List (List ℕ)). n ≡ length ws) (words_split c.args.text.now) t.1 in
    let e = at_drop_all all_signed (words c.args.text.now) n (omega arith) in
    sym (c.loop-word.invariant ∙ ap (after (vec_items c.loop-word.numbers)) e ∙ ap Some (append-nil _))
