use Rattle.std.proofs.Common.{ℕ, ◌+◌, List, length, take, drop, sym, ap, subst, ◌∙◌, arith}
use Rattle.std.specs.List.{slice_range, position_or_len}
use Rattle.std.proofs.lemmas.Bool.{lt-ltb, le-ltb}
use Rattle.reading.specs.Lines.{is_feed, Grown}
use Rattle.reading.proofs.Pieces.{feed_at, no_feed, any_feed, before_all, after_none, rest_at, rest_none}
use Rattle.reading.proofs.input.Input.take_piece.Goals as goal

pub returns-in-Some-clause-rest : goal.returns-in-Some-clause-rest
returns-in-Some-clause-rest g c =
    let i = c.args.self.now in
    let xs = slice_range i.chunk i.start i.end in
    let n = c.in-Some.length in
    let found = feed_at xs n (sym c.feed_in.ensures ∙ c.in-Some.is) in
    rest_at i.chunk i.start i.end n (omega (arith, found.1)) ∙ ap (λ (k : ℕ). drop (k + 1) xs) found.0

pub returns-in-Some-clause-line : goal.returns-in-Some-clause-line
returns-in-Some-clause-line g c =
    let i = c.args.self.now in
    let xs = slice_range i.chunk i.start i.end in
    let found = feed_at xs c.in-Some.length (sym c.feed_in.ensures ∙ c.in-Some.is) in
    subst (λ (k : ℕ). Grown c.args.line.now c.push_slice.new.self (take k xs)) found.0 c.push_slice.ensures

pub returns-in-Some-clause-fed : goal.returns-in-Some-clause-fed
returns-in-Some-clause-fed g c =
    let i = c.args.self.now in
    let xs = slice_range i.chunk i.start i.end in
    let found = feed_at xs c.in-Some.length (sym c.feed_in.ensures ∙ c.in-Some.is) in
    sym (any_feed xs ∙ lt-ltb (position_or_len is_feed xs) (length xs) (omega (arith, found.0, found.1)))

pub returns-in-None-clause-rest : goal.returns-in-None-clause-rest
returns-in-None-clause-rest g c =
    let i = c.args.self.now in
    let xs = slice_range i.chunk i.start i.end in
    rest_none i.chunk i.end ∙ sym (after_none xs (no_feed xs (sym c.feed_in.ensures ∙ c.in-None.is)))

pub returns-in-None-clause-line : goal.returns-in-None-clause-line
returns-in-None-clause-line g c =
    let i = c.args.self.now in
    let xs = slice_range i.chunk i.start i.end in
    subst (λ (t : List ℕ). Grown c.args.line.now c.push_slice-in-None.new.self t) (sym (before_all xs (no_feed xs (sym c.feed_in.ensures ∙ c.in-None.is)))) c.push_slice-in-None.ensures

pub returns-in-None-clause-fed : goal.returns-in-None-clause-fed
returns-in-None-clause-fed g c =
    let i = c.args.self.now in
    let xs = slice_range i.chunk i.start i.end in
    sym (any_feed xs ∙ le-ltb (position_or_len is_feed xs) (length xs) (no_feed xs (sym c.feed_in.ensures ∙ c.in-None.is)))
