use Rattle.std.proofs.Common.{rules, tests, ◌≡◌, ◌==◌, not, length, map, arith, sym, ap, ◌∙◌, false}
use Rattle.std.proofs.{lemmas.Bool.Decides.nat_tests, lemmas.Simd.map-map}
use Rattle.std.specs.List.{slice_split}
use Rattle.timeline_text.specs.{Bytes.is_space, Causes.symbol_of_byte}
use Rattle.timeline_text.proofs.Splits.{split_turn, split_end, none_passes}
use Rattle.timeline_text.proofs.read.columns_of.Goals as goal

pub column_of-requires : goal.column_of-requires
column_of-requires c =
    let t = split_turn _ _ _ is_space c.args.bytes.now c.loop-piece.yielded c.loop-piece.yielded_by c.in-Some.is
    c.next.ensures.steps (cc) (cc) (cc) (λ x b q k. search (rules, tests)) in
    let w = none_passes (λ piece. not (length piece == c.args.width))
    (slice_split is_space c.args.bytes.now) c.requires.widths
    (length c.loop-piece.yielded) c.in-Some.piece.now t.0 in
    let v : not (length c.in-Some.piece.now == c.args.width)
    ≡ false = ap (λ piece. not (length piece == c.args.width)) t.1 ∙ w in
    grind (arith, nat_tests)

pub returns : goal.returns
returns c =
    let t = split_end _ _ _ is_space c.args.bytes.now c.loop-piece.yielded c.loop-piece.yielded_by c.in-None.is
    c.next.ensures.steps (cc) (cc) (cc) (λ x b q k. search (rules, tests)) in
    c.loop-piece.invariant ∙ sym (map-map (map symbol_of_byte) (λ piece. piece.now) c.loop-piece.yielded)
    ∙ ap (map (map symbol_of_byte)) t
