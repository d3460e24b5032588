use Rattle.std.proofs.Common.{rules, tests, ◌≡◌, ◌+◌, ◌<◌, ◌∷◌, [], ◌++◌, List, ℕ, length, drop, subst, sym, ap}
use Rattle.std.proofs.{Common.{◌∙◌, arith, get_or, ◌≤◌, Err}, lemmas.List.{length_push, at_drop_all, length-map}}
use Rattle.timeline_text.proofs.Splits.{split_turn, split_end}
use Rattle.timeline_text.specs.Bytes.{is_newline, lines_of}
use Rattle.grammar_reader.specs.{Reading.{after_lines, grammar_of, finish}, Made.value_so_far}
use Rattle.grammar_reader.proofs.{Splits.{fits_at, all_fit}, Loop.{line_passed, line_refused}}
use Rattle.grammar_reader.proofs.read.read_lines.Goals as goal

pub read_line-requires-clause-whole : goal.read_line-requires-clause-whole
read_line-requires-clause-whole c =
    let t = split_turn _ _ _ is_newline c.args.bytes.now c.loop-line.yielded c.loop-line.yielded_by c.in-Some.is
    c.next.ensures.steps (cc) (cc) (cc) (λ x b q k. search (rules, tests)) in
    let f = fits_at is_newline _ (lines_of c.args.bytes.now) (length c.loop-line.yielded) c.in-Some.line.now
    (all_fit is_newline c.args.bytes.now) t.0 in
    subst (λ (xs : List ℕ). lines_of xs ≡ xs ∷ []) (sym t.1) f.0

pub loop-line-preserved : goal.loop-line-preserved
loop-line-preserved c =
    let t = split_turn _ _ _ is_newline c.args.bytes.now c.loop-line.yielded c.loop-line.yielded_by c.in-Some.is
    c.next.ensures.steps (cc) (cc) (cc) (λ x b q k. search (rules, tests)) in
    let n = length_push c.loop-line.yielded c.in-Some.line in
    record {
      counted = omega (arith, n, c.loop-line.invariant.counted);
      rest = ap (λ m. after_lines (value_so_far c.read_line.new.state) (c.loop-line.number + 1 + 1)
          (drop m (lines_of c.args.bytes.now))) n
          ∙ sym (line_passed (value_so_far c.loop-line.state) (value_so_far c.read_line.new.state)
          (c.loop-line.number + 1)
          (length c.loop-line.yielded) (lines_of c.args.bytes.now) c.in-Some.line.now t.0 t.1 c.in-Ok.ensures)
          ∙ c.loop-line.invariant.rest;
    }

pub returns-in-Err-Cause : goal.returns-in-Err-Cause
returns-in-Err-Cause c =
    let t = split_turn _ _ _ is_newline c.args.bytes.now c.loop-line.yielded c.loop-line.yielded_by c.in-Some.is
    c.next.ensures.steps (cc) (cc) (cc) (λ x b q k. search (rules, tests)) in
    let r = rw c.in-Err-Cause.field-0-is at c.in-Err-Cause.ensures in
    let e : grammar_of c.args.bytes.now ≡ Err
    (record { line = c.loop-line.number + 1; cause = c.in-Err-Cause.cause }) = sym c.loop-line.invariant.rest
    ∙ line_refused (value_so_far c.loop-line.state) (c.loop-line.number + 1) (length c.loop-line.yielded)
    (lines_of c.args.bytes.now) c.in-Some.line.now c.in-Err-Cause.cause t.0 t.1 r in
    rw c.in-Err-Cause.field-0-is e

pub returns : goal.returns
returns c =
    let e = split_end _ _ _ is_newline c.args.bytes.now c.loop-line.yielded c.loop-line.yielded_by c.in-None.is
    c.next.ensures.steps (cc) (cc) (cc) (λ x b q k. search (rules, tests)) in
    let le : length (lines_of c.args.bytes.now) ≤ length c.loop-line.yielded = omega
    (arith, length-map c.loop-line.yielded (λ x. x.now), ap length e) in
    sym c.loop-line.invariant.rest ∙ at_drop_all (after_lines (value_so_far c.loop-line.state) (c.loop-line.number + 1))
    (lines_of c.args.bytes.now) (length c.loop-line.yielded) le
