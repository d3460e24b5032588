use Rattle.std.proofs.Common.{rules, tests, ◌≡◌, ◌≤◌, ◌++◌, ◌∷◌, [], ℕ, suc, length, arith, sym, ap, ◌∙◌, subst}
use Rattle.std.proofs.{lemmas.List.{length-map, length_push}, lemmas.List.Elements.All-push}
use Rattle.std.specs.List.{All, slice_split}
use Rattle.timeline_text.proofs.Splits.{split_turn, split_end}
use Rattle.timeline_text.specs.Bytes.{is_space}
use Rattle.answer_reader.specs.Numbers.{is_run}
use Rattle.answer_reader.proofs.CountWords.{AreNumbers, passes_at, number_read, number_missing, numbers_read}
use Rattle.answer_reader.proofs.counts.numbers_of.Goals as goal

pub number_below-requires : goal.number_below-requires
number_below-requires c =
    let t = split_turn _ _ _ is_space c.args.text.now c.loop-word.yielded c.loop-word.yielded_by c.in-Some.is
    c.next.ensures.steps (cc) (cc) (cc) (λ x b q k. search (rules, tests)) in
    ap is_run t.1 ∙ passes_at is_run (slice_split is_space c.args.text.now) (length c.loop-word.yielded)
    c.in-Some.word.now c.requires t.0

pub returns-in_default-clause-ok : goal.returns-in_default-clause-ok
returns-in_default-clause-ok c =
    let t = split_turn _ _ _ is_space c.args.text.now c.loop-word.yielded c.loop-word.yielded_by c.in-Some.is
    c.next.ensures.steps (cc) (cc) (cc) (λ x b q k. search (rules, tests)) in
    number_missing 1000000001 (slice_split is_space c.args.text.now) (length c.loop-word.yielded)
    c.loop-word.numbers.items c.in-Some.word.now c.loop-word.invariant.read t.0 t.1 c.in_default.ensures.number

pub loop-word-preserved : goal.loop-word-preserved
loop-word-preserved c =
    let t = split_turn _ _ _ is_space c.args.text.now c.loop-word.yielded c.loop-word.yielded_by c.in-Some.is
    c.next.ensures.steps (cc) (cc) (cc) (λ x b q k. search (rules, tests)) in
    let size = length_push c.loop-word.yielded c.in-Some.word in
    let one : suc (length c.loop-word.yielded) ≡ length (c.loop-word.yielded ++ c.in-Some.word ∷ []) = omega arith in
    record {
      read = subst (AreNumbers 1000000001 (slice_split is_space c.args.text.now)
          (length (c.loop-word.yielded ++ c.in-Some.word ∷ []))) (sym c.in_ok-push.ensures.items)
          (subst (λ (k : ℕ). AreNumbers 1000000001 (slice_split is_space c.args.text.now) k
          (c.loop-word.numbers.items ++ c.in-Some-number_below.number ∷ [])) one
          (number_read 1000000001 (slice_split is_space c.args.text.now) (length c.loop-word.yielded)
          c.loop-word.numbers.items c.in-Some.word.now c.in-Some-number_below.number
          c.loop-word.invariant.read t.0 t.1 c.in-Some-number_below.ensures.number));
      within = subst (All (λ n. n ≤ 1000000000)) (sym c.in_ok-push.ensures.items)
          (All-push (λ n. n ≤ 1000000000) c.loop-word.numbers.items c.in-Some-number_below.number
          c.loop-word.invariant.within (omega (arith, c.in-Some-number_below.ensures.below)));
    }

pub returns-clause-ok : goal.returns-clause-ok
returns-clause-ok c =
    let t = split_end _ _ _ is_space c.args.text.now c.loop-word.yielded c.loop-word.yielded_by c.in-None.is
    c.next.ensures.steps (cc) (cc) (cc) (λ x b q k. search (rules, tests)) in
    let n = length-map c.loop-word.yielded (λ piece. piece.now) in
    let m = ap length t in
    numbers_read 1000000001 (slice_split is_space c.args.text.now) (length c.loop-word.yielded)
    c.loop-word.numbers.items c.loop-word.invariant.read (omega arith)
