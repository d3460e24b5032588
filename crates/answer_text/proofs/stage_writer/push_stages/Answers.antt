use Rattle.std.proofs.Common.{◌≡◌, ℕ, ◌+◌, ◌<◌, ◌++◌, List, length, drop, get_or, ap, sym, ◌∙◌, arith}
use Rattle.std.proofs.lemmas.List.{at_drop_all, get_or_read}
use Rattle.outside.proofs.Writing.{stop, up_to_as, up_to_end, up_to_more, up_to_none, up_to_stop}
use Rattle.answer_text.specs.{declared.stage.Node.Node, declared.stage.Stage.Stage, Shape.widths_of}
use Rattle.answer_text.specs.Text.{Widths, lines_text, stage_lines, stages_lines}
use Rattle.answer_text.proofs.Lines.{stages_next}
use Rattle.answer_text.proofs.stage_writer.push_stages.Goals as goal

-- the lines of one stage, with the numbers that it is written with
stage_same : {free free' stretches stretches' : ℕ} (i : ℕ) {nodes nodes' : List Node}
    → free ≡ free' → stretches ≡ stretches' → nodes ≡ nodes'
    → lines_text (stage_lines free' stretches' i nodes') ≡ lines_text (stage_lines free stretches i nodes)
stage_same {free} {free'} {stretches} {stretches'} i {nodes} {nodes'} a b e =
    ap (λ f. lines_text (stage_lines f stretches' i nodes')) (sym a)
    ∙ ap (λ s. lines_text (stage_lines free s i nodes')) (sym b)
    ∙ ap (λ n. lines_text (stage_lines free stretches i n)) (sym e)

-- the stage of this turn and those after it
turn : (widths : Widths) (stages : List Stage) (i : ℕ) (stage : Stage) {free stretches : ℕ} {nodes : List Node}
    → i < length stages → stage ≡ get_or stages i stage
    → free ≡ widths.free → stretches ≡ get_or widths.stretches i 0 → nodes ≡ stage.nodes.items
    → lines_text (stages_lines widths i (drop i stages))
    ≡ lines_text (stage_lines free stretches i nodes)
    ++ lines_text (stages_lines widths (i + 1) (drop (i + 1) stages))
turn widths stages i stage h is a b e =
    stages_next widths i stages stage h is
    ∙ ap (λ t. t ++ lines_text (stages_lines widths (i + 1) (drop (i + 1) stages))) (stage_same i a b e)

pub loop-number-init : goal.loop-number-init
loop-number-init g c = up_to_none c.args.sink.now c.args.out.now _

pub loop-number-preserved : goal.loop-number-preserved
loop-number-preserved g c =
    let has = get_or_read c.args.shape.now.phases.items c.loop-number.number c.index.result.now
    (omega arith) c.index.ensures 0 in
    let next = turn (widths_of c.args.shape.now) _ _ _ c.loop-number-test.true c.index-stages-number.is
    c.free_count-free.ensures.value has c.deref.ensures.value in
    up_to_more (up_to_as next c.loop-number.invariant) c.in_ok-push_stage.ensures

pub returns-in_err-push_stage : goal.returns-in_err-push_stage
returns-in_err-push_stage g c =
    let has = get_or_read c.args.shape.now.phases.items c.loop-number.number c.index.result.now
    (omega arith) c.index.ensures 0 in
    let next = turn (widths_of c.args.shape.now) _ _ _ c.loop-number-test.true c.index-stages-number.is
    c.free_count-free.ensures.value has c.deref.ensures.value in
    stop c.from_residual.ensures.1 (up_to_stop _ (up_to_as next c.loop-number.invariant) c.in_err-push_stage.ensures)

pub returns : goal.returns
returns g c =
    let none = at_drop_all
    (λ ss. lines_text (stages_lines (widths_of c.args.shape.now) c.loop-number.number ss)) c.args.stages.now
    c.loop-number.number c.loop-number-test.false in
    up_to_end none c.loop-number.invariant
