use Rattle.std.proofs.Common.{sym, ◌∙◌, subst}
use Rattle.symbol_class.specs.Parts.{differs, ArePartedBy}
use Rattle.symbol_class.proofs.PartSteps.{parted_same, parted_weaker}
use Rattle.kind_moves.specs.{Frames.tiers_in, Pieces.cost_under}
use Rattle.kind_moves.proofs.PieceSteps.{free_cost, same_cost}
use Rattle.kind_moves.proofs.frame.Frame.costed_pieces.Goals as goal

pub returns-then-constraint-eq0 : goal.returns-then-constraint-eq0
returns-then-constraint-eq0 c =
    let frame = c.args.self.now in
    let cost = free_cost frame c.args.stage c.args.constraint c.args.kind.now in
    parted_same (tiers_in frame).width (cost_under frame c.args.stage c.args.constraint c.args.kind.now)
    c.args.classes.items c.requires.pieces
    (λ k d inside x y _ _. cost x c.if-constraint-eq0.true ∙ sym (cost y c.if-constraint-eq0.true))

pub returns : goal.returns
returns c =
    let frame = c.args.self.now in
    let kind = c.args.kind.now in
    let test = c.cost_test-test.result in
    let cost = c.cost_test-test.ensures.columns in
    parted_weaker (tiers_in frame).width (differs test) (cost_under frame c.args.stage c.args.constraint kind)
    c.args.classes.items c.in_ok-pieces.pieces.items
    (λ x y wide_x wide_y told. same_cost frame c.args.stage c.args.constraint kind x y (differs test x)
    (differs test y) (cost x wide_x) (cost y wide_y) told)
    (subst (λ n. ArePartedBy n (differs test) c.args.classes.items c.in_ok-pieces.pieces.items)
    c.cost_test-test.ensures.width c.in_ok-pieces.ensures)
