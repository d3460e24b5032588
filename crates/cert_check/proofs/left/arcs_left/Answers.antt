use Rattle.cert_check.proofs.NodeSteps.{piece_at}
use Rattle.cert_check.proofs.LeftSteps.{left_none, left_more, left_all, listed_piece}
use Rattle.cert_check.proofs.left.arcs_left.Goals as goal

pub loop-piece-init : goal.loop-piece-init
loop-piece-init c = left_none _ _ _ _ _ _ c.new-arcs.ensures.items

pub push_left-requires-clause-listed : goal.push_left-requires-clause-listed
push_left-requires-clause-listed c =
    listed_piece c.args.subject.now _ _ _ _ _ _ c.requires.is c.requires.right
    (piece_at c.requires.kept _ _ c.loop-piece-test.true c.piece-item.is)

pub push_left-requires-clause-piece : goal.push_left-requires-clause-piece
push_left-requires-clause-piece c =
    (piece_at c.requires.kept _ _ c.loop-piece-test.true c.piece-item.is).told

pub loop-piece-preserved : goal.loop-piece-preserved
loop-piece-preserved c =
    left_more _ _ _ _ _ _ _ _ _ c.requires.kept (piece_at c.requires.kept _ _ c.loop-piece-test.true c.piece-item.is)
    c.loop-piece.invariant c.in_ok-push_left.ensures

pub returns : goal.returns
returns c = left_all _ _ _ _ _ _ _ c.requires.kept c.loop-piece-test.false c.loop-piece.invariant
