use Rattle.tier_core.proofs.Filled.{has-first_column}
use Rattle.cert_check.proofs.NodeSteps.{not_closed, too_high, none_wrong, node_below}
use Rattle.cert_check.proofs.node_check.move_fault.Goals as goal

pub potential_at-next-requires-clause-within : goal.potential_at-next-requires-clause-within
potential_at-next-requires-clause-within c =
    node_below _ _ _ _ _ _ c.requires.piece c.in-Node.is _ (has-first_column _ c.requires.filled)

pub returns-in-Unlisted : goal.returns-in-Unlisted
returns-in-Unlisted c =
    not_closed _ _ _ _ _ c.requires.is _ _ _ c.requires.kept c.requires.piece.leads c.requires.piece.costs _
    c.in-Unlisted.is

pub returns-then-node-allowed : goal.returns-then-node-allowed
returns-then-node-allowed c =
    too_high _ _ _ _ _ c.requires.is _ _ _ c.requires.kept c.requires.piece.leads c.requires.piece.costs _ _
    c.in-Node.is c.potential_at-next.ensures.value c.if-node-allowed.true

pub returns : goal.returns
returns c =
    none_wrong _ _ _ _ _ c.requires.is _ _ _ c.requires.kept c.requires.piece.leads c.requires.piece.costs _ _
    c.in-Node.is c.potential_at-next.ensures.value c.requires.ascends c.if-node-allowed.false
