use Rattle.std.proofs.Common.{◌≡◌, length, subst, arith}
use Rattle.symbol_class.proofs.JoinedClasses.{IsJoinedWithin, pieces_within, within_more, differ_twice}
use Rattle.symbol_class.proofs.joining.joined_fully.Goals as goal

pub joined_once-requires : goal.joined_once-requires
joined_once-requires c = pieces_within c.args.width c.args.classes.now c.joining.joined.items c.joining.count
    c.requires.pieces.apart c.joining.invariant

pub joining-preserved : goal.joining-preserved
joining-preserved c =
    let same : length c.joining.joined.items
    ≡ c.len-count-in-joining.result = omega (arith, c.len-count-in-joining.ensures, c.joining.joined.ok) in
    subst (IsJoinedWithin c.args.width c.args.classes.now c.in_ok-joined-2.joined.items) same
    (within_more c.args.width c.args.classes.now c.joining.joined.items c.in_ok-joined-2.joined.items c.joining.count
    c.joining.invariant c.in_ok-joined-2.ensures)

pub returns-clause-pieces : goal.returns-clause-pieces
returns-clause-pieces c = pieces_within c.args.width c.args.classes.now c.joining.joined.items c.joining.count
    c.requires.pieces.apart c.joining.invariant

pub returns-clause-differ : goal.returns-clause-differ
returns-clause-differ c =
    let inv = c.joining.invariant in
    let last : length c.joining.joined.items
    ≡ c.joining.count = omega (arith, inv.within, c.joining-test.false, c.len.ensures, c.joining.joined.ok) in
    differ_twice c.args.width c.joining.joined.items c.requires.some inv.one_width (inv.differ last)
