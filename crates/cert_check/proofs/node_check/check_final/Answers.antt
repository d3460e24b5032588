use Rattle.std.proofs.Common.{sym, ◌∙◌}
use Rattle.cert_check.proofs.{NodeSteps.{right_where_open, first_final}, OpenedNodes.node_opened}
use Rattle.cert_check.proofs.node_check.check_final.Goals as goal

pub returns-then-not-is_final-clause-ok : goal.returns-then-not-is_final-clause-ok
returns-then-not-is_final-clause-ok c =
    right_where_open _ _ _ _ _ c.requires.is (sym (c.is_final.ensures c.args.stage) ∙ c.if-not-is_final.true)

pub returns-clause-err : goal.returns-clause-err
returns-clause-err c =
    first_final _ _ _ _ _ c.requires.is (sym (c.is_final.ensures c.args.stage) ∙ c.if-not-is_final.false)
    c.if-node-eq0.false

pub is_final-requires : goal.is_final-requires
is_final-requires c =
    let s = c.args.subject.now in
    record {
      opened = node_opened s _ c.requires.ready c.requires.stage _ _ c.requires.is;
    }
