use Rattle.std.proofs.Common.{sym, ◌∙◌, true≢false}
use Rattle.cert_check.proofs.Heads.{first_example}
use Rattle.cert_check.proofs.head.check_example.Goals as goal

pub returns-then-is_candidate-clause-ok : goal.returns-then-is_candidate-clause-ok
returns-then-is_candidate-clause-ok c =
    (c.is_candidate.ensures c.args.grammar.now.constraints.items).0 c.if-is_candidate.true

pub returns-else-is_candidate-clause-err : goal.returns-else-is_candidate-clause-err
returns-else-is_candidate-clause-err c =
    first_example _ _ c.requires.form c.requires.numbers (λ w. true≢false
    (sym ((c.is_candidate.ensures c.args.grammar.now.constraints.items).1 w) ∙ c.if-is_candidate.false))
