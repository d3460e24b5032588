use Rattle.std.proofs.{Common.{◌∙◌, arith, sym}, lemmas.Bool.false≢true}
use Rattle.kind_moves.proofs.FittingSteps.{read_by, none_by}
use Rattle.kind_moves.proofs.frame.Frame.reading.Goals as goal

pub returns-then-place-len-clause-columns : goal.returns-then-place-len-clause-columns
returns-then-place-len-clause-columns c column =
    let none = none_by c.args.self.now c.args.place c.args.class.now (c.if-place-len.true ∙ c.len.ensures) column in (
      λ h. absurd (false≢true (sym (c.nothing.ensures.columns column) ∙ h)),
      λ r. absurd (false≢true (none.1 r)),
    )

pub returns-clause-columns : goal.returns-clause-columns
returns-clause-columns c column =
    read_by c.args.self.now c.args.place c.args.class.now c.with_input.result _ _ c.as_slice-kinds.ensures.value
    (c.syms.ensures.value ∙ c.column.ensures)
    (omega (arith, c.requires.place, c.if-place-len.false, c.len.ensures))
    c.with_input.ensures.columns column
