use Rattle.std.proofs.Common.{◌≡◌, [], length, sym, ap, ◌∙◌, arith, eqb-true, eq-eqb}
use Rattle.std.proofs.lemmas.List.{drop_all, length-drop}
use Rattle.violation.proofs.CandidateLemmas.{part_from, part_end}
use Rattle.violation.proofs.candidate.has_input_part.Goals as goal

-- at the end both lists are read where the place is the form's length
pub returns : goal.returns
returns c =
    let form = c.args.form.now in
    let next = c.loop-tier.next in
    let none : part_from c.args.kinds.now c.args.column.now c.loop-tier.tier
    ≡ [] = part_end c.args.kinds.now c.args.column.now c.loop-tier.tier (omega (arith, c.loop-tier-test.false)) in (
      λ e. c.loop-tier.invariant.rest.0 (none
          ∙ sym (drop_all next form (omega (arith, eqb-true next (length form) e)))),
      λ p. eq-eqb next (length form) (omega (
        arith,
        c.loop-tier.invariant.within,
        length-drop next form,
        ap length (sym (c.loop-tier.invariant.rest.1 p) ∙ none),
      )),
    )
