use Rattle.std.proofs.Common.{◌&&◌, not, length, sym, ap, ◌∙◌, eq-eqb}
use Rattle.std.specs.List.{list_any}
use Rattle.tier_core.specs.Kinds.{open_tiers}
use Rattle.tier_core.proofs.MaskBits.{no_flag}
use Rattle.cert_check.specs.Subjects.{problem_of}
use Rattle.cert_check.proofs.final_kind.is_final.Goals as goal

pub returns-then-kind-len : goal.returns-then-kind-len
returns-then-kind-len c stage =
    let problem = problem_of c.args.subject.now in
    let kind = c.args.kind.now in
    no_flag _ _ c.requires.opened ∙ sym (ap
    (λ b. b && not (list_any (λ flag. flag) (open_tiers (length problem.tiers.free) kind.opened)))
    (eq-eqb _ _ (c.if-kind-len.true ∙ c.len.ensures)))
