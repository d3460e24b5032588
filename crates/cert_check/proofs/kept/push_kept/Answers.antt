use Rattle.std.proofs.Common.{IsTrue, refl, sym}
use Rattle.tier_core.specs.{Classes.has}
use Rattle.violation.specs.Prefixes.{kind_of_bits}
use Rattle.cert_check.specs.Subjects.{problem_of}
use Rattle.cert_check.proofs.KeptSteps.{adds_piece}
use Rattle.cert_check.proofs.kept.push_kept.Goals as goal

pub returns : goal.returns
returns c =
    let s = c.args.subject.now in
    let k = kind_of_bits (problem_of s) c.args.stage c.args.source.now.kind in
    let held : IsTrue (has c.args.class.now c.syms-column.result.now) =
    rw c.syms-column.ensures.value (c.least_column-least.ensures.held c.requires.filled) in
    adds_piece _ _ _ k _ _ _ _ _ c.requires.width c.requires.filled c.requires.alike held c.in_ok-push.ensures.items
    refl c.target_of-target.ensures (sym c.cost-cost.ensures.cost) c.cost-cost.ensures.few
