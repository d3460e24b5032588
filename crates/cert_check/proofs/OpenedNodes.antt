-- The bits of a node's open tiers.
use Rattle.std.proofs.Common.{ℕ, ◌^◌, ◌<◌, ◌≤◌, length, subst}
use Rattle.std.proofs.lemmas.Option.{slice_get_within, get_or_from_slice_get}
use Rattle.tier_core.specs.KindShapes.{free_count}
use Rattle.violation.specs.Problems.{last_stage}
use Rattle.answer_text.specs.declared.stage.Node.{Node}
use Rattle.cert_check.specs.{declared.subject.Subject.Subject, Faults.HasNode}
use Rattle.cert_check.specs.Subjects.{IsReady, problem_of, stage_nodes}
use Rattle.cert_check.proofs.Subjects.{fits_at, free_same}

-- no bit is set from the number of free tiers on
pub node_opened : (s : Subject) (stage : ℕ) → IsReady s → stage ≤ last_stage (problem_of s) → (n : ℕ) (node : Node)
    → HasNode s.answer.now stage n node → node.kind.opened < 2 ^ length (problem_of s).tiers.free
node_opened s stage ready within n node h =
    let fits = fits_at s ready _ within n _ (slice_get_within (stage_nodes s stage) n node h.numbered) in
    let here = get_or_from_slice_get (stage_nodes s stage) n node node h.numbered in
    rw (free_same s ready stage within) at
    (subst (λ (x : Node). x.kind.opened < 2 ^ free_count s.shape.now) here fits.opened)
