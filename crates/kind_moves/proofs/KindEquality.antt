-- Kinds that fit a frame are told apart by what their bits tell.
use Rattle.std.proofs.Common.{◌≡◌, ℕ, length, refl, sym}
use Rattle.tier_core.specs.declared.kind.Kind.{Kind}
use Rattle.violation.proofs.KindBits.{one_told}
use Rattle.kind_moves.specs.{declared.frame.Frame.Frame, Frames.{tiers_in, stretches_in, kind_at_stage, FitsFrame}}

pub same_told : (frame : Frame) (stage : ℕ) (k l : Kind) → FitsFrame frame stage k → FitsFrame frame stage l
    → kind_at_stage frame stage k ≡ kind_at_stage frame stage l → k ≡ l
same_told frame stage k l fk fl e = one_told (length (tiers_in frame).free) (length (stretches_in frame stage))
    (kind_at_stage frame stage k) k l
    (record { tells = refl; opened = fk.opened; stretches = fk.stretches })
    (record { tells = sym e; opened = fl.opened; stretches = fl.stretches })
