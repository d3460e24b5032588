-- How many stretch implications a frame has at each stage.
use Rattle.std.proofs.Common.{◌≡◌, ℕ, ◌+◌, ◌≤◌, take, filter, length, get_or, ap, ◌∙◌, arith}
use Rattle.std.proofs.lemmas.List.FromFn.{get_or-map-range_with_len}
use Rattle.tier_core.specs.Sides.{is_stretch}
use Rattle.grammar_reader.proofs.Shaping.{length-stretch_counts}
use Rattle.kind_moves.specs.{declared.frame.Frame.Frame, Frames.{constraints_in, stretches_in}}

pub length-counts : (frame : Frame) → length frame.shape.phases.items ≡ length (constraints_in frame) + 1
length-counts frame = ap length frame.shape_of.phases ∙ length-stretch_counts (constraints_in frame)

pub count_at : (frame : Frame) (stage : ℕ) → stage ≤ length (constraints_in frame)
    → get_or frame.shape.phases.items stage 0 ≡ length (stretches_in frame stage)
count_at frame stage l =
    ap (λ counts. get_or counts stage 0) frame.shape_of.phases
    ∙ get_or-map-range_with_len (λ r. length (filter is_stretch (take r (constraints_in frame)))) 0
    (length (constraints_in frame) + 1) stage stage 0 (omega arith) (omega arith)
