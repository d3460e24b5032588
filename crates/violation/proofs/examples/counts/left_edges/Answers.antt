use Rattle.std.specs.Prelude.{refl}
use Rattle.violation.specs.Counts.{viol}
use Rattle.violation.proofs.examples.counts.left_edges.Goals as goal

pub returns : goal.returns
unfolding viol
returns c = record {
  with_start = refl;
  without_start = refl;
  edge_at_end = refl;
  interior_later = refl;
  interior_over = refl;
  interior_starts = refl;
  interior_before = refl;
}
