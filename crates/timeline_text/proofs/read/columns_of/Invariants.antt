use Rattle.std.proofs.Common.{◌≡◌, map}
use Rattle.timeline_text.specs.Causes.{symbol_of_byte}
use Rattle.timeline_text.proofs.read.columns_of.Given as goal

abbrev pub invariant-loop-piece : goal.invariant-loop-piece
invariant-loop-piece l = l.timeline ≡ map (λ piece. map symbol_of_byte piece.now) l.yielded
