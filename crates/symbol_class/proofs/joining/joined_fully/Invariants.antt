use Rattle.symbol_class.proofs.JoinedClasses.{IsJoinedWithin}
use Rattle.symbol_class.proofs.joining.joined_fully.Given as goal

abbrev pub invariant-joining : goal.invariant-joining
invariant-joining l = IsJoinedWithin l.width l.classes l.joined.items l.count

abbrev pub decreases-joining : goal.decreases-joining
decreases-joining l = l.count
