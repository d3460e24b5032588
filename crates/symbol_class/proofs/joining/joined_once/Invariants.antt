use Rattle.symbol_class.specs.Joined.{JoinsBelow}
use Rattle.symbol_class.proofs.joining.joined_once.Given as goal

abbrev pub invariant-loop-tier : goal.invariant-loop-tier
invariant-loop-tier l = JoinsBelow l.width l.tier l.initial.joined.items l.joined.items
