use Rattle.std.proofs.lemmas.Nat.{or_lt}
use Rattle.symbol_class.proofs.joining.union_on.Goals as goal

pub with_set-requires : goal.with_set-requires
with_set-requires c = or_lt 5 c.bits.result c.bits-2.result c.bits.ensures.set c.bits-2.ensures.set
