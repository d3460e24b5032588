use Rattle.std.proofs.{Common.{length, sym, ◌∙◌}, lemmas.Bool.not-true}
use Rattle.tier_core.specs.{Classes.sets_of, Filled.is_filled}
use Rattle.symbol_class.proofs.Times.{adds_empty}
use Rattle.symbol_class.proofs.remainder.push_filled.Goals as goal

pub returns-then-is_empty-clause-held : goal.returns-then-is_empty-clause-held
returns-then-is_empty-clause-held c =
    adds_empty (length (sets_of c.args.class)) c.args.pieces.now.items c.args.class
    (not-true (is_filled c.args.class) (sym c.is_empty.ensures.sets ∙ c.if-is_empty.true))
