use Rattle.std.proofs.Common.{◌∙◌}
use Rattle.grammar_reader.proofs.Known.{known_any}
use Rattle.grammar_reader.proofs.causes.is_known.Goals as goal

pub returns : goal.returns
returns c = c.contains_key.ensures ∙ known_any c.args.name.now c.args.tiers.now.entries
