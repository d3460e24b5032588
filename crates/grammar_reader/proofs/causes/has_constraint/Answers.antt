use Rattle.std.proofs.{Common.{rules, tests, sym, ◌∙◌}, lemmas.Iterator.YieldsList-from_slice}
use Rattle.std.proofs.lemmas.Iterator.Search.{any_from_yields_List}
use Rattle.std.specs.{Str.bytes_eq, String.string_bytes}
use Rattle.grammar_reader.specs.Seen.{constraint_seen}
use Rattle.grammar_reader.proofs.Lists.{list_any-map}
use Rattle.grammar_reader.proofs.causes.has_constraint.Goals as goal

pub returns : goal.returns
returns c = any_from_yields_List (λ x. bytes_eq c.args.name.now
    (string_bytes x.name)) _ _ c.any.result c.any.ensures.ran
    (YieldsList-from_slice c.args.made.now.constraints.items cc) (λ x b q k. search (rules, tests))
    ∙ sym (list_any-map (λ x. bytes_eq c.args.name.now x.name) constraint_seen c.args.made.now.constraints.items)
