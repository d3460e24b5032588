use Rattle.std.proofs.Common.{map, refl}
use Rattle.tier_core.specs.declared.constraint.Constraint.{Constraint}
use Rattle.grammar_reader.specs.Seen.{tiers_seen}
use Rattle.grammar_reader.proofs.{Ascii.name_utf8, Adding.{constraint_is, constraint_added}}
use Rattle.grammar_reader.proofs.add.add_constraint.Goals as goal

pub returns-clause-ok : goal.returns-clause-ok
returns-clause-ok c =
    let made : Constraint = record {
      name = c.in_ok-name.name;
      family = c.args.family;
      left = c.side-left.result;
      right = c.side-right.result;
    } in
    constraint_added
    (tiers_seen c.args.made.now.tiers.entries) c.args.made.now.letters.items c.args.made.now.constraints.items
    c.push.new.self.items made _ c.in_ok-push.ensures.items
    (constraint_is made _ _ _ _ (c.in_ok-name.ensures.ok
    (name_utf8 c.args.name.now c.requires.name)) refl c.side-left.ensures c.side-right.ensures)
