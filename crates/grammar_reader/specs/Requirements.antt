-- What constraints require: their families and their sides, in ranked order. Their names have no part in
-- what is asked.
use Rattle.std.specs.Prelude.{List, map}
use Rattle.tier_core.specs.declared.event.Event.{Event}
use Rattle.tier_core.specs.declared.constraint.Constraint.{Constraint}
use Rattle.tier_core.specs.declared.constraint.Family.{Family}
use Rattle.grammar_reader.specs.Values.{GrammarValue, NamedConstraint}

-- what one constraint requires
pub record Requirement : Type 0 where
  pub family : Family
  pub left : List Event
  pub right : List Event

abbrev pub requirement_of : NamedConstraint → Requirement
requirement_of c = record { family = c.family; left = c.left; right = c.right }

abbrev pub requirement_seen : Constraint → Requirement
requirement_seen c = record { family = c.family; left = c.left; right = c.right }

-- the requirements of a grammar, and those of constraints of the code
abbrev pub requirements_of : GrammarValue → List Requirement
requirements_of g = map requirement_of g.constraints

abbrev pub requirements_seen : List Constraint → List Requirement
requirements_seen constraints = map requirement_seen constraints
