-- What the text of an answer takes from a grammar.
use Rattle.std.specs.Prelude.{◌≡◌, ℕ, ◌+◌, List, length, map, filter, take}
use Rattle.std.specs.List.{range_with_len}
use Rattle.tier_core.specs.declared.constraint.Constraint.{Constraint}
use Rattle.tier_core.specs.declared.shape.Shape.{Shape}
use Rattle.tier_core.specs.Sides.{is_stretch}
use Rattle.tier_core.specs.Tiers.{tiers_of}
use Rattle.tier_core.specs.Tables.{tiers_of_table}
use Rattle.grammar_reader.specs.declared.grammar.Grammar.{Grammar}

-- how many stretch implications are among the first r constraints, for each r from 0 to their number
abbrev pub stretch_counts : List Constraint → List ℕ
stretch_counts constraints = map (λ r. length (filter is_stretch (take r constraints)))
    (range_with_len 0 (length constraints + 1))

-- its width, its input tiers, and its stretch implications
pub record IsShapeOf (g : Grammar) (shape : Shape) : Type 0 where
  pub width : shape.width ≡ length g.tiers.kinds.items
  pub inputs : tiers_of shape.inputs ≡ (tiers_of_table g.tiers).input
  pub phases : shape.phases.items ≡ stretch_counts g.constraints.items
