-- A worked grammar: an input tier A, an overt tier a, and the constraints `a # a`, `A -> a`,
-- `a -> A`.
use Rattle.std.specs.Prelude.{ℕ, List, [], ◌∷◌, codes, String}
use Rattle.std.specs.declared.alloc.Global.{Global}
use Rattle.tier_core.specs.declared.constraint.Constraint.{Constraint}
use Rattle.tier_core.specs.declared.constraint.Family.TheVariants.{Clash}
use Rattle.tier_core.specs.Kinds.{PrefixKind}
use Rattle.violation.specs.Examples.{timeline, read_syms, types, two_tiers, max_a, dep_a}
use Rattle.violation.specs.Moves.{cost_of, cut_kind, next_kind}
use Rattle.violation.specs.Examples.{over_two}

-- the constraints, all of one name
abbrev pub worked_constraints : String Global → List Constraint
worked_constraints name = record {
  name = name;
  family = Clash;
  left = types (codes "Aa") (codes "a");
  right = types (codes "Aa") (codes "a");
} ∷ max_a name ∷ dep_a name ∷ []

-- what a column costs at a stage from a kind, for the form `[ ]`
abbrev pub cost_at : String Global → ℕ → PrefixKind → List ℕ → ℕ
cost_at name r k column = cost_of (over_two (worked_constraints name) (timeline (codes "[ ]"))) r k (read_syms column)

-- the kind to which it leads
abbrev pub next_at : String Global → ℕ → PrefixKind → List ℕ → PrefixKind
next_at name r k column = next_kind (over_two (worked_constraints name) []) r k (read_syms column)

-- a kind cut to the first constraints
abbrev pub cut_to : String Global → ℕ → PrefixKind → PrefixKind
cut_to name r k = cut_kind (over_two (worked_constraints name) []) r k
