-- What is asked of the generator: a grammar's tiers, its constraints in ranked order, and an
-- underlying form. Everything above these definitions takes a whole problem, never its parts.
use Rattle.std.specs.Prelude.{ℕ, List, length}
use Rattle.tier_core.specs.declared.sym.Sym.{Sym}
use Rattle.tier_core.specs.declared.constraint.Constraint.{Constraint}
use Rattle.tier_core.specs.declared.tier.TierTable.{TierTable}
use Rattle.tier_core.specs.Tables.{tiers_of_table}
use Rattle.tier_core.specs.Tiers.{Tiers}

pub record Problem : Type 0 where
  pub tiers : Tiers
  -- the highest first
  pub constraints : List Constraint
  pub form : List (List Sym)

-- the problem that the tiers and the constraints of a grammar pose with a form
abbrev pub problem_from : TierTable → List Constraint → List (List Sym) → Problem
problem_from table constraints form = record { tiers = tiers_of_table table; constraints = constraints; form = form }

-- The number of the last stage. Stage 0 looks at no constraint, and each later one at one more.
abbrev pub last_stage : Problem → ℕ
last_stage problem = length problem.constraints

-- the place after the whole form
abbrev pub last_place : Problem → ℕ
last_place problem = length problem.form
