-- The grammars that files tell, and what they ask.
use Rattle.std.specs.Prelude.{◌≡◌, ℕ, ◌≤◌, List, length, map, Ok}
use Rattle.tier_core.specs.declared.tier.TierKind.{TierKind}
use Rattle.tier_core.specs.Tiers.{Tiers, tiers_by_kinds}
use Rattle.tier_core.specs.declared.sym.Sym.{Sym}
use Rattle.grammar_reader.specs.Values.{GrammarValue}
use Rattle.grammar_reader.specs.Reading.{grammar_of}
use Rattle.grammar_reader.specs.Requirements.{requirements_of, requirements_seen}
use Rattle.violation.specs.Problems.{Problem}
use Rattle.form_reader.specs.Forms.{IsReadAs}

-- the bytes are within the limit of a grammar's file, and g is the grammar that they tell
pub record IsFileOf (bytes : List ℕ) (g : GrammarValue) : Type 0 where
  pub within : length bytes ≤ 65536
  pub tells : grammar_of bytes ≡ Ok g

-- something holds of the grammar that the bytes of its file tell
pub record OnGrammar (P : GrammarValue → Type 0) (bytes : List ℕ) : Type 0 where
  pub grammar : GrammarValue
  pub file : IsFileOf bytes grammar
  pub fact : P grammar

abbrev pub tier_kinds : GrammarValue → List TierKind
tier_kinds g = map (λ t. t.kind) g.tiers

abbrev pub grammar_tiers : GrammarValue → Tiers
grammar_tiers g = tiers_by_kinds (tier_kinds g)

-- how many input tiers there are
abbrev pub grammar_inputs : GrammarValue → ℕ
grammar_inputs g = length (grammar_tiers g).input

-- how many overt tiers there are
abbrev pub overt_count : GrammarValue → ℕ
overt_count g = length (grammar_tiers g).overt

-- the names of its constraints, in ranked order
abbrev pub constraint_names : GrammarValue → List (List ℕ)
constraint_names g = map (λ c. c.name) g.constraints

-- A problem is asked by a grammar and the word of a form: it has the grammar's tiers, constraints that
-- require what the grammar's do, in ranked order, and the form that the word is read as. The names of
-- the constraints have no part in it.
pub record IsAsked (g : GrammarValue) (word : List ℕ) (problem : Problem) : Type 0 where
  pub tiers : problem.tiers ≡ grammar_tiers g
  pub constraints : requirements_seen problem.constraints ≡ requirements_of g
  pub form : IsReadAs (grammar_inputs g) g.letters word problem.form

-- the word is a form, and something holds of the problem that is asked
pub record OnProblem (P : Problem → Type 0) (g : GrammarValue) (word : List ℕ) : Type 0 where
  pub problem : Problem
  pub is_asked : IsAsked g word problem
  pub fact : P problem

-- Problems are asked by a grammar, one with each form: each has the grammar's tiers, and constraints
-- that require what the grammar's do, in ranked order.
pub record AreAsked (g : GrammarValue) (ask : List (List Sym) → Problem) : Type 0 where
  pub tiers : (u : List (List Sym)) → (ask u).tiers ≡ grammar_tiers g
  pub constraints : (u : List (List Sym)) → requirements_seen (ask u).constraints ≡ requirements_of g
  pub form : (u : List (List Sym)) → (ask u).form ≡ u
