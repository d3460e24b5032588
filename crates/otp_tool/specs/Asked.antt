-- The problem that a grammar and a form ask, made of values alone: its constraints all have one name, since
-- names have no part in what is asked (this project).
use Rattle.std.specs.Prelude.{◌≡◌, ℕ, List, map, Option, Some, String}
use Rattle.std.specs.declared.alloc.Global.{Global}
use Rattle.tier_core.specs.declared.constraint.Constraint.{Constraint}
use Rattle.tier_core.specs.declared.sym.Sym.{Sym}
use Rattle.grammar_reader.specs.Values.{GrammarValue, NamedConstraint}
use Rattle.violation.specs.Problems.{Problem}
use Rattle.form_reader.specs.Forms.{IsReadAs}
use Rattle.otp_tool.specs.Grammars.{IsFileOf, grammar_inputs, grammar_tiers}

-- a constraint that requires the same, under another name
abbrev pub constraint_of : String Global → NamedConstraint → Constraint
constraint_of name c = record { name = name; family = c.family; left = c.left; right = c.right }

-- what a grammar asks with a form, where all constraints have this name
abbrev pub problem_of : String Global → GrammarValue → List (List Sym) → Problem
problem_of name g form =
    record { tiers = grammar_tiers g; constraints = map (constraint_of name) g.constraints; form = form }

-- a shelf tells the bytes of a grammar's file, which are those of g, and a word is read as the form u
pub record TellsProblem (held : List ℕ → Option (List ℕ)) (file word : List ℕ) (g : GrammarValue)
    (u : List (List Sym)) : Type 0 where
  pub bytes : List ℕ
  pub told : held file ≡ Some bytes
  pub grammar : IsFileOf bytes g
  pub form : IsReadAs (grammar_inputs g) g.letters word u
