-- Grammars as values and in the code.
use Rattle.std.proofs.{Common.{◌≡◌, List, map, string_bytes, ap, ◌∙◌}, lemmas.List.length-map, lemmas.Simd.map-map}
use Rattle.tier_core.specs.{declared.sym.Sym.Sym, Tiers.tiers_by_kinds, Tables.tiers_of_table}
use Rattle.grammar_reader.specs.{declared.grammar.Grammar.Grammar, Grammars.value_of}
use Rattle.grammar_reader.specs.Requirements.{requirement_of, requirements_of, requirements_seen}
use Rattle.grammar_reader.specs.{Seen.constraint_seen, Values.NamedConstraint}
use Rattle.grammar_reader.proofs.Shaping.{kinds_back}
use Rattle.tableau.specs.Tableaux.{names_seen}
use Rattle.violation.specs.{Candidates.vec, Counts.viol}
use Rattle.otp_tool.specs.{Grammars.{constraint_names, tier_kinds, grammar_tiers}, Results.vector_of}

pub same_kinds : (g : Grammar) → tier_kinds (value_of g) ≡ g.tiers.kinds.items
same_kinds g = kinds_back _ _ (length-map g.tiers.names.items string_bytes ∙ g.tiers.one_length)

pub same_tiers : (g : Grammar) → grammar_tiers (value_of g) ≡ tiers_of_table g.tiers
same_tiers g = ap tiers_by_kinds (same_kinds g)

pub same_requirements : (g : Grammar) → requirements_of (value_of g) ≡ requirements_seen g.constraints.items
same_requirements g = map-map requirement_of constraint_seen g.constraints.items

pub same_names : (g : Grammar) → constraint_names (value_of g) ≡ names_seen g.constraints.items
same_names g = map-map (λ (n : NamedConstraint). n.name) constraint_seen g.constraints.items

pub same_vector : (g : Grammar) (T : List (List Sym)) → vector_of (value_of g) T ≡ vec g.constraints.items T
same_vector g T = map-map (λ (n : NamedConstraint). viol n.family n.left n.right T) constraint_seen g.constraints.items
