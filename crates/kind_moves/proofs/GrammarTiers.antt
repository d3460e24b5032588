-- What the types of grammars and frames tell.
use Rattle.std.proofs.{Common.{◌≡◌, ℕ, true, false, IsTrue, filter, take, length, get_or}, Math.Logic.∥∥₁_elim}
use Rattle.std.proofs.{lemmas.List.Elements.{All-from_recursion, recursion_from_All}, Props.props}
use Rattle.std.specs.List.{AllByRecursion}
use Rattle.tier_core.specs.{Timelines.{tier_word, has_edge}, Sides.is_stretch}
use Rattle.tier_core.proofs.{WordLemmas.runs, WordForm.{runs_from_well_formed, well_formed_from_runs}}
use Rattle.tier_core.proofs.Members.{all_first}
use Rattle.violation.specs.{Candidates.IsForm, Conditions.IsOverTiers, Problems.Problem}
use Rattle.grammar_reader.specs.declared.grammar.Grammar.{Grammar}
use Rattle.grammar_reader.proofs.OverTiers.{over_tiers}

pub over_stretches : (g : Grammar) (stage : ℕ) → AllByRecursion (IsOverTiers (length g.tiers.kinds.items))
    (filter is_stretch (take stage g.constraints.items))
over_stretches g stage = all_first (IsOverTiers (length g.tiers.kinds.items)) is_stretch g.constraints.items stage
    (over_tiers g)

-- a form is a form, however that is known
pub form_from : (problem : Problem) → ∥ IsForm problem.tiers problem.form ∥₁ → IsForm problem.tiers problem.form
form_from problem h = record {
  well_formed = record {
    one_width = recursion_from_All (λ column. length column ≡ length problem.tiers.input) problem.form
        (λ k d l. let one : IsProp (length (get_or problem.form k d) ≡ length problem.tiers.input) = hlevel props in
        ∥∥₁_elim h one (λ f. All-from_recursion (λ column. length column
        ≡ length problem.tiers.input) problem.form f.well_formed.one_width k d l));
    each_tier = λ t l. let one : IsProp (runs false (tier_word problem.form t) ≡ true) = hlevel props in
        well_formed_from_runs (tier_word problem.form t) (∥∥₁_elim h one
        (λ f. runs_from_well_formed (tier_word problem.form t) (f.well_formed.each_tier t l)));
  };
  reduced = recursion_from_All (λ column. IsTrue (has_edge column)) problem.form
      (λ k d l. let one : IsProp (has_edge (get_or problem.form k d) ≡ true) = hlevel props in
      ∥∥₁_elim h one (λ f. All-from_recursion (λ column. IsTrue (has_edge column)) problem.form f.reduced k d l));
}
