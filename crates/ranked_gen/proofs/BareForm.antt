-- The form with no constituent on the free tiers is a candidate, and the first of them.
use Rattle.std.proofs.Common.{false, List, map, length, refl}
use Rattle.tier_core.specs.{declared.sym.Sym.Sym, declared.sym.Sym.TheVariants.Outside}
use Rattle.tier_core.specs.{Timelines.{tier_word, IsWellFormed, IsReduced}, Tiers.Tiers}
use Rattle.tier_core.proofs.WordForm.{well_formed_from_runs}
use Rattle.violation.specs.{Candidates.IsCandidate, Conditions.AreSplit, Problems.Problem}
use Rattle.ranked_gen.specs.WideColumns.{wide_column}
use Rattle.ranked_gen.proofs.WidenedColumns.{all_mapped, length_over, over_runs, over_reduced, squeeze_over}

-- the form with no constituent on the free tiers
abbrev pub bare_form : Tiers → List (List Sym) → List (List Sym)
bare_form tiers u = map (wide_column tiers) u

-- The bare form is a candidate.
pub bare_candidate : (problem : Problem) → AreSplit problem.tiers
    → IsWellFormed (length problem.tiers.input) problem.form → IsReduced problem.form
    → IsCandidate problem (bare_form problem.tiers problem.form)
bare_candidate problem split wf reduced = record {
  well_formed = record {
    one_width = all_mapped _ (wide_column problem.tiers) problem.form (length_over problem.tiers (λ t. false) Outside);
    each_tier = λ t l. well_formed_from_runs (tier_word (bare_form problem.tiers problem.form) t)
        (over_runs problem.tiers (λ t. false) Outside split (λ t c. refl) problem.form t wf l refl);
  };
  reduced = over_reduced problem.tiers (λ t. false) Outside split (λ t c. refl) problem.form wf.one_width reduced;
  input = squeeze_over problem.tiers (λ t. false) Outside split (λ t c. refl) problem.form wf.one_width reduced;
}
