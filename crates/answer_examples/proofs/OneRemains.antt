-- One violation of `a -> A` remains where the overt tier is open and not met, and the form is empty.
use Rattle.std.proofs.Common.{◌≡◌, ℕ, ◌+◌, ◌≤◌, true, List, [], ◌∷◌, ◌++◌, take, drop, refl, sym, ap, ◌∙◌, subst}
use Rattle.std.proofs.{Common.{arith, codes, String, append-nil, ◌==◌}, lemmas.Bool.false≢true}
use Rattle.std.proofs.lemmas.Bool.Decides.{Decides-eqb}
use Rattle.std.specs.declared.alloc.Global.{Global}
use Rattle.tier_core.specs.{declared.sym.Sym.Sym, Kinds.{PrefixKind, unmet}}
use Rattle.violation.specs.{Candidates.{IsCandidate, count_at, count_so_far_at}, Counts.{viol, so_far}}
use Rattle.violation.specs.{Examples.{over_two, timeline, dep_a}, Moves.{FitsKind, cost_of, is_final}}
use Rattle.violation.specs.{Prefixes.kind_of, Problems.Problem, Stages.{IsStage, Passes, IsLeastRest}}
use Rattle.violation.proofs.ExampleLemmas.{right_timeline, right_candidate}
use Rattle.violation.proofs.{StageLemmas.{all_optimal, over_stretches}, WalkLemmas.{fits_next, candidate_final}}
use Rattle.violation.proofs.{WalkSums.{walk_cost, walk_step}, CutCandidates.{candidate_cut, violations_cut}}
use Rattle.answer_examples.proofs.{EmptyForm.split, StageTests.{fits_kind, Decides-fits}}
use Rattle.answer_examples.proofs.Tests.{implied, Decides-implied, Decides-columns}

abbrev later : List (List Sym)
later = timeline (codes "-[ -]")

module _ (name : String Global) where
  abbrev one_dep : Problem
  one_dep = over_two (dep_a name ∷ []) []

  abbrev open_unmet : PrefixKind
  open_unmet = record { place = 0; opened = true ∷ []; phases = unmet ∷ [] }

  stage : IsStage one_dep 1
  stage = record {
    split = split;
    form = record { well_formed = right_timeline 1 [] tt refl; reduced = tt };
    over = (
      record { left_below = (omega arith, tt); right_below = (omega arith, tt); some_left = omega arith },
      tt,
    );
    within = omega arith;
  }

  candidate : IsCandidate one_dep later
  candidate = right_candidate (dep_a name ∷ []) [] later (refl, (refl, tt)) refl (refl, (refl, tt)) refl

  counted : count_at one_dep 1 later ≡ count_so_far_at one_dep 1 later 1 + 1
  unfolding viol so_far
  counted = refl

  first_costs : (column : List Sym) → FitsKind one_dep open_unmet column → cost_of one_dep 1 open_unmet column ≡ 1
  first_costs column f =
      (Decides-columns 2 (λ c. implied (fits_kind one_dep open_unmet c) (λ _. cost_of one_dep 1 open_unmet c == 1))
      (λ c. FitsKind one_dep open_unmet c → cost_of one_dep 1 open_unmet c ≡ 1)
      (λ c. Decides-implied (fits_kind one_dep open_unmet c) (λ _. cost_of one_dep 1 open_unmet c == 1)
      (Decides-fits one_dep open_unmet c) (Decides-eqb (cost_of one_dep 1 open_unmet c) 1))).0 refl column f.width f

  rest_costs : (p q : List (List Sym)) → IsCandidate one_dep (p ++ q) → kind_of one_dep 1 p ≡ open_unmet
      → 1 ≤ walk_cost one_dep 1 stage 0 (kind_of one_dep 1 p) q
  rest_costs p [] c same =
      let final : is_final one_dep (kind_of one_dep 1 p) ≡ true =
      candidate_final one_dep 1 stage.split stage.form (over_stretches one_dep 1 stage) p
      (subst (IsCandidate one_dep) (append-nil p) c) in
      absurd (false≢true (ap (is_final one_dep) (sym same) ∙ final))
  rest_costs p (column ∷ q) c same =
      let fits : FitsKind one_dep open_unmet column = subst (λ k. FitsKind one_dep k column) same
      (fits_next one_dep 1 stage.split stage.form (over_stretches one_dep 1 stage) p column q c) in
      let cost : cost_of one_dep 1 (kind_of one_dep 1 p) column ≡ 1 =
      ap (λ k. cost_of one_dep 1 k column) same ∙ first_costs column fits in
      omega (arith, walk_step one_dep 1 stage 0 (kind_of one_dep 1 p) column q, cost)

  no_less : (T : List (List Sym)) (n : ℕ) → Passes one_dep 0 1 open_unmet T n
      → count_so_far_at one_dep 1 T n + 1 ≤ count_at one_dep 1 T
  no_less T n passes =
      omega (
        arith,
        violations_cut one_dep T n 1 stage (omega arith) passes.within passes.optimal.candidate,
        rest_costs (take n T) (drop n T) (candidate_cut one_dep T n passes.optimal.candidate) passes.of_kind,
      )

  pub one_remains : IsLeastRest one_dep 1 open_unmet 1
  one_remains = record {
    some = (
      later,
      (
        1,
        (
          record { optimal = all_optimal one_dep later candidate; within = omega arith; of_kind = refl },
          counted,
        ),
      ),
    );
    least = no_less;
  }

  -- so that it is not none
  pub not_none : IsLeastRest one_dep 1 open_unmet 0 → ⊥
  not_none none =
      absurd (omega (arith, no_less none.some.0 none.some.1.0 none.some.1.1.0, none.some.1.1.1))
