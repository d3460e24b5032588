-- Walks along which potentials fall, in parts, and from prefixes of one kind.
use Rattle.std.proofs.Common.{◌≡◌, ℕ, ◌+◌, ◌≤◌, List, [], ◌∷◌, ◌++◌, length, sym, ap, ◌∙◌, subst}
use Rattle.std.specs.List.{AllByRecursion}
use Rattle.tier_core.specs.{declared.sym.Sym.Sym, declared.constraint.Constraint.Constraint, Tiers.Tiers}
use Rattle.violation.specs.{Candidates.{IsForm, IsCandidate}, Conditions.{AreSplit, IsOverTiers}}
use Rattle.violation.specs.{Moves.{next_kind, cost_of}, Prefixes.kind_of, Problems.{Problem, last_stage}}
use Rattle.answer_text.specs.{declared.stage.Stage.Stage, Certified.Lists}
use Rattle.check_laws.proofs.Potentials.{FallsOn, FallsAlong, goes_to, as_longer, one_more}

module _ (problem : Problem) (stages : List Stage) (split : AreSplit problem.tiers)
    (form : IsForm problem.tiers problem.form)
    (over : AllByRecursion (IsOverTiers problem.tiers.width) problem.constraints) where
  -- prefixes of one kind go on alike
  same_next : (j : ℕ) → j ≤ last_stage problem → (v p : List (List Sym)) (column : List Sym) (q : List (List Sym))
      → IsCandidate problem (v ++ column ∷ q) → IsCandidate problem (p ++ column ∷ q)
      → kind_of problem j v ≡ kind_of problem j p
      → kind_of problem j (v ++ column ∷ []) ≡ kind_of problem j (p ++ column ∷ [])
  same_next j w v p column q c d same =
      sym (goes_to problem stages split form over j w v column (one_more problem stages split form over v column q c))
      ∙ ap (λ k. next_kind problem j k column) same
      ∙ goes_to problem stages split form over j w p column (one_more problem stages split form over p column q d)

  pub falls_alike : (j : ℕ) → j ≤ last_stage problem → (q v p : List (List Sym)) → IsCandidate problem (v ++ q)
      → IsCandidate problem (p ++ q) → kind_of problem j v ≡ kind_of problem j p
      → FallsAlong problem stages j v q → FallsAlong problem stages j p q
  falls_alike j w [] v p c d same f = tt
  falls_alike j w (column ∷ q) v p c d same f =
      let next = same_next j w v p column q c d same in
      let here : FallsOn problem stages j v column = f.0 in (
        record {
          before = here.before;
          after = here.after;
          leaves = subst (λ k. Lists problem stages j k here.before) same here.leaves;
          arrives = subst (λ k. Lists problem stages j k here.after) next here.arrives;
          falls = here.falls ∙ ap (λ k. cost_of problem j k column + here.after) same;
        },
        falls_alike j w q (v ++ column ∷ []) (p ++ column ∷ [])
            (as_longer problem stages split form over v column q c)
            (as_longer problem stages split form over p column q d) next f.1,
      )
