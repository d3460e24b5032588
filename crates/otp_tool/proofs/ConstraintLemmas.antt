-- Constraints that require the same, by their families and sides, have the same stages.
use Rattle.std.proofs.Common.{◌≡◌, ℕ, ◌-◌, ◌≤◌, List, length, take, sym, ◌∙◌, subst, arith}
use Rattle.std.proofs.lemmas.List.Elements.{All-weaker}
use Rattle.tier_core.specs.{declared.sym.Sym.Sym, declared.constraint.Constraint.Constraint, Kinds.PrefixKind}
use Rattle.grammar_reader.specs.Requirements.{requirements_seen}
use Rattle.violation.specs.{Candidates.{IsAtMost, IsCandidate, IsOptimalFor, vec}, Problems.{Problem, last_stage}}
use Rattle.violation.specs.Rests.{AreWholeKindsOver, AreWholeKindsWithin, IsWholeKind}
use Rattle.violation.specs.Stages.{AreKindsOfStage, IsPassed}
use Rattle.cert_check.specs.Seen.{AreAskedAlike}
use Rattle.cert_check.proofs.AskedAlike.{by_constraints, same_count, same_kind, same_vec, with_constraints}
use Rattle.ranked_gen.specs.Budgets.{AreAllWithin, HasFewKinds, IsFirstOver, IsOver, IsStageWithin}

module _ (problem : Problem) (cs ds : List Constraint) (alike : requirements_seen cs ≡ requirements_seen ds) where
  optimal_alike : (r : ℕ) (T : List (List Sym)) → IsOptimalFor (with_constraints problem cs) r T
      → IsOptimalFor (with_constraints problem ds) r T
  optimal_alike r T o = record {
    candidate = same T o.candidate;
    least = λ U c. rw (same_vec problem cs ds alike U) at (rw (same_vec problem cs ds alike T)
        at (o.least U (back U c)));
  }
    where
      same : (U : List (List Sym)) → IsCandidate (with_constraints problem cs) U
          → IsCandidate (with_constraints problem ds) U
      same U c = record { well_formed = c.well_formed; reduced = c.reduced; input = c.input }

      back : (U : List (List Sym)) → IsCandidate (with_constraints problem ds) U
          → IsCandidate (with_constraints problem cs) U
      back U c = record { well_formed = c.well_formed; reduced = c.reduced; input = c.input }

  passed_alike : (r s : ℕ) (k : PrefixKind) → IsPassed (with_constraints problem cs) r s k
      → IsPassed (with_constraints problem ds) r s k
  passed_alike r s k p = record {
    candidate = p.candidate;
    columns = p.columns;
    passes = record {
      optimal = optimal_alike r _ p.passes.optimal;
      within = p.passes.within;
      of_kind = sym (same_kind problem cs ds alike s _) ∙ p.passes.of_kind;
    };
  }

module _ (problem : Problem) (budget : ℕ) (cs ds : List Constraint)
    (alike : requirements_seen cs ≡ requirements_seen ds) where
  kinds_alike : (r : ℕ) (ks : List PrefixKind) → AreKindsOfStage (with_constraints problem cs) r ks
      → AreKindsOfStage (with_constraints problem ds) r ks
  kinds_alike r ks a = record {
    ascending = a.ascending;
    members = λ k. (
      (λ m. passed_alike problem cs ds alike _ r k ((a.members k).0 m)),
      (λ p. (a.members k).1 (passed_alike problem ds cs (sym alike) _ r k p)),
    );
  }

  over_alike : (r : ℕ) → IsOver (with_constraints problem cs) budget r → IsOver (with_constraints problem ds) budget r
  over_alike r o = record { kinds = o.kinds; are = kinds_alike r _ o.are; more = o.more }

few_alike : (problem : Problem) (budget : ℕ) (cs ds : List Constraint)
    → requirements_seen cs ≡ requirements_seen ds → (r : ℕ)
    → HasFewKinds (with_constraints problem cs) budget r → HasFewKinds (with_constraints problem ds) budget r
few_alike problem budget cs ds alike r h = record {
  kinds = h.kinds;
  are = kinds_alike problem budget cs ds alike r _ h.are;
  few = h.few;
}

within_alike : (problem : Problem) (budget : ℕ) (cs ds : List Constraint)
    → requirements_seen cs ≡ requirements_seen ds → (r : ℕ)
    → IsStageWithin (with_constraints problem cs) budget r → IsStageWithin (with_constraints problem ds) budget r
within_alike problem budget cs ds alike r w = λ ks a. w ks (kinds_alike problem budget ds cs (sym alike) r ks a)

-- ---- problems that are asked alike

pub same_stages : (p q : Problem) → AreAskedAlike p q → last_stage p ≡ last_stage q
same_stages p q alike = same_count _ _ alike.constraints

module _ (budget : ℕ) where
  pub first_over_alike : (r : ℕ) (p q : Problem) → AreAskedAlike p q → IsFirstOver p budget r → IsFirstOver q budget r
  first_over_alike r = by_constraints _ (λ problem cs ds alike o. record {
    stage = rw (same_count cs ds alike) at o.stage;
    over = over_alike problem _ cs ds alike r o.over;
    before = λ s l. within_alike problem _ cs ds alike s (o.before s l);
    listed = λ s l. few_alike problem _ cs ds alike s (o.listed s l);
  })

  pub all_within_alike : (p q : Problem) → AreAskedAlike p q → AreAllWithin p budget → AreAllWithin q budget
  all_within_alike = by_constraints _ (λ problem cs ds alike w r l.
      within_alike problem _ cs ds alike r (w r (rw (same_count cs ds alike) l)))

  whole_kind_alike : (k : PrefixKind) (p q : Problem) → AreAskedAlike p q → IsWholeKind p k → IsWholeKind q k
  whole_kind_alike k = by_constraints _ (λ problem cs ds alike w. rw (same_count cs ds alike) at (passed_alike problem
      cs ds alike 0 _ k w))

  -- there are not both more kinds under all constraints than the budget and no more
  pub whole_over_within : (p q : Problem) → AreAskedAlike p q → AreWholeKindsOver p budget
      → AreWholeKindsWithin q budget → ⊥
  whole_over_within p q alike o w =
      let each = All-weaker _ _ (λ k. whole_kind_alike k p q alike) _ o.each in
      omega (arith, o.more, w o.kinds o.distinct each)
