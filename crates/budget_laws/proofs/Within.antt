-- No stage has more kinds than enough.
use Rattle.std.proofs.Common.{◌≡◌, ℕ, ◌+◌, ◌*◌, ◌^◌, ◌≤◌, List, [], ◌∷◌, length, refl, arith, codes}
use Rattle.std.proofs.lemmas.Nat.{mul-le}
use Rattle.std.specs.List.{AllByRecursion}
use Rattle.tier_core.specs.{declared.sym.Sym.Sym, declared.tier.TierKind.TheVariants.{Input, Overt}}
use Rattle.tier_core.specs.Tables.{tiers_of_table}
use Rattle.violation.specs.{Candidates.IsForm, Conditions.{AreSplit, IsOverTiers}, Prefixes.stretches}
use Rattle.violation.specs.{Problems.{Problem, problem_from, last_stage, last_place}, Examples.{over_two, read_kind}}
use Rattle.violation.proofs.{ExampleLemmas.{right_timeline, empty_kinds}, SplitLemmas.tiers_split}
use Rattle.grammar_reader.specs.declared.grammar.Grammar.{Grammar}
use Rattle.grammar_reader.proofs.OverTiers.{over_tiers}
use Rattle.kind_laws.proofs.KindsFew.{all_few, power_more}
use Rattle.ranked_gen.specs.Budgets.{AreAllWithin, IsFirstOver}
use Rattle.budget_laws.specs.Enough.{enough}

module _ (problem : Problem) (split : AreSplit problem.tiers) (form : IsForm problem.tiers problem.form)
    (over : AllByRecursion (IsOverTiers problem.tiers.width) problem.constraints) where
  pub all_within : (budget : ℕ) → enough problem ≤ budget → AreAllWithin problem budget
  all_within budget least r w kinds are =
      omega (
        arith,
        least,
        all_few problem r (record { split = split; form = form; over = over; within = w }) kinds are,
      )

  pub none_over : (budget stage : ℕ) → AreAllWithin problem budget → IsFirstOver problem budget stage → ⊥
  none_over budget stage within first =
      absurd (omega (arith, within stage first.stage first.over.kinds first.over.are, first.over.more))

  pub plain_within : last_place problem ≤ 64 → length problem.tiers.free ≤ 8
      → length (stretches problem (last_stage problem)) ≡ 0 → AreAllWithin problem 16640
  plain_within short few none =
      let bases : (last_place problem + 1) * 2 ^ length problem.tiers.free ≤ 65 * 2 ^ 8 =
      mul-le (last_place problem + 1) (2 ^ length problem.tiers.free) 65 (2 ^ 8) (omega arith)
      (power_more (length problem.tiers.free) 8 few) in
      let one : 2 ^ length (stretches problem (last_stage problem)) ≤ 1 =
      power_more (length (stretches problem (last_stage problem))) 0 (omega arith) in
      all_within 16640
      (mul-le ((last_place problem + 1) * 2 ^ length problem.tiers.free)
      (2 ^ length (stretches problem (last_stage problem))) (65 * 2 ^ 8) 1 bases one)

-- the conditions hold of what a grammar asks
pub grammar_within : (grammar : Grammar) (form : List (List Sym)) (budget : ℕ)
    → IsForm (tiers_of_table grammar.tiers) form
    → enough (problem_from grammar.tiers grammar.constraints.items form) ≤ budget
    → AreAllWithin (problem_from grammar.tiers grammar.constraints.items form) budget
grammar_within grammar form budget is_form least =
    all_within (problem_from grammar.tiers grammar.constraints.items form)
    (tiers_split grammar.tiers.kinds.items) is_form
    (over_tiers grammar) budget least

-- the smallest problem
pub first_is_over : IsFirstOver (over_two [] []) 1 0
first_is_over = record {
  stage = omega arith;
  over = record {
    kinds = read_kind 0 (codes "-") [] ∷ read_kind 0 (codes "+") [] ∷ [];
    are = empty_kinds;
    more = omega arith;
  };
  before = λ s l. absurd (omega arith);
  listed = λ s l. absurd (omega arith);
}

pub two_are_enough : AreAllWithin (over_two [] []) 2
two_are_enough =
    all_within (over_two [] []) (tiers_split (Input ∷ Overt ∷ []))
    (record { well_formed = right_timeline 1 [] tt refl; reduced = tt }) tt 2 (omega arith)
