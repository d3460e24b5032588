-- Answers to the form `[ ]` over an input tier A and an overt tier a, under `A -> a` and `a -> A`,
-- and under these and below them `a # a`, whatever their names.
use Rattle.std.specs.Prelude.{◌≡◌, ℕ, true, false, List, [], ◌∷◌, codes, String}
use Rattle.std.specs.declared.alloc.Global.{Global}
use Rattle.tier_core.specs.declared.sym.Sym.{Sym}
use Rattle.tier_core.specs.Kinds.{PrefixKind}
use Rattle.violation.specs.Candidates.{IsCandidate, counts_on}
use Rattle.violation.specs.Examples.{over_two, dep_a, max_a, timeline}
use Rattle.violation.specs.Problems.{Problem}
use Rattle.answer_text.specs.declared.answer.Answer.{Answer}
use Rattle.answer_text.specs.Values.{NodeValue, StateValue}
use Rattle.answer_examples.specs.Seen.{IsSeenAs}
use Rattle.answer_examples.specs.Worked.{arc_on, state}
use Rattle.answer_examples.specs.Ranked.{one_a, node_at, six_nodes, least_counts, only_optimal, four_stages, three_states}

abbrev pub under_max_dep : String Global → String Global → Problem
under_max_dep max dep = over_two (max_a max ∷ dep_a dep ∷ []) (timeline (codes "[ ]"))

abbrev pub under_max_dep_one : String Global → String Global → String Global → Problem
under_max_dep_one max dep one =
    over_two (max_a max ∷ dep_a dep ∷ one_a one ∷ []) (timeline (codes "[ ]"))

-- under `A -> a`, nothing remains from any kind
abbrev pub seven_of_max : List NodeValue
seven_of_max = node_at 0 (codes "-") (codes ".") 0 ∷ node_at 0 (codes "+") (codes ".") 0
    ∷ node_at 1 (codes "-") (codes "u") 0 ∷ node_at 1 (codes "-") (codes "m") 0
    ∷ node_at 1 (codes "+") (codes "m") 0 ∷ node_at 2 (codes "-") (codes ".") 0
    ∷ node_at 2 (codes "+") (codes ".") 0 ∷ []

-- under `a -> A`, 1 remains if an a is open that no A will meet any more
abbrev pub eight_of_dep : List NodeValue
eight_of_dep = node_at 0 (codes "-") (codes "..") 0 ∷ node_at 0 (codes "+") (codes ".u") 0
    ∷ node_at 1 (codes "-") (codes "u.") 0 ∷ node_at 1 (codes "-") (codes "m.") 0
    ∷ node_at 1 (codes "+") (codes "mm") 0 ∷ node_at 2 (codes "-") (codes "..") 0
    ∷ node_at 2 (codes "+") (codes ".u") 1 ∷ node_at 2 (codes "+") (codes ".m") 0 ∷ []

-- under `a # a`, 1 remains until an a ends
abbrev pub seven_of_one : List NodeValue
seven_of_one = node_at 0 (codes "-") (codes "..") 1 ∷ node_at 0 (codes "+") (codes ".u") 1
    ∷ node_at 1 (codes "-") (codes "u.") 1 ∷ node_at 1 (codes "-") (codes "m.") 0
    ∷ node_at 1 (codes "+") (codes "mm") 1 ∷ node_at 2 (codes "-") (codes "..") 0
    ∷ node_at 2 (codes "+") (codes ".m") 1 ∷ []

abbrev pub stages_of_two : List (List NodeValue)
stages_of_two = six_nodes 0 ∷ seven_of_max ∷ eight_of_dep ∷ []

abbrev pub stages_of_three : List (List NodeValue)
stages_of_three = six_nodes 0 ∷ seven_of_max ∷ eight_of_dep ∷ seven_of_one ∷ []

-- an a starts before A, after it or with it
abbrev pub three_starts : List StateValue → List StateValue
three_starts rest =
    state 0 false (arc_on 1 (codes "-[") ∷ arc_on 2 (codes "[-") ∷ arc_on 4 (codes "[[") ∷ [])
    ∷ state 1 false (arc_on 4 (codes "[+") ∷ []) ∷ state 2 false (arc_on 4 (codes "+[") ∷ []) ∷ rest

-- as many a's inside A as one likes
abbrev pub states_of_many : List StateValue
states_of_many = three_starts (state 3 false (arc_on 4 (codes "+[") ∷ arc_on 5 (codes "]-") ∷ [])
    ∷ state 4 false (arc_on 3 (codes "+]") ∷ arc_on 4 (codes "+|") ∷ arc_on 5 (codes "]]")
    ∷ arc_on 7 (codes "]+") ∷ [])
    ∷ state 5 true [] ∷ state 7 false (arc_on 5 (codes "-]") ∷ []) ∷ [])

-- one a, which overlaps A
abbrev pub states_of_nine : List StateValue
states_of_nine = three_starts (state 3 false (arc_on 5 (codes "]-") ∷ [])
    ∷ state 4 false (arc_on 3 (codes "+]") ∷ arc_on 5 (codes "]]") ∷ arc_on 6 (codes "]+") ∷ [])
    ∷ state 5 true [] ∷ state 6 false (arc_on 5 (codes "-]") ∷ []) ∷ [])

-- the first of the optimal candidates, and another one
abbrev pub first_optimal : List (List Sym)
first_optimal = timeline (codes "[[ ]]")

abbrev pub other_optimal : List (List Sym)
other_optimal = timeline (codes "-[ [+ ]+ -]")

abbrev pub nine_counts : List ℕ
nine_counts = 0 ∷ 0 ∷ 1 ∷ []

-- the answer with infinitely many optimal candidates
abbrev pub IsAnswerOfMany : String Global → String Global → Answer → Type 0
IsAnswerOfMany max dep answer =
    IsSeenAs (under_max_dep max dep) answer (0 ∷ 0 ∷ []) first_optimal stages_of_two states_of_many

-- the answer with nine, and the example among them
abbrev pub IsAnswerOfNine : String Global → String Global → String Global → Answer
    → List (List Sym) → Type 0
IsAnswerOfNine max dep one answer example =
    IsSeenAs (under_max_dep_one max dep one) answer nine_counts example stages_of_three
    states_of_nine

-- a candidate with the least counts is one of the nine
pub record IsOneOfNine (max dep one : String Global) (T : List (List Sym)) : Type 0 where
  pub candidate : IsCandidate (under_max_dep_one max dep one) T
  pub counted : counts_on (under_max_dep_one max dep one) T ≡ nine_counts

-- what the right answer with `a # a` above the others says, of an answer with it below them
abbrev pub IsAnswerOfOther : String Global → String Global → String Global → Answer → Type 0
IsAnswerOfOther max dep one answer =
    IsSeenAs (under_max_dep_one max dep one) answer least_counts only_optimal four_stages
    three_states
