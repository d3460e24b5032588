-- The answers to the empty form, without constraints and under `a -> A`.
use Rattle.std.proofs.{Common.{◌≡◌, ℕ, true, List, [], ◌∷◌, refl, codes, String}, lemmas.Bool.and_from}
use Rattle.std.specs.declared.alloc.Global.{Global}
use Rattle.tier_core.specs.{declared.sym.Sym.Sym, declared.tier.TierKind.TheVariants.{Input, Overt}}
use Rattle.violation.specs.{Candidates.IsCandidate, Conditions.AreSplit, Counts.{viol, so_far}}
use Rattle.violation.specs.Examples.{two_tiers, timeline}
use Rattle.violation.proofs.SplitLemmas.{tiers_split}
use Rattle.answer_text.specs.{declared.answer.Answer.Answer, Certified.IsCertified, Right.IsRight, Sound.IsSound}
use Rattle.answer_examples.specs.Seen.{IsSeenAs}
use Rattle.answer_examples.specs.Worked.{unranked_problem, two_kinds, two_states, state, under_dep, dep_kinds}
use Rattle.answer_examples.proofs.AnswerTests.{head_passes, is_candidate, Decides-candidate, is_certified, listing}
use Rattle.answer_examples.proofs.RightTests.{Shown, is_right}
use Rattle.answer_examples.proofs.WholeAnswers.{certified_by, sound_by, right_by, not_right_by}

pub split : AreSplit two_tiers
split = tiers_split (Input ∷ Overt ∷ [])

-- a candidate, by its text, and how many of its columns are read
abbrev pub show : List ℕ → ℕ → Shown
show text columns = record { candidate = timeline text; columns = columns }

-- the candidate without columns
abbrev nothing : Shown
nothing = record { candidate = []; columns = 0 }

-- candidates that show the kind in which the overt tier is shut, and the one in which it is open
abbrev both_shown : List Shown
both_shown = nothing ∷ show (codes "-[ -]") 1 ∷ []

module _ (answer : Answer) (example : List (List Sym)) (candidate : IsCandidate unranked_problem example)
    (s : IsSeenAs unranked_problem answer [] example two_kinds two_states) where
  head : head_passes unranked_problem [] example 1 ≡ true
  head = and_from (is_candidate unranked_problem example) true
      ((Decides-candidate unranked_problem example).1 candidate) refl

  pub certified : IsCertified unranked_problem answer
  certified = certified_by s (and_from (head_passes unranked_problem [] example 1) true head refl)

  pub sound : IsSound unranked_problem answer
  sound = sound_by s split refl refl certified

-- with the first candidate as its example it is right
pub right : (answer : Answer) → IsSeenAs unranked_problem answer [] [] two_kinds two_states
    → IsRight unranked_problem answer
right answer s = right_by s split refl refl (certified_by s refl) (λ r. both_shown) both_shown refl

-- a candidate that is not the first
abbrev pub later : List (List Sym)
later = timeline (codes "-[ -]")

pub later_candidate : IsCandidate unranked_problem later
later_candidate = (Decides-candidate unranked_problem later).0 refl

pub later_not_right : (answer : Answer) → IsSeenAs unranked_problem answer [] later two_kinds two_states
    → IsRight unranked_problem answer → ⊥
later_not_right answer s = not_right_by s split refl refl (certified_by s refl) [] refl refl refl

-- under `a -> A`
module _ (name : String Global) where
  dep_passes : is_certified (under_dep name) (0 ∷ []) [] 2 (listing dep_kinds) (state 0 true [] ∷ []) ≡ true
  unfolding viol
  dep_passes = refl

  dep_right : is_right (under_dep name) (0 ∷ []) [] (listing dep_kinds) (state 0 true [] ∷ []) (λ r. both_shown)
      (nothing ∷ []) ≡ true
  unfolding viol so_far
  dep_right = refl

  module _ (answer : Answer)
      (s : IsSeenAs (under_dep name) answer (0 ∷ []) [] dep_kinds (state 0 true [] ∷ [])) where
    pub certified_under_dep : IsCertified (under_dep name) answer
    certified_under_dep = certified_by s dep_passes

    pub sound_under_dep : IsSound (under_dep name) answer
    sound_under_dep = sound_by s split refl refl certified_under_dep

    pub right_under_dep : IsRight (under_dep name) answer
    right_under_dep = right_by s split refl refl certified_under_dep (λ r. both_shown) (nothing ∷ []) dep_right
