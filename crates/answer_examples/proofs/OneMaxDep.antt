-- The answer to `[ ]` under `a # a`, `A -> a` and `a -> A` is right, by computing.
use Rattle.std.proofs.Common.{◌≡◌, true, List, [], ◌∷◌, refl, codes, slice_index_or, String}
use Rattle.std.specs.declared.alloc.Global.{Global}
use Rattle.violation.specs.{Counts.{viol, so_far}, Examples.timeline, Problems.Problem}
use Rattle.answer_text.specs.{declared.answer.Answer.Answer, Certified.IsCertified, Right.IsRight, Sound.IsSound}
use Rattle.answer_examples.specs.Ranked.{IsAnswerOn, under_one_max_dep, only_optimal, least_counts, four_stages}
use Rattle.answer_examples.specs.Ranked.{three_states}
use Rattle.answer_examples.proofs.{EmptyForm.{split, show}, AnswerTests.{is_certified, listing}}
use Rattle.answer_examples.proofs.{RightTests.{Shown, is_right}, WholeAnswers.{certified_by, sound_by, right_by}}

-- candidates that show the nodes
abbrev six_shown : List Shown
six_shown = show (codes "[- ]-") 0 ∷ show (codes "-[ [+ ]+ -]") 1 ∷ show (codes "[- ]-") 1 ∷ show (codes "[[ ]]") 1
    ∷ show (codes "[- ]-") 2 ∷ show (codes "[[ ]+ -]") 2 ∷ []

abbrev three_shown : List Shown
three_shown = show (codes "[- ]-") 0 ∷ show (codes "[- ]-") 1 ∷ show (codes "[- ]-") 2 ∷ []

abbrev shown_stages : List (List Shown)
shown_stages = six_shown ∷ six_shown ∷ three_shown ∷ three_shown ∷ []

module _ (one max dep : String Global) where
  abbrev problem : Problem
  problem = under_one_max_dep one max dep

  passes : is_certified problem least_counts only_optimal 4 (listing four_stages) three_states ≡ true
  unfolding viol
  passes = refl

  right_passes : is_right problem least_counts only_optimal (listing four_stages) three_states
      (λ r. slice_index_or shown_stages r []) three_shown ≡ true
  unfolding viol so_far
  right_passes = refl

  module _ (answer : Answer) (s : IsAnswerOn (timeline (codes "[ ]")) one max dep answer) where
    pub certified : IsCertified problem answer
    certified = certified_by s passes

    pub sound : IsSound problem answer
    sound = sound_by s split refl refl certified

    pub right : IsRight problem answer
    right = right_by s split refl refl certified (λ r. slice_index_or shown_stages r []) three_shown right_passes
