-- The answers to `[ ]` under `A -> a` and `a -> A`, and with `a # a` below them, are right, by computing.
use Rattle.std.proofs.Common.{◌≡◌, ℕ, true, List, [], ◌∷◌, Greater, refl, sym, codes, slice_index_or, String}
use Rattle.std.proofs.lemmas.Bool.{and_from}
use Rattle.std.specs.declared.alloc.Global.{Global}
use Rattle.tier_core.specs.{declared.sym.Sym.Sym, Orders.timeline_cmp}
use Rattle.violation.specs.{Candidates.counts_on, Counts.{viol, so_far}, Problems.Problem}
use Rattle.answer_text.specs.{declared.answer.Answer.Answer, Certified.IsCertified, Right.IsRight, Sound.IsSound}
use Rattle.answer_examples.specs.Faithful.{under_max_dep, under_max_dep_one, first_optimal, other_optimal}
use Rattle.answer_examples.specs.Faithful.{nine_counts, stages_of_two, stages_of_three, states_of_many}
use Rattle.answer_examples.specs.Faithful.{states_of_nine, IsAnswerOfMany, IsAnswerOfNine, IsOneOfNine}
use Rattle.answer_examples.proofs.{EmptyForm.{split, show}, Same.{same_numbers, Decides-numbers}}
use Rattle.answer_examples.proofs.AnswerTests.{head_passes, is_candidate, Decides-candidate, is_certified, listing}
use Rattle.answer_examples.proofs.RightTests.{Shown, is_right}
use Rattle.answer_examples.proofs.WholeAnswers.{certified_by, sound_by, right_by, not_right_by}

-- optimal candidates that show the kinds before A and inside it: no a yet, one before A, none with A,
-- one that is over, and one that is open
abbrev before_shown : List Shown → List Shown
before_shown rest = show (codes "[[ ]]") 0 ∷ show (codes "-[ [+ ]+ -]") 1 ∷ rest

abbrev inside_shown : List Shown → List Shown
inside_shown rest =
    show (codes "[- +[ ]]") 1 ∷ show (codes "[[ +] ]-") 2 ∷ show (codes "[[ ]]") 1 ∷ show (codes "[[ ]]") 2 ∷ rest

abbrev open_shown : List Shown
open_shown = show (codes "[[ ]+ -]") 2 ∷ []

abbrev seven_shown : List Shown
seven_shown = before_shown (inside_shown open_shown)

-- one more candidate shows an a that starts behind A
abbrev eight_shown : List Shown
eight_shown = before_shown (inside_shown (show (codes "[[ ]] -[ -]") 3 ∷ open_shown))

abbrev six_shown : List Shown
six_shown = before_shown (show (codes "[- +[ ]]") 1 ∷ show (codes "[[ ]]") 1 ∷ show (codes "[[ ]]") 2 ∷ open_shown)

abbrev shown_stages : List (List Shown)
shown_stages = six_shown ∷ seven_shown ∷ eight_shown ∷ seven_shown ∷ []

abbrev shown_at : ℕ → List Shown
shown_at r = slice_index_or shown_stages r []

module _ (max dep : String Global) where
  abbrev two : Problem
  two = under_max_dep max dep

  two_passes : is_certified two (0 ∷ 0 ∷ []) first_optimal 3 (listing stages_of_two) states_of_many ≡ true
  unfolding viol
  two_passes = refl

  two_right : is_right two (0 ∷ 0 ∷ []) first_optimal (listing stages_of_two) states_of_many shown_at seven_shown ≡ true
  unfolding viol so_far
  two_right = refl

  module _ (answer : Answer) (s : IsAnswerOfMany max dep answer) where
    pub certified : IsCertified two answer
    certified = certified_by s two_passes

    pub sound : IsSound two answer
    sound = sound_by s split refl refl certified

    pub right : IsRight two answer
    right = right_by s split refl refl certified shown_at seven_shown two_right

module _ (max dep one : String Global) where
  abbrev three : Problem
  three = under_max_dep_one max dep one

  -- the stages and the automaton pass, whichever of the nine is the example
  module _ (example : List (List Sym)) (nine : IsOneOfNine max dep one example) where
    head : head_passes three nine_counts example 4 ≡ true
    head =
        and_from (is_candidate three example) (same_numbers nine_counts (counts_on three example))
        ((Decides-candidate three example).1 nine.candidate)
        ((Decides-numbers nine_counts (counts_on three example)).1 (sym nine.counted))

    passes : is_certified three nine_counts example 4 (listing stages_of_three) states_of_nine ≡ true
    passes = and_from (head_passes three nine_counts example 4) true head refl

    module _ (answer : Answer) (s : IsAnswerOfNine max dep one answer example) where
      pub certified_nine : IsCertified three answer
      certified_nine = certified_by s passes

      pub sound_nine : IsSound three answer
      sound_nine = sound_by s split refl refl certified_nine

  first_is : IsOneOfNine max dep one first_optimal
  unfolding viol
  first_is = record { candidate = (Decides-candidate three first_optimal).0 refl; counted = refl }

  other_is : IsOneOfNine max dep one other_optimal
  unfolding viol
  other_is = record { candidate = (Decides-candidate three other_optimal).0 refl; counted = refl }

  right_passes : is_right three nine_counts first_optimal (listing stages_of_three) states_of_nine shown_at
      seven_shown ≡ true
  unfolding viol so_far
  right_passes = refl

  pub right_nine : (answer : Answer) → IsAnswerOfNine max dep one answer first_optimal → IsRight three answer
  right_nine answer s =
      right_by s split refl refl (certified_nine first_optimal first_is answer s) shown_at seven_shown right_passes

  -- with an example that comes after the first it is not right
  pub later_not_right : (example : List (List Sym)) → IsOneOfNine max dep one example
      → timeline_cmp example first_optimal ≡ Greater → (answer : Answer)
      → IsAnswerOfNine max dep one answer example → IsRight three answer → ⊥
  later_not_right example nine after answer s =
      not_right_by s split refl refl (certified_nine example nine answer s) first_optimal refl first_is.counted after

  pub other_not_right : (answer : Answer) → IsAnswerOfNine max dep one answer other_optimal
      → IsRight three answer → ⊥
  other_not_right = later_not_right other_optimal other_is refl
