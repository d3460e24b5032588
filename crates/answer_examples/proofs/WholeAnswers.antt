-- What follows for an answer from tests of what is seen of it.
use Rattle.std.proofs.Common.{◌≡◌, ℕ, ◌<◌, nat_lt, Bool, true, ◌&&◌, List, map, length, sym, ap, ◌∙◌, Decides}
use Rattle.std.proofs.{Common.{Greater, is_le}, lemmas.Bool.Decides.{Decides-and, Decides-ltb}}
use Rattle.std.specs.List.{list_all, AllByRecursion}
use Rattle.tier_core.specs.{declared.constraint.Constraint.Constraint, declared.event.Event.Event}
use Rattle.tier_core.specs.{declared.sym.Sym.Sym, Orders.timeline_cmp}
use Rattle.violation.specs.{Candidates.counts_on, Conditions.{AreSplit, IsOverTiers, AreTiersBelow}, Problems.Problem}
use Rattle.answer_text.specs.{declared.answer.Answer.Answer, Certified.{IsCertified, AreStatesInOrder}, Right.IsRight}
use Rattle.answer_text.specs.{Sound.IsSound, Seen.nodes_seen, Values.{NodeValue, StateValue, state_value}}
use Rattle.check_laws.proofs.Soundness.{sound_from_certified}
use Rattle.answer_examples.specs.Seen.{IsSeenAs}
use Rattle.answer_examples.proofs.{Tests.Decides-by, AutomatonTests.states_ascend}
use Rattle.answer_examples.proofs.AnswerTests.{all_recursive, is_candidate, Decides-candidate, is_certified}
use Rattle.answer_examples.proofs.AnswerTests.{listing, certified_seen, in_order}
use Rattle.answer_examples.proofs.RightTests.{Shown, is_right, right_from, not_first}

-- constraints are over so many tiers
abbrev are_below : ℕ → List Event → Bool
are_below width types = list_all (λ e. nat_lt e.tier width) types

abbrev pub is_over : ℕ → Constraint → Bool
is_over width c = are_below width c.left && (are_below width c.right && nat_lt 0 (length c.left))

Decides-tiers : (width : ℕ) (types : List Event) → Decides (are_below width types) (AreTiersBelow width types)
Decides-tiers width types =
    all_recursive (λ e. nat_lt e.tier width) (λ e. e.tier < width) (λ e. Decides-ltb e.tier width) types

pub Decides-over : (width : ℕ) (cs : List Constraint)
    → Decides (list_all (is_over width) cs) (AllByRecursion (IsOverTiers width) cs)
Decides-over width cs = all_recursive (is_over width) (IsOverTiers width) each cs
  where
    each : (c : Constraint) → Decides (is_over width c) (IsOverTiers width c)
    each c =
        Decides-by (Decides-and (are_below width c.left) (are_below width c.right && nat_lt 0 (length c.left))
        (Decides-tiers width c.left)
        (Decides-and (are_below width c.right) (nat_lt 0 (length c.left)) (Decides-tiers width c.right)
        (Decides-ltb 0 (length c.left))))
        (λ h. record { left_below = h.0; right_below = h.1.0; some_left = h.1.1 })
        (λ o. (o.left_below, (o.right_below, o.some_left)))

module _ {problem : Problem} {answer : Answer} {counts : List ℕ} {example : List (List Sym)}
    {stages : List (List NodeValue)} {states : List StateValue}
    (s : IsSeenAs problem answer counts example stages states) where
  pub certified_by : is_certified problem counts example (length stages) (listing stages) states ≡ true
      → IsCertified problem answer
  certified_by e = (certified_seen problem answer counts example stages states s).0 e

  module _ (split : AreSplit problem.tiers) (over : list_all (is_over problem.tiers.width) problem.constraints ≡ true)
      (sorted : states_ascend problem.tiers.width states ≡ true) (certified : IsCertified problem answer) where
    are_over : AllByRecursion (IsOverTiers problem.tiers.width) problem.constraints
    are_over = (Decides-over problem.tiers.width problem.constraints).0 over

    are_sorted : AreStatesInOrder problem.tiers.width answer.automaton.states.items
    are_sorted = in_order problem answer counts example stages states s problem.tiers.width sorted

    pub sound_by : IsSound problem answer
    sound_by = sound_from_certified problem answer split are_over certified are_sorted

    -- by candidates that show the kinds of each stage and of the states
    pub right_by : (of_stages : ℕ → List Shown) (of_states : List Shown)
        → is_right problem counts example (listing stages) states of_stages of_states ≡ true → IsRight problem answer
    right_by of_stages of_states e =
        right_from problem answer split are_over certified are_sorted of_stages of_states (told ∙ e)
      where
        told : is_right problem answer.counts.items answer.example (nodes_seen problem answer.stages.items)
            (map state_value answer.automaton.states.items) of_stages of_states
            ≡ is_right problem counts example (listing stages) states of_stages of_states
        told = λ i. is_right problem (s.counts_are i) (s.example_is i) (λ r. s.nodes_are r i) (s.states_are i)
            of_stages of_states

    -- by a candidate with the same counts that comes before the example
    pub not_right_by : (U : List (List Sym)) → is_candidate problem U ≡ true → counts_on problem U ≡ counts
        → timeline_cmp example U ≡ Greater → IsRight problem answer → ⊥
    not_right_by U c same before =
        not_first problem answer split are_over certified are_sorted U ((Decides-candidate problem U).0 c)
        (same ∙ sym s.counts_are)
        (ap (λ T. is_le (timeline_cmp T U)) s.example_is ∙ ap is_le before)
