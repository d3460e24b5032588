-- Before the first column nothing is counted, and after the last column all is.
use Rattle.std.proofs.Common.{◌≡◌, ℕ, ◌*◌, ◌-◌, ◌<◌, Bool, true, false, ◌&&◌, ltb, List, [], ◌∷◌, map, length, refl}
use Rattle.std.proofs.{Common.arith, lemmas.List.length-map, lemmas.Bool.{le-ltb, lt-ltb, and_right}}
use Rattle.std.specs.List.{AllByRecursion}
use Rattle.tier_core.specs.{declared.sym.Sym.Sym, declared.event.Event.Event, declared.event.Part.Part}
use Rattle.tier_core.specs.declared.event.Part.TheVariants.{Start as StartOf, End as EndOf, Interior}
use Rattle.tier_core.specs.{declared.constraint.Family.Family, Events.{event, events, least_high, meet}}
use Rattle.tier_core.specs.{Timelines.{tier_word, symbol}, Words.constituents}
use Rattle.tier_core.proofs.CountLemmas.{count_agree, count_none, all_weaker, all_of}
use Rattle.tier_core.proofs.{WordCounts.constituents_within, WordLemmas.constituents_late, Members.all_both}
use Rattle.violation.specs.Counts.{choices, choice_types, counts, viol, so_far}
use Rattle.violation.proofs.{ChoiceLemmas.{all_flat, all_map}, MeetLemmas.least_from_le}

pub so_far_none : (family : Family) (left right : List Event) (T : List (List Sym)) → so_far family left right T 0 ≡ 0
unfolding so_far
so_far_none family left right T =
    count_none _ _ (all_of _ (choices (map (events T) (choice_types family left right)))
    (λ choice. and_right (counts family right T choice) (ltb (meet choice).high 0)
    (le-ltb (meet choice).high 0 (omega arith))))

-- the high end of each event is before the end of the timeline
event_high : (part : Part) (i j n : ℕ) → i < j → j < n → (event part (i, j)).high < 2 * n - 1
event_high StartOf i j n a b = omega arith
event_high EndOf i j n a b = omega arith
event_high Interior i j n a b = omega arith

events_within : (T : List (List Sym)) (e : Event) → AllByRecursion (λ x. x.high < 2 * length T - 1) (events T e)
events_within T e =
    let same : length (tier_word T e.tier) ≡ length T = length-map T (λ column. symbol column e.tier) in
    all_map _ (event e.part) (constituents (tier_word T e.tier))
    (all_weaker _ _ _ (λ c a. event_high e.part c.0 c.1 (length T) a.0.1 (omega (arith, same, a.1)))
    (all_both _ _ _ (constituents_late 0 (tier_word T e.tier)) (constituents_within 0 (tier_word T e.tier))))

abbrev pub AreSome : List Event → Type 0
AreSome [] = ⊥
AreSome (e ∷ es) = Unit {0}

highs_within : (T : List (List Sym)) (es : List Event) → AreSome es
    → AllByRecursion (λ choice. least_high choice < 2 * length T - 1) (choices (map (events T) es))
highs_within T [] h = absurd h
highs_within T (e ∷ es) h =
    all_flat (λ choice. least_high choice < 2 * length T - 1) (events T e) (choices (map (events T) es))
    (all_weaker (λ x. x.high < 2 * length T - 1) _ _
    (λ x a. all_of _ _ (λ choice. omega (arith, least_from_le x.high choice))) (events_within T e))

pub so_far_whole : (family : Family) (left right : List Event) (T : List (List Sym))
    → AreSome (choice_types family left right)
    → so_far family left right T (length T) ≡ viol family left right T
unfolding so_far viol
so_far_whole family left right T h =
    count_agree _ _ (choices (map (events T) (choice_types family left right)))
    (all_weaker (λ choice. least_high choice < 2 * length T - 1) _ _
    (λ choice a. and_with (counts family right T choice) (ltb (meet choice).high (2 * length T - 1))
    (lt-ltb (meet choice).high (2 * length T - 1) a))
    (highs_within T (choice_types family left right) h))
  where
    and_with : (a b : Bool) → b ≡ true → (a && b) ≡ a
    and_with true b e = e
    and_with false b e = refl
