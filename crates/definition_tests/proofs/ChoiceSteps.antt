-- Counting the choices that go on from what was chosen so far, event by event.
use Rattle.std.proofs.Common.{◌≡◌, ℕ, ◌+◌, ◌<◌, ◌≤◌, Bool, Option, Some, List, [], ◌∷◌, ◌++◌, length, get_or, drop}
use Rattle.std.proofs.Common.{map, refl, ap, sym, ◌∙◌, drop-cons, add-one, All, arith, subst, suc}
use Rattle.std.proofs.lemmas.List.Sums.{count_by-le-length}
use Rattle.std.specs.{Prelude.count_by, List.flat_map}
use Rattle.tier_core.specs.{declared.sym.Sym.Sym, declared.event.Event.Event, declared.constraint.Family.Family}
use Rattle.tier_core.specs.declared.constraint.Family.TheVariants.{Implication, Clash}
use Rattle.tier_core.specs.Events.{Interval, events, meet}
use Rattle.tier_core.proofs.CountLemmas.{count_append, count_map, count_agree, all_of}
use Rattle.definition_tests.proofs.{Bounds.choices_fit, MeetSteps.meet_joined}
use Rattle.violation.specs.Counts.{choices, choice_types, counts, viol}
use Rattle.definition_tests.specs.{declared.span.Span.Span, Spans.{interval, intervals_of}}
use Rattle.definition_tests.specs.Counting.{counts_meet, counted_after}

-- how many choices are counted whose next event is one of these, and that then go on by one of the rest
abbrev pub counted_by : (Interval → Bool) → List Interval → List Interval → List (List Interval) → ℕ
counted_by passes before xs rest =
    count_by (λ choice. passes (meet (before ++ choice))) (flat_map (λ x. map (λ choice. x ∷ choice) rest) xs)

-- an event is joined, and the choices that go on from it are counted
pub counted_step : (passes : Interval → Bool) (chosen : Option Span) (x y : Interval) (xs : List Interval)
    (rest : List (List Interval))
    → y ≡ meet (intervals_of chosen ++ (x ∷ []))
    → counted_by passes (intervals_of chosen) (x ∷ xs) rest
    ≡ count_by (λ choice. passes (meet (y ∷ choice))) rest + counted_by passes (intervals_of chosen) xs rest
counted_step passes chosen x y xs rest e =
    let p : List Interval → Bool = λ choice. passes (meet (intervals_of chosen ++ choice)) in
    let others : List (List Interval) = flat_map (λ z. map (λ choice. z ∷ choice) rest) xs in
    count_append p (map (λ choice. x ∷ choice) rest) others
    ∙ ap (λ n. n + count_by p others)
    (count_map p (λ choice. x ∷ choice) rest
    ∙ count_agree (λ choice. p (x ∷ choice)) (λ choice. passes (meet (y ∷ choice))) rest
    (all_of _ rest (λ choice. ap passes (meet_joined chosen x choice ∙ ap (λ z. meet (z ∷ choice)) (sym e)))))

pub counts_by_meet : (family : Family) (right : List Event) (T : List (List Sym)) (choice : List Interval)
    → counts family right T choice ≡ counts_meet family right T (meet choice)
counts_by_meet Clash right T choice = refl
counts_by_meet Implication right T choice = refl

-- from nothing on, what is counted are the violations
pub counted_from_nothing : (family : Family) (left right : List Event) (T : List (List Sym))
    → counted_after family right T [] (choice_types family left right) ≡ viol family left right T
unfolding viol
counted_from_nothing family left right T =
    sym (count_agree (counts family right T) (λ choice. counts_meet family right T (meet choice))
    (choices (map (events T) (choice_types family left right)))
    (all_of _ (choices (map (events T) (choice_types family left right))) (counts_by_meet family right T)))

-- what holds of each of some types holds of the first and of the others
pub first_of : {X : Type 0} (P : X → Type 0) {xs : List X} (x : X) (others : List X) → xs ≡ x ∷ others → All P xs → P x
first_of P x others e a = subst (λ ys. All P ys) e a 0 x (omega arith)

pub others_of : {X : Type 0} (P : X → Type 0) {xs : List X} (x : X) (others : List X) → xs ≡ x ∷ others → All P xs
    → All P others
others_of P x others e a k d h = subst (λ ys. All P ys) e a (suc k) d (omega (arith, h))

-- one event more is joined, and all choices that go on from it are counted
pub counted_more : (family : Family) (right : List Event) (T : List (List Sym)) (chosen : Option Span)
    (others : List Event) (spans : List Span) (i : ℕ) (d y : Span) (count more total : ℕ)
    → i < length spans
    → interval y ≡ meet (intervals_of chosen ++ (interval (get_or spans i d) ∷ []))
    → more ≡ counted_after family right T (intervals_of (Some y)) others
    → total ≡ count + counted_by (counts_meet family right T) (intervals_of chosen) (map interval (drop i spans))
    (choices (map (events T) others))
    → total ≡ (count + more) + counted_by (counts_meet family right T) (intervals_of chosen)
    (map interval (drop (i + 1) spans)) (choices (map (events T) others))
counted_more family right T chosen others spans i d y count more total h joined counted e =
    let rest : List (List Interval) = choices (map (events T) others) in
    let by : List Interval → ℕ = λ xs. counted_by (counts_meet family right T) (intervals_of chosen) xs rest in
    let next : drop i spans ≡ get_or spans i d ∷ drop (i + 1) spans = drop-cons spans i d h
    ∙ ap (λ n. get_or spans i d ∷ drop n spans) (sym (add-one i)) in
    let step : by (map interval (drop i spans)) ≡ more + by (map interval (drop (i + 1) spans)) =
    ap (λ xs. by (map interval xs)) next
    ∙ counted_step (counts_meet family right T) chosen (interval (get_or spans i d)) (interval y)
    (map interval (drop (i + 1) spans)) rest joined
    ∙ ap (λ n. n + by (map interval (drop (i + 1) spans))) (sym counted) in
    omega (arith, e, step)

-- what is counted fits
pub count_fits : (family : Family) (right : List Event) (T : List (List Sym)) (before : List Interval)
    (types : List Event) (count left : ℕ)
    → length T ≤ 8 → length types ≤ 16 → counted_after family right T before types ≡ count + left
    → count ≤ 281474976710656
count_fits family right T before types count left short few e =
    omega (
      arith,
      e,
      count_by-le-length (λ choice. counts_meet family right T (meet (before ++ choice)))
          (choices (map (events T) types)),
      choices_fit T types short few,
    )
