-- Choices of interiors alone.
use Rattle.std.proofs.Common.{◌≡◌, ℕ, ◌+◌, ◌*◌, ◌-◌, ◌<◌, min, max, Bool, true, false, ◌&&◌, ◌||◌, leb, List, []}
use Rattle.std.proofs.{Common.{◌∷◌, map, length, get_or, refl, sym, ap, ◌∙◌, arith}, lemmas.Bool.false≢true}
use Rattle.std.proofs.lemmas.Bool.Decides.{nat_tests}
use Rattle.std.specs.{Prelude.count_by, List.{AllByRecursion, list_all}}
use Rattle.tier_core.specs.{declared.sym.Sym.Sym, declared.event.Event.Event, declared.event.Part.Part}
use Rattle.tier_core.specs.declared.event.Part.TheVariants.{Start as StartOf, End as EndOf, Interior}
use Rattle.tier_core.specs.Events.{Interval, event, events, greatest_low, least_from, least_high, meet, is_there}
use Rattle.tier_core.specs.{Timelines.{tier_word, IsWellFormed}, Words.constituents}
use Rattle.tier_core.specs.Sides.{is_edge_part, has_edge_type}
use Rattle.tier_core.proofs.{CountLemmas.{bit, count_split, all_weaker, all_of}, WordForm.runs_from_well_formed}
use Rattle.tier_core.proofs.{WordLemmas.{open_at, constituents_late}, Members.all_both}
use Rattle.violation.specs.{Columns.is_present, Conditions.AreTiersBelow, Counts.choices}
use Rattle.violation.proofs.ChoiceLemmas.{all_flat, all_map, count_choices}
use Rattle.violation.proofs.{EdgeSteps.{is_at, IsFilled, all_present}, EventCounts.interior_before}
use Rattle.violation.proofs.{MeetLemmas.{contains, meet_contains}, WholeCounts.AreSome}

least_swap : (h m : ℕ) (xs : List Interval) → min h (least_from m xs) ≡ min m (least_from h xs)
least_swap h m [] = omega arith
least_swap h m (x ∷ xs) = omega (arith, least_swap h m xs)

-- both ends of the meet are odd
pub record OddMeet (choice : List Interval) : Type 0 where
  pub low : ℕ
  pub high : ℕ
  pub low_is : greatest_low choice ≡ 2 * low + 1
  pub high_is : least_high choice ≡ 2 * high + 1

abbrev pub IsOdd : List Interval → Type 0
IsOdd [] = Unit {0}
IsOdd (x ∷ xs) = OddMeet (x ∷ xs)

odd_more : (i j : ℕ) → i < j → (choice : List Interval) → IsOdd choice → OddMeet (event Interior (i, j) ∷ choice)
odd_more i j l [] h = record { low = i; high = j - 1; low_is = omega arith; high_is = omega arith }
odd_more i j l (y ∷ ys) h = record {
  low = max i h.low;
  high = min (j - 1) h.high;
  low_is = omega (arith, h.low_is);
  high_is = omega (arith, h.high_is, least_swap y.high (2 * j - 1) ys);
}

pub odds : (T : List (List Sym)) (es : List Event) → has_edge_type es ≡ false
    → AllByRecursion IsOdd (choices (map (events T) es))
odds T [] h = (tt, tt)
odds T (e ∷ es) h = all_flat IsOdd (events T e) (choices (map (events T) es)) (by_part e.part h (odds T es))
  where
    by_part : (part : Part) → (is_edge_part part || has_edge_type es) ≡ false
        → (has_edge_type es ≡ false → AllByRecursion IsOdd (choices (map (events T) es)))
        → AllByRecursion (λ x. AllByRecursion (λ choice. OddMeet (x ∷ choice)) (choices (map (events T) es)))
        (map (event part) (constituents (tier_word T e.tier)))
    by_part StartOf g rest = absurd (false≢true (sym g))
    by_part EndOf g rest = absurd (false≢true (sym g))
    by_part Interior g rest = all_map _ (event Interior) (constituents (tier_word T e.tier))
        (all_weaker _ _ _ (λ c a. all_weaker IsOdd _ _ (λ choice p. odd_more c.0 c.1 a.1 choice p) (rest g))
        (constituents_late 0 (tier_word T e.tier)))

pub filled : (T : List (List Sym)) (es : List Event) → AreSome es
    → AllByRecursion IsFilled (choices (map (events T) es))
filled T [] h = absurd h
filled T (e ∷ es) h = all_flat IsFilled (events T e) (choices (map (events T) es))
    (all_of _ _ (λ x. all_of _ _ (λ choice. tt)))

odd_test : (l h p q k : ℕ) → l ≡ 2 * p + 1 → h ≡ 2 * q + 1
    → bit (leb l (2 * k - 1) && leb (2 * k - 1) h) ≡ bit (leb l h && is_at k h) + bit (leb l (2 * k) && leb (2 * k) h)
odd_test l h p q k a b = grind (arith, nat_tests)

-- whether a type's tier is open after n columns
abbrev pub open_before : List (List Sym) → ℕ → Event → Bool
open_before T n e = open_at false (tier_word T e.tier) n

pub open_event : (width : ℕ) (T : List (List Sym)) → IsWellFormed width T → (k : ℕ) (e : Event) → e.tier < width
    → is_edge_part e.part ≡ false
    → count_by (contains (2 * k - 1)) (events T e) ≡ bit (open_before T k e)
open_event width T wf k e t i = by_part e.part i
  where
    by_part : (part : Part) → is_edge_part part ≡ false
        → count_by (contains (2 * k - 1)) (map (event part) (constituents (tier_word T e.tier)))
        ≡ bit (open_at false (tier_word T e.tier) k)
    by_part StartOf g = absurd (false≢true (sym g))
    by_part EndOf g = absurd (false≢true (sym g))
    by_part Interior g = interior_before (tier_word T e.tier)
        (runs_from_well_formed (tier_word T e.tier) (wf.each_tier e.tier t)) k

pub interiors_each : (es : List Event) → has_edge_type es ≡ false → AllByRecursion (λ e. is_edge_part e.part ≡ false) es
interiors_each [] h = tt
interiors_each (e ∷ es) h = (first (is_edge_part e.part) h, interiors_each es (rest (is_edge_part e.part) h))
  where
    first : (b : Bool) → (b || has_edge_type es) ≡ false → b ≡ false
    first true g = g
    first false g = refl

    rest : (b : Bool) → (b || has_edge_type es) ≡ false → has_edge_type es ≡ false
    rest true g = absurd (false≢true (sym g))
    rest false g = g

module _ (width : ℕ) (T : List (List Sym)) (wf : IsWellFormed width T) (k : ℕ) (l : k < length T) where
  pub all_open : (es : List Event) → AreTiersBelow width es → has_edge_type es ≡ false
      → count_by (list_all (contains (2 * k - 1))) (choices (map (events T) es)) ≡ bit (list_all (open_before T k) es)
  all_open es t i = count_choices (contains (2 * k - 1)) (open_before T k) (events T) es
      (all_weaker (λ e. (e.tier < width) × (is_edge_part e.part ≡ false)) _ es
      (λ e b. open_event width T wf k e b.0 b.1) (all_both _ _ es t (interiors_each es i)))

  ends_at_place : (choice : List Interval) → IsFilled choice × IsOdd choice
      → bit (list_all (contains (2 * k - 1)) choice)
      ≡ bit (is_there (meet choice) && is_at k (meet choice).high) + bit (list_all (contains (2 * k)) choice)
  ends_at_place [] h = absurd h.0
  ends_at_place (x ∷ xs) h =
      ap bit (meet_contains (2 * k - 1) x xs)
      ∙ odd_test (greatest_low (x ∷ xs)) (least_high (x ∷ xs)) h.1.low h.1.high k h.1.low_is h.1.high_is
      ∙ ap (λ b. bit (is_there (meet (x ∷ xs)) && is_at k (meet (x ∷ xs)).high) + bit b)
      (sym (meet_contains (2 * k) x xs))

  -- the choices whose meet ends just before column k
  pub ends_before : (es : List Event) → AreSome es → AreTiersBelow width es → has_edge_type es ≡ false
      → bit (list_all (open_before T k) es)
      ≡ count_by (λ choice. is_there (meet choice) && is_at k (meet choice).high) (choices (map (events T) es)) + bit
      (list_all (is_present (get_or T k [])) es)
  ends_before es s t i =
      let split : count_by (list_all (contains (2 * k - 1))) (choices (map (events T) es))
      ≡ count_by (λ choice. is_there (meet choice) && is_at k (meet choice).high)
      (choices (map (events T) es)) + count_by (list_all (contains (2 * k))) (choices (map (events T) es)) =
      count_split _ _ _ (choices (map (events T) es))
      (all_weaker (λ choice. IsFilled choice × IsOdd choice) _ _ ends_at_place
      (all_both _ _ _ (filled T es s) (odds T es i))) in
      omega (arith, split, all_open es t i, all_present width T wf k l es t)
