-- Whether a stretch is met, from one column to the next.
use Rattle.std.proofs.Common.{◌≡◌, ℕ, zero, suc, ◌+◌, ◌*◌, ◌-◌, ◌<◌, ◌≤◌, min, max, Bool, true, false, not, ◌&&◌}
use Rattle.std.proofs.Common.{◌||◌, leb, List, [], ◌∷◌, map, length, get_or, refl, sym, ap, ◌∙◌, arith}
use Rattle.std.proofs.{lemmas.List.get_or-map, lemmas.Bool.Decides.nat_tests}
use Rattle.std.specs.List.{AllByRecursion, list_any}
use Rattle.tier_core.specs.{declared.sym.Sym.Sym, declared.sym.Sym.TheVariants.Outside, declared.event.Event.Event}
use Rattle.tier_core.specs.declared.event.Part.{Part}
use Rattle.tier_core.specs.declared.event.Part.TheVariants.{Start as StartOf, End as EndOf, Interior}
use Rattle.tier_core.specs.{Events.{event, events, meet, is_there}, Scan.opens}
use Rattle.tier_core.specs.{Timelines.{tier_word, symbol, IsWellFormed}, Words.constituents}
use Rattle.tier_core.specs.Sides.{is_edge_part, edge_among}
use Rattle.tier_core.proofs.CountLemmas.{bit, all_weaker, all_of, any_from_count, any_none}
use Rattle.tier_core.proofs.{WordForm.runs_from_well_formed, WordLemmas.{open_at, constituents_late}}
use Rattle.violation.specs.{Columns.{is_present, opens_interior}, Conditions.AreTiersBelow, Counts.is_met}
use Rattle.violation.specs.Prefixes.{last_where}
use Rattle.violation.proofs.{ChoiceLemmas.all_map, EdgeSteps.{any_agree, at_point, met_at_point, meets_point}}
use Rattle.violation.proofs.{EventCounts.interior_before, InteriorSteps.open_before, MeetLemmas.contains}
use Rattle.violation.proofs.{OpenSteps.stretch, StretchSteps.last_below}

event_ordered : (part : Part) (i j : ℕ) → i < j → (event part (i, j)).low ≤ (event part (i, j)).high
event_ordered StartOf i j l = omega arith
event_ordered EndOf i j l = omega arith
event_ordered Interior i j l = omega arith

events_ordered : (T : List (List Sym)) (e : Event) → AllByRecursion (λ x. x.low ≤ x.high) (events T e)
events_ordered T e =
    all_map (λ x. x.low ≤ x.high) (event e.part) (constituents (tier_word T e.tier))
    (all_weaker _ _ _ (λ c a. event_ordered e.part c.0 c.1 a.1) (constituents_late 0 (tier_word T e.tier)))

meets_next : (a b lo hi : ℕ) → lo ≤ hi → a ≤ suc b
    → leb (max a (max lo 0)) (min hi (suc b))
    ≡ (leb (max a (max lo 0)) (min hi b) || leb (max (suc b) (max lo 0)) (min hi (suc b)))
meets_next a b lo hi l g = grind (arith, nat_tests)

any_or : {X : Type 0} (p q : X → Bool) (xs : List X) → list_any (λ x. p x || q x) xs ≡ (list_any p xs || list_any q xs)
any_or p q [] = refl
any_or p q (x ∷ xs) = ap (λ b. (p x || q x) || b) (any_or p q xs) ∙ swap (p x) (q x) (list_any p xs) (list_any q xs)
  where
    swap : (a b c d : Bool) → ((a || b) || (c || d)) ≡ ((a || c) || (b || d))
    swap true b c d = refl
    swap false true true d = refl
    swap false true false d = refl
    swap false false true d = refl
    swap false false false d = refl

-- a span that grows by one point is met where it was, or at that point
met_next : (T : List (List Sym)) (right : List Event) (a b : ℕ) → a ≤ suc b
    → is_met T right (record { low = a; high = suc b })
    ≡ (is_met T right (record { low = a; high = b }) || is_met T right (at_point (suc b)))
met_next T right a b g =
    any_agree _ (λ e. list_any (λ x. is_there (meet (record { low = a; high = b } ∷ x ∷ []))) (events T e) || list_any
    (λ x. is_there (meet (at_point (suc b) ∷ x ∷ []))) (events T e)) right
    (all_of _ right (λ e.
    any_agree _ (λ x. is_there (meet (record { low = a; high = b } ∷ x ∷ [])) || is_there
    (meet (at_point (suc b) ∷ x ∷ []))) (events T e)
    (all_weaker (λ x. x.low ≤ x.high) _ (events T e) (λ x o. meets_next a b x.low x.high o g) (events_ordered T e))
    ∙ any_or _ _ (events T e)))
    ∙ any_or _ _ right

open_next : (b : Bool) (w : List Sym) (k : ℕ) → open_at b w (suc k) ≡ opens (get_or w k Outside)
open_next b [] k = refl
open_next b (s ∷ w) zero = refl
open_next b (s ∷ w) (suc k) = open_next (opens s) w k

edge_between : (i k : ℕ) → (leb (2 * i) (2 * suc k - 1) && leb (2 * suc k - 1) (2 * i)) ≡ false
edge_between i k = grind (arith, nat_tests)

module _ (width : ℕ) (T : List (List Sym)) (wf : IsWellFormed width T) (k : ℕ) (l : k < length T) where
  pub open_after_column : (e : Event) → open_before T (suc k) e ≡ opens (symbol (get_or T k []) e.tier)
  open_after_column e = open_next false (tier_word T e.tier) k
      ∙ ap opens (get_or-map (λ column. symbol column e.tier) T k [] Outside l)

  any_between : (e : Event) → e.tier < width
      → list_any (contains (2 * suc k - 1)) (events T e) ≡ opens_interior (get_or T k []) e
  any_between e t = by_part e.part
    where
      by_part : (part : Part) → list_any (contains (2 * suc k - 1))
          (map (event part) (constituents (tier_word T e.tier)))
          ≡ (not (is_edge_part part) && opens (symbol (get_or T k []) e.tier))
      by_part StartOf = any_none _ _ (all_map (λ x. contains (2 * suc k - 1) x ≡ false) (event StartOf)
          (constituents (tier_word T e.tier)) (all_of _ _ (λ c. edge_between c.0 k)))
      by_part EndOf = any_none _ _ (all_map (λ x. contains (2 * suc k - 1) x ≡ false) (event EndOf)
          (constituents (tier_word T e.tier)) (all_of _ _ (λ c. edge_between c.1 k)))
      by_part Interior = any_from_count (contains (2 * suc k - 1)) _ (opens (symbol (get_or T k []) e.tier))
          (interior_before (tier_word T e.tier) (runs_from_well_formed (tier_word T e.tier) (wf.each_tier e.tier t))
          (suc k)
          ∙ ap bit (open_after_column e))

  met_between : (right : List Event) → AreTiersBelow width right
      → is_met T right (at_point (2 * suc k - 1)) ≡ list_any (opens_interior (get_or T k [])) right
  met_between right t =
      any_agree (λ e. list_any (λ x. is_there (meet (at_point (2 * suc k - 1) ∷ x ∷ []))) (events T e))
      (opens_interior (get_or T k [])) right
      (all_weaker (λ e. e.tier < width) _ right
      (λ e b.
      any_agree (λ x. is_there (meet (at_point (2 * suc k - 1) ∷ x ∷ []))) (contains (2 * suc k - 1)) (events T e)
      (all_of _ (events T e) (λ x. meets_point (2 * suc k - 1) x.low x.high))
      ∙ any_between e b)
      t)

  -- a stretch begins at column k
  pub met_begins : (left right : List Event) → AreTiersBelow width right → edge_among left (get_or T k []) ≡ true
      → is_met T right (stretch T left (suc k)) ≡ list_any (opens_interior (get_or T k [])) right
  met_begins left right t e =
      let start : last_where (edge_among left) T (suc k) ≡ k = rw e refl in
      let low : 2 * last_where (edge_among left) T (suc k) + 1 ≡ 2 * suc k - 1 = omega (arith, start) in
      ap (λ (a : ℕ). is_met T right (record { low = a; high = 2 * suc k - 1 })) low ∙ met_between right t

  -- a stretch goes on at column k
  pub met_goes_on : (left right : List Event) → AreTiersBelow width right → 0 < k
      → edge_among left (get_or T k []) ≡ false
      → is_met T right (stretch T left (suc k))
      ≡ ((is_met T right (stretch T left k) || list_any (is_present (get_or T k [])) right) || list_any
      (opens_interior (get_or T k [])) right)
  met_goes_on left right t g e =
      let start : last_where (edge_among left) T (suc k) ≡ last_where (edge_among left) T k = rw e refl in
      let below : last_where (edge_among left) T k < k = last_below (edge_among left) T k g in
      let one : 2 * suc k - 1 ≡ suc (2 * k) = omega arith in
      let two : 2 * k ≡ suc (2 * k - 1) = omega arith in
      ap (λ (a : ℕ). is_met T right (record { low = 2 * a + 1; high = 2 * suc k - 1 })) start
      ∙ ap (λ (b : ℕ). is_met T right (record { low = 2 * last_where (edge_among left) T k + 1; high = b })) one
      ∙ met_next T right (2 * last_where (edge_among left) T k + 1) (2 * k) (omega arith)
      ∙ ap (λ (b : ℕ). is_met T right (record
      { low = 2 * last_where (edge_among left) T k + 1; high = 2 * k }) || is_met T right (at_point b)) (sym one)
      ∙ ap (λ b. is_met T right (record { low = 2 * last_where (edge_among left) T k + 1; high = 2 * k }) || b)
      (met_between right t)
      ∙ ap (λ (b : ℕ). is_met T right (record
      { low = 2 * last_where (edge_among left) T k + 1; high = b }) || list_any
      (opens_interior (get_or T k [])) right) two
      ∙ ap (λ b. b || list_any (opens_interior (get_or T k [])) right)
      (met_next T right (2 * last_where (edge_among left) T k + 1) (2 * k - 1) (omega arith)
      ∙ ap (λ (b : ℕ). is_met T right (stretch T left k) || is_met T right (at_point b)) (sym two)
      ∙ ap (λ b. is_met T right (stretch T left k) || b) (met_at_point width T wf k l right t))
