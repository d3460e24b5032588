-- Choices that have an edge among them are decided by one column.
use Rattle.std.proofs.Common.{◌≡◌, ℕ, suc, ◌+◌, ◌*◌, ◌-◌, ◌<◌, ◌≤◌, min, max, Bool, true, not, ◌&&◌, ◌||◌, leb, ltb}
use Rattle.std.proofs.Common.{List, [], ◌∷◌, ◌++◌, map, length, get_or, refl, sym, ap, ◌∙◌, arith}
use Rattle.std.proofs.{lemmas.Bool.false≢true, lemmas.Bool.Decides.nat_tests}
use Rattle.std.specs.{Prelude.count_by, List.{AllByRecursion, list_all, list_any}}
use Rattle.tier_core.specs.{declared.sym.Sym.Sym, declared.event.Event.Event, declared.event.Part.Part}
use Rattle.tier_core.specs.declared.event.Part.TheVariants.{Start as StartOf, End as EndOf, Interior}
use Rattle.tier_core.specs.declared.constraint.Family.{Family}
use Rattle.tier_core.specs.declared.constraint.Family.TheVariants.{Implication, Clash}
use Rattle.tier_core.specs.Events.{Interval, event, events, greatest_low, least_high, meet, is_there}
use Rattle.tier_core.specs.{Timelines.{tier_word, IsWellFormed}, Words.constituents}
use Rattle.tier_core.specs.Sides.{is_edge_part, has_edge_type}
use Rattle.tier_core.proofs.CountLemmas.{bit, count_agree, count_split, all_weaker, all_of}
use Rattle.violation.specs.{Columns.{is_present, edge_cost}, Conditions.AreTiersBelow}
use Rattle.violation.specs.Counts.{choices, choice_types, counts, is_met, so_far}
use Rattle.violation.proofs.ChoiceLemmas.{all_flat, all_map, count_choices, count_where}
use Rattle.violation.proofs.EventCounts.{event_at, any_event_at}
use Rattle.violation.proofs.MeetLemmas.{contains, meet_contains, least_from_le, least_from_le_other}

abbrev pub IsFilled : List Interval → Type 0
IsFilled [] = ⊥
IsFilled (x ∷ xs) = Unit {0}

-- the meet of a choice with an edge is that edge's point, or is not there
pub record HasPoint (choice : List Interval) : Type 0 where
  pub filled : IsFilled choice
  pub point : ℕ
  pub above : 2 * point ≤ greatest_low choice
  pub below : least_high choice ≤ 2 * point

point_first : (p : ℕ) (choice : List Interval) → HasPoint (record { low = 2 * p; high = 2 * p } ∷ choice)
point_first p choice = record { filled = tt; point = p; above = omega arith; below = least_from_le (2 * p) choice }

point_rest : (x : Interval) (choice : List Interval) → HasPoint choice → HasPoint (x ∷ choice)
point_rest x [] h = absurd h.filled
point_rest x (y ∷ ys) h = record {
  filled = tt;
  point = h.point;
  above = omega (arith, h.above);
  below = omega (arith, h.below, least_from_le_other y.high x.high ys);
}

pub points : (T : List (List Sym)) (es : List Event) → has_edge_type es ≡ true
    → AllByRecursion HasPoint (choices (map (events T) es))
points T [] h = absurd (false≢true h)
points T (e ∷ es) h = all_flat HasPoint (events T e) (choices (map (events T) es)) (by_part e.part h (points T es))
  where
    by_part : (part : Part) → (is_edge_part part || has_edge_type es) ≡ true
        → (has_edge_type es ≡ true → AllByRecursion HasPoint (choices (map (events T) es)))
        → AllByRecursion (λ x. AllByRecursion (λ choice. HasPoint (x ∷ choice)) (choices (map (events T) es)))
        (map (event part) (constituents (tier_word T e.tier)))
    by_part StartOf g rest = all_map _ (event StartOf) (constituents (tier_word T e.tier))
        (all_of _ _ (λ c. all_of _ _ (λ choice. point_first c.0 choice)))
    by_part EndOf g rest = all_map _ (event EndOf) (constituents (tier_word T e.tier))
        (all_of _ _ (λ c. all_of _ _ (λ choice. point_first c.1 choice)))
    by_part Interior g rest = all_map _ (event Interior) (constituents (tier_word T e.tier))
        (all_of _ _ (λ c. all_weaker HasPoint _ _ (λ choice p. point_rest (event Interior c) choice p) (rest g)))

-- whether the meet's high end is at column k: at its point, or just before it
abbrev pub is_at : ℕ → ℕ → Bool
is_at k high = leb (2 * k - 1) high && ltb high (2 * suc k - 1)

point_test : (l h p k : ℕ) (r s : Bool) → 2 * p ≤ l → h ≤ 2 * p → (l ≡ 2 * k → h ≡ 2 * k → r ≡ s)
    → ((leb l h && r) && is_at k h) ≡ ((leb l (2 * k) && leb (2 * k) h) && s)
point_test l h p k r s a b e = grind (arith, nat_tests)

so_far_split : (counted : Bool) (k high : ℕ)
    → bit (counted && ltb high (2 * suc k - 1)) ≡ bit (counted && ltb high (2 * k - 1)) + bit (counted && is_at k high)
so_far_split counted k high = grind (arith, nat_tests)

point_test_alone : (l h p k : ℕ) → 2 * p ≤ l → h ≤ 2 * p → (leb l h && is_at k h) ≡ (leb l (2 * k) && leb (2 * k) h)
point_test_alone l h p k a b = grind (arith, nat_tests)

pub any_agree : {X : Type 0} (p q : X → Bool) (xs : List X) → AllByRecursion (λ x. p x ≡ q x) xs
    → list_any p xs ≡ list_any q xs
any_agree p q [] h = refl
any_agree p q (x ∷ xs) h = ap (λ b. b || list_any p xs) h.0 ∙ ap (λ b. q x || b) (any_agree p q xs h.1)

pub meets_point : (h lo hi : ℕ) → leb (max h (max lo 0)) (min hi h) ≡ (leb lo h && leb h hi)
meets_point h lo hi = grind (arith, nat_tests)

abbrev pub at_point : ℕ → Interval
at_point h = record { low = h; high = h }

module _ (width : ℕ) (T : List (List Sym)) (wf : IsWellFormed width T) (k : ℕ) (l : k < length T) where
  pub met_at_point : (right : List Event) → AreTiersBelow width right
      → is_met T right (at_point (2 * k)) ≡ list_any (is_present (get_or T k [])) right
  met_at_point right t =
      any_agree (λ e. list_any (λ x. is_there (meet (at_point (2 * k) ∷ x ∷ []))) (events T e))
      (is_present (get_or T k [])) right
      (all_weaker (λ e. e.tier < width) _ right
      (λ e b.
      any_agree (λ x. is_there (meet (at_point (2 * k) ∷ x ∷ []))) (contains (2 * k)) (events T e)
      (all_of _ (events T e) (λ x. meets_point (2 * k) x.low x.high))
      ∙ any_event_at width T wf k l e b)
      t)

  pub all_present : (es : List Event) → AreTiersBelow width es
      → count_by (list_all (contains (2 * k))) (choices (map (events T) es))
      ≡ bit (list_all (is_present (get_or T k [])) es)
  all_present es t = count_choices (contains (2 * k)) (is_present (get_or T k [])) (events T) es
      (all_weaker (λ e. e.tier < width) _ es (λ e b. event_at width T wf k l e b) t)

  clash_at : (choice : List Interval) → HasPoint choice
      → (is_there (meet choice) && is_at k (meet choice).high) ≡ list_all (contains (2 * k)) choice
  clash_at [] h = absurd h.filled
  clash_at (x ∷ xs) h =
      point_test_alone (greatest_low (x ∷ xs)) (least_high (x ∷ xs)) h.point k h.above h.below
      ∙ sym (meet_contains (2 * k) x xs)

  implication_at : (right : List Event) → AreTiersBelow width right → (choice : List Interval) → HasPoint choice
      → ((is_there (meet choice) && not (is_met T right (meet choice))) && is_at k (meet choice).high)
      ≡ (list_all (contains (2 * k)) choice && not (list_any (is_present (get_or T k [])) right))
  implication_at right t [] h = absurd h.filled
  implication_at right t (x ∷ xs) h =
      point_test (greatest_low (x ∷ xs)) (least_high (x ∷ xs)) h.point k (not (is_met T right (meet (x ∷ xs))))
      (not (list_any (is_present (get_or T k [])) right)) h.above h.below
      (λ low high. ap not (ap (λ (b : ℕ × ℕ). is_met T right (record { low = b.0; high = b.1 })) (pair low high)
      ∙ met_at_point right t))
      ∙ ap (λ b. b && not (list_any (is_present (get_or T k [])) right)) (sym (meet_contains (2 * k) x xs))
    where
      pair : {a b c d : ℕ} → a ≡ c → b ≡ d → Path (ℕ × ℕ) (a, b) (c, d)
      pair e f = cc

  pub edge_at : (family : Family) (left right : List Event) → AreTiersBelow width left → AreTiersBelow width right
      → AreTiersBelow width (choice_types family left right)
      → has_edge_type (choice_types family left right) ≡ true
      → count_by (λ choice. counts family right T choice && is_at k (meet choice).high)
      (choices (map (events T) (choice_types family left right)))
      ≡ bit (edge_cost family left right (get_or T k []))
  edge_at Clash left right a b t e =
      count_agree _ (list_all (contains (2 * k))) _
      (all_weaker HasPoint _ _ (λ choice h. clash_at choice h) (points T (left ++ right) e))
      ∙ all_present (left ++ right) t
  edge_at Implication left right a b t e =
      count_agree _ (λ choice. list_all (contains (2 * k)) choice && not
      (list_any (is_present (get_or T k [])) right)) _
      (all_weaker HasPoint _ _ (λ choice h. implication_at right b choice h) (points T left e))
      ∙ count_where (list_all (contains (2 * k))) (not (list_any (is_present (get_or T k [])) right))
      (choices (map (events T) left)) (list_all (is_present (get_or T k [])) left) (all_present left a)

-- what is counted up to column k, and at column k
pub step_count : (family : Family) (left right : List Event) (T : List (List Sym)) (k : ℕ)
    → so_far family left right T (suc k) ≡ so_far family left right T k
    + count_by (λ choice. counts family right T choice && is_at k (meet choice).high)
    (choices (map (events T) (choice_types family left right)))
unfolding so_far
step_count family left right T k =
    count_split _ _ _ (choices (map (events T) (choice_types family left right)))
    (all_of _ _ (λ choice. so_far_split (counts family right T choice) k (meet choice).high))
