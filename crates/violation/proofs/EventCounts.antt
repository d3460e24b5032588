-- How many events of a type contain a point of doubled time.
use Rattle.std.proofs.Common.{◌≡◌, ℕ, ◌+◌, ◌*◌, ◌-◌, ◌<◌, true, false, ◌&&◌, leb, ltb, eqb, List, [], map, length}
use Rattle.std.proofs.{Common.{get_or, ap, ◌∙◌, arith}, lemmas.List.get_or-map, lemmas.Bool.Decides.nat_tests}
use Rattle.std.specs.{Prelude.count_by, List.list_any}
use Rattle.tier_core.specs.{declared.sym.Sym.Sym, declared.sym.Sym.TheVariants.Outside, declared.event.Event.Event}
use Rattle.tier_core.specs.declared.event.Part.{Part}
use Rattle.tier_core.specs.declared.event.Part.TheVariants.{Start as StartOf, End as EndOf, Interior}
use Rattle.tier_core.specs.{Events.{event, events}, Timelines.{tier_word, symbol, IsWellFormed}, Words.constituents}
use Rattle.tier_core.proofs.CountLemmas.{bit, count_map, count_agree, all_weaker, all_of, any_from_count}
use Rattle.tier_core.proofs.WordCounts.{covers, start_at, end_at, inside_at, open_after}
use Rattle.tier_core.proofs.{WordForm.runs_from_well_formed, WordLemmas.{runs, open_at, constituents_late}}
use Rattle.violation.specs.Columns.{is_present, part_present}
use Rattle.violation.proofs.MeetLemmas.{contains}

edge_point : (i k : ℕ) → (leb (2 * i) (2 * k) && leb (2 * k) (2 * i)) ≡ eqb i k
edge_point i k = grind (arith, nat_tests)

inside_point : (i j k : ℕ) → i < j → (leb (2 * i + 1) (2 * k) && leb (2 * k) (2 * j - 1)) ≡ (ltb i k && ltb k j)
inside_point i j k l = grind (arith, nat_tests)

pub between_point : (i j k : ℕ) → i < j → (leb (2 * i + 1) (2 * k - 1) && leb (2 * k - 1) (2 * j - 1))
    ≡ (ltb i k && leb k j)
between_point i j k l = grind (arith, nat_tests)

module _ (w : List Sym) (r : runs false w ≡ true) (k : ℕ) where
  pub part_at : (part : Part) → count_by (contains (2 * k)) (map (event part) (constituents w))
      ≡ bit (part_present part (get_or w k Outside))
  part_at StartOf =
      count_map (contains (2 * k)) (event StartOf) (constituents w)
      ∙ count_agree _ (λ c. eqb c.0 k) (constituents w) (all_of _ (constituents w) (λ c. edge_point c.0 k))
      ∙ start_at w r k
  part_at EndOf =
      count_map (contains (2 * k)) (event EndOf) (constituents w)
      ∙ count_agree _ (λ c. eqb c.1 k) (constituents w) (all_of _ (constituents w) (λ c. edge_point c.1 k))
      ∙ end_at w r k
  part_at Interior =
      count_map (contains (2 * k)) (event Interior) (constituents w)
      ∙ count_agree _ (λ c. ltb c.0 k && ltb k c.1) (constituents w)
      (all_weaker _ _ _ (λ c a. inside_point c.0 c.1 k a.1) (constituents_late 0 w))
      ∙ inside_at w r k

  pub interior_before : count_by (contains (2 * k - 1)) (map (event Interior) (constituents w))
      ≡ bit (open_at false w k)
  interior_before =
      count_map (contains (2 * k - 1)) (event Interior) (constituents w)
      ∙ count_agree _ (covers k) (constituents w)
      (all_weaker _ _ _ (λ c a. between_point c.0 c.1 k a.1) (constituents_late 0 w))
      ∙ open_after w r k

module _ (width : ℕ) (T : List (List Sym)) (wf : IsWellFormed width T) (k : ℕ) (l : k < length T) where
  -- the events of a type at column k, which are one or none
  pub event_at : (e : Event) → e.tier < width
      → count_by (contains (2 * k)) (events T e) ≡ bit (is_present (get_or T k []) e)
  event_at e t =
      part_at (tier_word T e.tier) (runs_from_well_formed (tier_word T e.tier) (wf.each_tier e.tier t)) k e.part
      ∙ ap (λ s. bit (part_present e.part s)) (get_or-map (λ column. symbol column e.tier) T k [] Outside l)

  pub any_event_at : (e : Event) → e.tier < width
      → list_any (contains (2 * k)) (events T e) ≡ is_present (get_or T k []) e
  any_event_at e t = any_from_count (contains (2 * k)) (events T e) (is_present (get_or T k []) e) (event_at e t)
