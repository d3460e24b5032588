-- The kind of a prefix, read from the whole timeline.
use Rattle.std.proofs.Common.{◌≡◌, ℕ, zero, suc, ◌+◌, ◌*◌, ◌-◌, ◌<◌, ◌≤◌, min, max, Bool, true, false, ◌||◌, cond}
use Rattle.std.proofs.Common.{leb, ltb, List, [], ◌∷◌, ◌++◌, map, take, length, get_or, Option, Some, None, refl}
use Rattle.std.proofs.{Common.{sym, ap, ◌∙◌, ⊎_elim, arith}, lemmas.List.{get_or-take, length-take-le, length-map}}
use Rattle.std.proofs.lemmas.List.Folds.{list_any-append}
use Rattle.std.proofs.{lemmas.Bool.{cases_lt, false≢true, and_parts, lt-ltb, le-ltb}, lemmas.Bool.Decides.nat_tests}
use Rattle.std.specs.{Prelude.is_some, List.{AllByRecursion, list_all, list_any, flat_map}}
use Rattle.tier_core.specs.{declared.sym.Sym.Sym, declared.sym.Sym.TheVariants.{Outside, Inside, Start, End, Both}}
use Rattle.tier_core.specs.{declared.event.Event.Event, declared.event.Part.Part}
use Rattle.tier_core.specs.declared.event.Part.TheVariants.{Start as StartOf, End as EndOf, Interior}
use Rattle.tier_core.specs.{Events.{Interval, event, meet, is_there}, Kinds.{closed, unmet, met}, Scan.{fits, opens}}
use Rattle.tier_core.specs.Timelines.{tier_word, symbol, IsWellFormed}
use Rattle.tier_core.specs.{Words.{constituents_from, starts, next_end, pair_to}, Sides.edge_among}
use Rattle.tier_core.proofs.{CountLemmas.{all_weaker, any_none}, WordForm.runs_from_well_formed}
use Rattle.tier_core.proofs.WordLemmas.{runs, open_at, constituents_late, next_end_late, runs_end}
use Rattle.violation.specs.{Conditions.AreTiersBelow, Counts.is_met}
use Rattle.violation.specs.Prefixes.{last_where, is_open, begun_from, event_begun, is_met_in, phase}
use Rattle.violation.proofs.{ChoiceLemmas.all_map, CountSteps.all_agree, EdgeSteps.any_agree}
use Rattle.violation.proofs.{InteriorSteps.open_before, OpenSteps.stretch, OpenLemmas.{prefix_open, take_word}}

abbrev cut : ℕ → Option ℕ → Option ℕ
cut n None = None
cut n (Some j) = cond (ltb j n) (Some j) None

cut_late : (n i : ℕ) (w : List Sym) → n ≤ i → cut n (next_end i w) ≡ None
cut_late n i [] l = refl
cut_late n i (Outside ∷ w) l = cut_late n (suc i) w (omega arith)
cut_late n i (Inside ∷ w) l = cut_late n (suc i) w (omega arith)
cut_late n i (Start ∷ w) l = cut_late n (suc i) w (omega arith)
cut_late n i (End ∷ w) l = rw (le-ltb i n l) refl
cut_late n i (Both ∷ w) l = rw (le-ltb i n l) refl

-- the ends that are found in a prefix
next_end_take : (n i q : ℕ) (w : List Sym) → n ≡ i + q → next_end i (take q w) ≡ cut n (next_end i w)
next_end_take n i zero w e = sym (cut_late n i w (omega arith))
next_end_take n i (suc q) [] e = refl
next_end_take n i (suc q) (Outside ∷ w) e = next_end_take n (suc i) q w (omega arith)
next_end_take n i (suc q) (Inside ∷ w) e = next_end_take n (suc i) q w (omega arith)
next_end_take n i (suc q) (Start ∷ w) e = next_end_take n (suc i) q w (omega arith)
next_end_take n i (suc q) (End ∷ w) e = let l : i < n = omega arith in rw (lt-ltb i n l) refl
next_end_take n i (suc q) (Both ∷ w) e = let l : i < n = omega arith in rw (lt-ltb i n l) refl

abbrev span : ℕ → ℕ → Interval
span a n = record { low = a; high = 2 * n - 1 }

abbrev meets : ℕ → ℕ → Interval → Bool
meets a n x = is_there (meet (span a n ∷ x ∷ []))

late_point : (a n p : ℕ) → n ≤ p → 1 ≤ a → leb (max a (max (2 * p) 0)) (min (2 * p) (2 * n - 1)) ≡ false
late_point a n p l g = grind (arith, nat_tests)

late_interior : (a n i j : ℕ) → n ≤ i → 1 ≤ a → leb (max a (max (2 * i + 1) 0)) (min (2 * j - 1) (2 * n - 1)) ≡ false
late_interior a n i j l g = grind (arith, nat_tests)

-- what starts after n columns does not meet them
late_misses : (part : Part) (a n i j : ℕ) → n ≤ i → i < j → 1 ≤ a → meets a n (event part (i, j)) ≡ false
late_misses StartOf a n i j l h g = late_point a n i l g
late_misses EndOf a n i j l h g = late_point a n j (omega arith) g
late_misses Interior a n i j l h g = late_interior a n i j l g

open_interior : (a n i j : ℕ) → n ≤ j → leb (max a (max (2 * i + 1) 0)) (min (2 * n - 1) (2 * n - 1))
    ≡ leb (max a (max (2 * i + 1) 0)) (min (2 * j - 1) (2 * n - 1))
open_interior a n i j l = grind (arith, nat_tests)

-- an event in the prefix meets them exactly where the whole one does
cut_meets : (part : Part) (a n i j : ℕ) → i < j → 1 ≤ a
    → list_any (meets a n) (event_begun n part (i, cut n (Some j))) ≡ (meets a n (event part (i, j)) || false)
cut_meets StartOf a n i j h g = refl
cut_meets EndOf a n i j h g = ⊎_elim
    (λ l. rw (lt-ltb j n l) refl)
    (λ l. rw (le-ltb j n l) (sym (ap (λ b. b || false) (late_point a n j l g))))
    (cases_lt j n)
cut_meets Interior a n i j h g = ⊎_elim
    (λ l. rw (lt-ltb j n l) refl)
    (λ l. rw (le-ltb j n l) (ap (λ b. b || false) (open_interior a n i j l)))
    (cases_lt j n)

own_meets : (part : Part) (a n i : ℕ) (o : Option ℕ) → is_some o ≡ true
    → AllByRecursion (λ c. (c.0 ≡ i) × (suc i ≤ c.1)) (pair_to i o) → 1 ≤ a
    → list_any (meets a n) (event_begun n part (i, cut n o)) ≡ list_any (meets a n) (map (event part) (pair_to i o))
own_meets part a n i None s h g = absurd (false≢true s)
own_meets part a n i (Some j) s h g = cut_meets part a n i j (omega (arith, h.0.1)) g

map_append : {X Y : Type 0} (f : X → Y) (xs ys : List X) → map f (xs ++ ys) ≡ map f xs ++ map f ys
map_append f [] ys = refl
map_append f (x ∷ xs) ys = ap (λ zs. f x ∷ zs) (map_append f xs ys)

prefix_meets : (part : Part) (a n : ℕ) → 1 ≤ a → (b : Bool) (i q : ℕ) (w : List Sym) → n ≡ i + q → runs b w ≡ true
    → list_any (meets a n) (flat_map (event_begun n part) (begun_from i (take q w)))
    ≡ list_any (meets a n) (map (event part) (constituents_from i w))
prefix_meets part a n g b i zero w e r =
    sym (any_none (meets a n) _ (all_map (λ x. meets a n x ≡ false) (event part) (constituents_from i w)
    (all_weaker _ _ _ (λ c h. late_misses part a n c.0 c.1 (omega (arith, h.0)) h.1 g) (constituents_late i w))))
prefix_meets part a n g b i (suc q) [] e r = refl
prefix_meets part a n g b i (suc q) (s ∷ w) e r =
    by_symbol s (and_parts (fits b s) (runs (opens s) w) r).1
    (λ c h. prefix_meets part a n g c (suc i) q w (omega arith) h)
  where
    own_start : runs true w ≡ true
        → list_any (meets a n) (flat_map (event_begun n part) (begun_from (suc i) (take q w)))
        ≡ list_any (meets a n) (map (event part) (constituents_from (suc i) w))
        → list_any (meets a n) (event_begun n part (i, next_end (suc i) (take q w))
        ++ flat_map (event_begun n part) (begun_from (suc i) (take q w)))
        ≡ list_any (meets a n) (map (event part) (pair_to i (next_end (suc i) w) ++ constituents_from (suc i) w))
    own_start h rest =
        list_any-append (meets a n) (event_begun n part (i, next_end (suc i) (take q w))) _
        ∙ ap (λ o. list_any (meets a n) (event_begun n part (i, o)) || list_any (meets a n)
        (flat_map (event_begun n part) (begun_from (suc i) (take q w))))
        (next_end_take n (suc i) q w (omega arith))
        ∙ ap (λ b. b || list_any (meets a n) (flat_map (event_begun n part) (begun_from (suc i) (take q w))))
        (own_meets part a n i (next_end (suc i) w) (runs_end (suc i) w h) (next_end_late i (suc i) w (omega arith)) g)
        ∙ ap (λ b. list_any (meets a n) (map (event part) (pair_to i (next_end (suc i) w))) || b) rest
        ∙ sym (list_any-append (meets a n) (map (event part) (pair_to i (next_end (suc i) w)))
        (map (event part) (constituents_from (suc i) w)))
        ∙ ap (list_any (meets a n)) (sym
        (map_append (event part) (pair_to i (next_end (suc i) w)) (constituents_from (suc i) w)))

    by_symbol : (s : Sym) → runs (opens s) w ≡ true
        → ((c : Bool) → runs c w ≡ true → list_any (meets a n)
        (flat_map (event_begun n part) (begun_from (suc i) (take q w)))
        ≡ list_any (meets a n) (map (event part) (constituents_from (suc i) w)))
        → list_any (meets a n) (flat_map (event_begun n part)
        (cond (starts s) ((i, next_end (suc i) (take q w)) ∷ []) [] ++ begun_from (suc i) (take q w)))
        ≡ list_any (meets a n) (map (event part)
        (cond (starts s) (pair_to i (next_end (suc i) w)) [] ++ constituents_from (suc i) w))
    by_symbol Outside h rest = rest false h
    by_symbol Inside h rest = rest true h
    by_symbol End h rest = rest false h
    by_symbol Start h rest = own_start h (rest true h)
    by_symbol Both h rest = own_start h (rest true h)

last_take : (test : List Sym → Bool) (T : List (List Sym)) (m n : ℕ) → n ≤ m
    → last_where test (take m T) n ≡ last_where test T n
last_take test T m zero l = refl
last_take test T m (suc n) l =
    let at : get_or (take m T) n [] ≡ get_or T n [] = get_or-take m T n [] (omega arith) in
    rw (at, last_take test T m n (omega arith)) refl

module _ (width : ℕ) (T : List (List Sym)) (wf : IsWellFormed width T) (n : ℕ) (l : n ≤ length T) where
  length_word : (t : ℕ) → length (tier_word T t) ≡ length T
  length_word t = length-map T (λ column. symbol column t)

  pub open_in_prefix : (t : ℕ) → t < width → is_open (tier_word (take n T) t) ≡ open_at false (tier_word T t) n
  open_in_prefix t g =
      ap is_open (take_word T n t) ∙ prefix_open (tier_word T t) n
      (runs_from_well_formed (tier_word T t) (wf.each_tier t g))
      (omega (arith, length_word t))

  -- the prefix alone tells whether a span that ends with it is met
  pub met_in_prefix : (right : List Event) → AreTiersBelow width right → (a : ℕ) → 1 ≤ a
      → is_met_in (take n T) right (span a n) ≡ is_met T right (span a n)
  met_in_prefix right t a g =
      any_agree _ _ right
      (all_weaker (λ e. e.tier < width) _ right
      (λ e b.
      ap (λ m. list_any (meets a n) (flat_map (event_begun m e.part) (begun_from 0 (tier_word (take n T) e.tier))))
      (length-take-le n T l)
      ∙ ap (λ w. list_any (meets a n) (flat_map (event_begun n e.part) (begun_from 0 w))) (take_word T n e.tier)
      ∙ prefix_meets e.part a n g false 0 n (tier_word T e.tier) (omega arith)
      (runs_from_well_formed (tier_word T e.tier) (wf.each_tier e.tier b)))
      t)

  -- the phase of a prefix, read from the whole timeline
  pub phase_is : (left right : List Event) → AreTiersBelow width left → AreTiersBelow width right
      → phase left right (take n T) ≡ cond (list_all (open_before T n) left)
      (cond (is_met T right (stretch T left n)) met unmet) closed
  phase_is left right a b =
      let size : length (take n T) ≡ n = length-take-le n T l in
      let last : last_where (edge_among left) (take n T) (length (take n T)) ≡ last_where (edge_among left) T n =
      ap (last_where (edge_among left) (take n T)) size ∙ last_take (edge_among left) T n n (omega arith) in
      let open_all : list_all (λ e. is_open (tier_word (take n T) e.tier)) left ≡ list_all (open_before T n) left =
      all_agree _ _ left (all_weaker (λ e. e.tier < width) _ left (λ e h. open_in_prefix e.tier h) a) in
      let met_so : is_met_in (take n T) right
      (span (2 * last_where (edge_among left) (take n T) (length (take n T)) + 1) (length (take n T)))
      ≡ is_met T right (stretch T left n) =
      ap (λ (m : ℕ). is_met_in (take n T) right
      (span (2 * last_where (edge_among left) (take n T) (length (take n T)) + 1) m)) size
      ∙ ap (λ (s : ℕ). is_met_in (take n T) right (span (2 * s + 1) n)) last
      ∙ met_in_prefix right b (2 * last_where (edge_among left) T n + 1) (omega arith) in
      ap (λ c. cond c (cond (is_met_in (take n T) right
      (span (2 * last_where (edge_among left) (take n T) (length (take n T)) + 1)
      (length (take n T)))) met unmet) closed) open_all
      ∙ ap (λ c. cond (list_all (open_before T n) left) (cond c met unmet) closed) met_so
