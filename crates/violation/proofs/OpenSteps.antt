-- What is counted at a column by constraints whose choices are of interiors alone.
use Rattle.std.proofs.Common.{◌≡◌, ℕ, suc, ◌+◌, ◌*◌, ◌-◌, ◌<◌, Bool, true, false, not, ◌&&◌, ◌||◌, List, [], ◌∷◌}
use Rattle.std.proofs.{Common.{◌++◌, map, length, get_or, refl, sym, ap, ◌∙◌, subst, arith}, lemmas.List.get_or-map}
use Rattle.std.proofs.lemmas.Bool.{false≢true}
use Rattle.std.specs.{Prelude.count_by, List.{AllByRecursion, list_all, list_any}}
use Rattle.tier_core.specs.{declared.sym.Sym.Sym, declared.sym.Sym.TheVariants.{Outside, Inside, Start, End, Both}}
use Rattle.tier_core.specs.{declared.event.Event.Event, declared.event.Part.Part}
use Rattle.tier_core.specs.declared.event.Part.TheVariants.{Start as StartOf, End as EndOf, Interior}
use Rattle.tier_core.specs.declared.constraint.Family.TheVariants.{Implication, Clash}
use Rattle.tier_core.specs.{Events.{Interval, events, greatest_low, least_high, meet, is_there}, Scan.fits}
use Rattle.tier_core.specs.{Timelines.{tier_word, symbol, is_edge, IsWellFormed}, Words.is_inside_sym}
use Rattle.tier_core.specs.Sides.{is_edge_part, has_edge_type, edge_among}
use Rattle.tier_core.proofs.{CountLemmas.{bit, count_agree, all_weaker}, WordCounts.runs_fits}
use Rattle.tier_core.proofs.{WordForm.runs_from_well_formed, Members.all_both}
use Rattle.violation.specs.{Columns.{is_present, part_present}, Conditions.AreTiersBelow}
use Rattle.violation.specs.{Counts.{choices, counts, is_met, so_far}, Prefixes.last_where}
use Rattle.violation.proofs.{ChoiceLemmas.count_where, EdgeSteps.{is_at, IsFilled, step_count}}
use Rattle.violation.proofs.InteriorSteps.{open_before, IsOdd, odds, filled, interiors_each, ends_before}
use Rattle.violation.proofs.MeetLemmas.{contains, meet_contains}
use Rattle.violation.proofs.StretchSteps.{MeetStarts, meets_start, meet_starts_at, among_each, reorder_test}
use Rattle.violation.proofs.WholeCounts.{AreSome}

-- of each: where it is open, it is inside exactly where it has no edge; where it is not open, it is not inside
module _ {E : Type 0} (o i g : E → Bool) where
  abbrev Told : E → Type 0
  Told e = (o e ≡ true → i e ≡ not (g e)) × (o e ≡ false → i e ≡ false)

  told_step : (a b c x y z : Bool) → (a ≡ true → b ≡ not c) → (a ≡ false → b ≡ false) → bit x ≡ bit (x && z) + bit y
      → bit (a && x) ≡ bit ((a && x) && (c || z)) + bit (b && y)
  told_step true b true x y z p q e = let same : b ≡ false = p refl in rw same (both x)
    where
      both : (x : Bool) → bit x ≡ bit (x && true) + 0
      both true = refl
      both false = refl
  told_step true b false x y z p q e = let same : b ≡ true = p refl in rw same e
  told_step false b c x y z p q e = let same : b ≡ false = q refl in rw same refl

  pub told_all : (es : List E) → AllByRecursion Told es
      → bit (list_all o es) ≡ bit (list_all o es && list_any g es) + bit (list_all i es)
  told_all [] h = refl
  told_all (e ∷ es) h = told_step (o e) (i e) (g e) (list_all o es) (list_all i es) (list_any g es) h.0.0 h.0.1
      (told_all es h.1)

inside_told : (b : Bool) (s : Sym) → fits b s ≡ true
    → (b ≡ true → is_inside_sym s ≡ not (is_edge s)) × (b ≡ false → is_inside_sym s ≡ false)
inside_told true Outside h = absurd (false≢true h)
inside_told true Inside h = (λ e. refl, λ e. absurd (false≢true (sym e)))
inside_told true Start h = absurd (false≢true h)
inside_told true End h = (λ e. refl, λ e. refl)
inside_told true Both h = (λ e. refl, λ e. refl)
inside_told false Outside h = (λ e. absurd (false≢true e), λ e. refl)
inside_told false Inside h = absurd (false≢true h)
inside_told false Start h = (λ e. absurd (false≢true e), λ e. refl)
inside_told false End h = absurd (false≢true h)
inside_told false Both h = absurd (false≢true h)

-- a stretch of the types ends at column k: all are open before it, and it has an edge among them
abbrev pub stretch_ends : List (List Sym) → List Event → ℕ → Bool
stretch_ends T es k = list_all (open_before T k) es && edge_among es (get_or T k [])

-- the span of the stretch that is open before column k
abbrev pub stretch : List (List Sym) → List Event → ℕ → Interval
stretch T es k = record { low = 2 * last_where (edge_among es) T k + 1; high = 2 * k - 1 }

module _ (width : ℕ) (T : List (List Sym)) (wf : IsWellFormed width T) (k : ℕ) (l : k < length T) where
  told_at : (e : Event) → e.tier < width → is_edge_part e.part ≡ false
      → (open_before T k e ≡ true → is_present (get_or T k []) e ≡ not (is_edge (symbol (get_or T k []) e.tier))) ×
      (open_before T k e ≡ false → is_present (get_or T k []) e ≡ false)
  told_at e t i =
      let at : get_or (tier_word T e.tier) k Outside
      ≡ symbol (get_or T k []) e.tier = get_or-map (λ column. symbol column e.tier) T k [] Outside l in
      let fit : fits (open_before T k e) (symbol (get_or T k []) e.tier) ≡ true =
      subst (λ s. fits (open_before T k e) s ≡ true) at
      (runs_fits false (tier_word T e.tier) k (runs_from_well_formed (tier_word T e.tier) (wf.each_tier e.tier t))) in
      by_part e.part i (symbol (get_or T k []) e.tier) (open_before T k e)
      (inside_told (open_before T k e) (symbol (get_or T k []) e.tier) fit)
    where
      by_part : (part : Part) → is_edge_part part ≡ false → (s : Sym) (b : Bool)
          → (b ≡ true → is_inside_sym s ≡ not (is_edge s)) × (b ≡ false → is_inside_sym s ≡ false)
          → (b ≡ true → part_present part s ≡ not (is_edge s)) × (b ≡ false → part_present part s ≡ false)
      by_part StartOf g s b h = absurd (false≢true (sym g))
      by_part EndOf g s b h = absurd (false≢true (sym g))
      by_part Interior g s b h = h

  ends_count : (es : List Event) → AreSome es → AreTiersBelow width es → has_edge_type es ≡ false
      → count_by (λ choice. is_there (meet choice) && is_at k (meet choice).high) (choices (map (events T) es))
      ≡ bit (stretch_ends T es k)
  ends_count es s t i =
      let told : bit (list_all (open_before T k) es)
      ≡ bit (stretch_ends T es k) + bit (list_all (is_present (get_or T k [])) es) =
      told_all (open_before T k) (is_present (get_or T k [])) (λ e. is_edge (symbol (get_or T k []) e.tier)) es
      (all_weaker (λ e. (e.tier < width) × (is_edge_part e.part ≡ false)) _ es (λ e b. told_at e b.0 b.1)
      (all_both _ _ es t (interiors_each es i))) in
      omega (arith, told, ends_before width T wf k l es s t i)

  implication_step : (left right : List Event) → AreTiersBelow width left → (choice : List Interval)
      → (IsFilled choice × IsOdd choice) ×
      (list_all (contains (2 * k - 1)) choice ≡ true → MeetStarts width T wf k l left left choice)
      → ((is_there (meet choice) && not (is_met T right (meet choice))) && is_at k (meet choice).high)
      ≡ ((is_there (meet choice) && is_at k (meet choice).high) && not (is_met T right (stretch T left k)))
  implication_step left right t [] h = absurd h.0.0
  implication_step left right t (x ∷ xs) h =
      reorder_test (greatest_low (x ∷ xs)) (least_high (x ∷ xs)) h.0.1.high k (not (is_met T right (meet (x ∷ xs))))
      (not (is_met T right (stretch T left k))) h.0.1.high_is
      (λ g e.
      let low : greatest_low (x ∷ xs) ≡ 2 * last_where (edge_among left) T k + 1 =
      meet_starts_at width T wf k l left (x ∷ xs) tt h.1 (meet_contains (2 * k - 1) x xs ∙ g) in
      ap (λ (b : ℕ × ℕ). not (is_met T right (record { low = b.0; high = b.1 }))) (pair low e))
    where
      pair : {a b c d : ℕ} → a ≡ c → b ≡ d → Path (ℕ × ℕ) (a, b) (c, d)
      pair e f = cc

  pub clash_ends : (left right : List Event) → AreSome (left ++ right) → AreTiersBelow width (left ++ right)
      → has_edge_type (left ++ right) ≡ false
      → so_far Clash left right T (suc k) ≡ so_far Clash left right T k + bit (stretch_ends T (left ++ right) k)
  clash_ends left right s t i =
      step_count Clash left right T k ∙ ap (λ n. so_far Clash left right T k + n) (ends_count (left ++ right) s t i)

  pub implication_ends : (left right : List Event) → AreSome left → AreTiersBelow width left
      → has_edge_type left ≡ false
      → so_far Implication left right T (suc k)
      ≡ so_far Implication left right T k + bit (stretch_ends T left k && not (is_met T right (stretch T left k)))
  implication_ends left right s t i =
      let counted : count_by (λ choice. counts Implication right T choice && is_at k (meet choice).high)
      (choices (map (events T) left))
      ≡ bit (stretch_ends T left k && not (is_met T right (stretch T left k))) =
      count_agree _ (λ choice. (is_there (meet choice) && is_at k (meet choice).high) && not
      (is_met T right (stretch T left k))) (choices (map (events T) left))
      (all_weaker (λ choice. (IsFilled choice × IsOdd choice) ×
      (list_all (contains (2 * k - 1)) choice ≡ true → MeetStarts width T wf k l left left choice)) _
      (choices (map (events T) left))
      (λ choice h. implication_step left right t choice h)
      (all_both _ _ (choices (map (events T) left))
      (all_both _ _ (choices (map (events T) left)) (filled T left s) (odds T left i))
      (meets_start width T wf k l left left t (interiors_each left i) (among_each left))))
      ∙ count_where (λ choice. is_there (meet choice) && is_at k (meet choice).high)
      (not (is_met T right (stretch T left k))) (choices (map (events T) left)) (stretch_ends T left k)
      (ends_count left s t i) in
      step_count Implication left right T k ∙ ap (λ n. so_far Implication left right T k + n) counted
