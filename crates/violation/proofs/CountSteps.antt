-- The steps of counting, as the loops take them.
use Rattle.std.proofs.Common.{◌≡◌, ℕ, zero, suc, ◌+◌, ◌<◌, ◌≤◌, Bool, true, false, not, ◌&&◌, ◌||◌, List, [], ◌∷◌}
use Rattle.std.proofs.Common.{◌++◌, length, get_or, refl, sym, ap, ◌∙◌, subst, arith, add-one}
use Rattle.std.proofs.lemmas.List.{get_or_default, get_or-map}
use Rattle.std.proofs.{lemmas.Bool.{false≢true, and_parts, and_from, or_parts}, lemmas.List.Folds.list_any-append}
use Rattle.std.specs.List.{AllByRecursion, list_all, list_any}
use Rattle.tier_core.specs.{declared.sym.Sym.Sym, declared.sym.Sym.TheVariants.{Outside, Inside, Start, End, Both}}
use Rattle.tier_core.specs.{declared.event.Event.Event, declared.constraint.Family.Family}
use Rattle.tier_core.specs.{declared.constraint.Family.TheVariants.{Implication, Clash}, Scan.{fits, opens}}
use Rattle.tier_core.specs.{Timelines.{symbol, is_edge, tier_word, IsWellFormed}, Sides.{has_edge_type, edge_among}}
use Rattle.tier_core.proofs.{CountLemmas.{bit, all_append, all_of}, WordCounts.runs_fits}
use Rattle.tier_core.proofs.{WordForm.runs_from_well_formed, Bools.or_false}
use Rattle.violation.specs.Columns.{edge_cost, opens_all, is_present, opens_interior}
use Rattle.violation.specs.{Conditions.{AreTiersBelow, IsCountable}, Counts.{choice_types, viol, so_far, is_met}}
use Rattle.violation.proofs.{EdgeSteps.{edge_at, step_count}, InteriorSteps.open_before}
use Rattle.violation.proofs.OpenSteps.{stretch, clash_ends, implication_ends}
use Rattle.violation.proofs.PhaseSteps.{open_after_column, met_begins, met_goes_on}
use Rattle.violation.proofs.WholeCounts.{AreSome, so_far_whole}

some_from_length : (es : List Event) → 0 < length es → AreSome es
some_from_length [] h = absurd (omega arith)
some_from_length (e ∷ es) h = tt

some_append : (es fs : List Event) → AreSome es → AreSome (es ++ fs)
some_append [] fs h = absurd h
some_append (e ∷ es) fs h = tt

pub some_chosen : (family : Family) (left right : List Event) → 0 < length left
    → AreSome (choice_types family left right)
some_chosen Clash left right h = some_append left right (some_from_length left h)
some_chosen Implication left right h = some_from_length left h

pub chosen_below : (family : Family) (width : ℕ) (left right : List Event) → AreTiersBelow width left
    → AreTiersBelow width right → AreTiersBelow width (choice_types family left right)
chosen_below Clash width left right a b = all_append _ left right a b
chosen_below Implication width left right a b = a

-- what was read at k is the column there, whatever stands past the end
pub column_at : (T : List (List Sym)) (k : ℕ) (column : List Sym) → k < length T → column ≡ get_or T k column
    → get_or T k [] ≡ column
column_at T k column l e = get_or_default T k [] column l ∙ sym e

pub edge_step : (family : Family) (left right : List Event) (T : List (List Sym)) (k : ℕ) (column : List Sym)
    → IsCountable left right T
    → has_edge_type (choice_types family left right) ≡ true → k < length T → column ≡ get_or T k column
    → so_far family left right T (k + 1) ≡ so_far family left right T k + bit (edge_cost family left right column)
edge_step family left right T k column c e l is =
    ap (so_far family left right T) (add-one k) ∙ step_count family left right T k
    ∙ ap (λ n. so_far family left right T k + n)
    (edge_at c.width T c.well_formed k l family left right c.left_below c.right_below
    (chosen_below family c.width left right c.left_below c.right_below) e
    ∙ ap (λ b. bit (edge_cost family left right b)) (column_at T k column l is))

pub whole : (family : Family) (left right : List Event) (T : List (List Sym)) (k : ℕ) → IsCountable left right T
    → length T ≤ k → k ≤ length T
    → so_far family left right T k ≡ viol family left right T
whole family left right T k c a b =
    let same : k ≡ length T = omega arith in
    ap (so_far family left right T) same ∙ so_far_whole family left right T (some_chosen family left right c.some_left)

pub all_agree : {X : Type 0} (p q : X → Bool) (xs : List X) → AllByRecursion (λ x. p x ≡ q x) xs
    → list_all p xs ≡ list_all q xs
all_agree p q [] h = refl
all_agree p q (x ∷ xs) h = ap (λ b. b && list_all p xs) h.0 ∙ ap (λ b. q x && b) (all_agree p q xs h.1)

-- which types are open after one more column
pub open_step : (types : List Event) (width : ℕ) (T : List (List Sym)) (k : ℕ) (column : List Sym)
    → IsWellFormed width T → k < length T → column ≡ get_or T k column
    → list_all (open_before T (k + 1)) types ≡ opens_all types column
open_step types width T k column wf l is =
    ap (λ n. list_all (open_before T n) types) (add-one k)
    ∙ all_agree (open_before T (suc k)) (λ e. opens (symbol (get_or T k []) e.tier)) types
    (all_of _ types (open_after_column width T wf k l))
    ∙ ap (opens_all types) (column_at T k column l is)

pub open_none : (types : List Event) (T : List (List Sym)) → 0 < length types → list_all (open_before T 0) types ≡ false
open_none [] T h = absurd (omega arith)
open_none (e ∷ es) T h = refl

pub clash_step : (left right : List Event) (T : List (List Sym)) (k : ℕ) (column : List Sym) → IsCountable left right T
    → has_edge_type (left ++ right) ≡ false → k < length T → column ≡ get_or T k column
    → so_far Clash left right T (k + 1) ≡ so_far Clash left right T k + bit
    (list_all (open_before T k) (left ++ right) && (edge_among left column || edge_among right column))
clash_step left right T k column c i l is =
    ap (so_far Clash left right T) (add-one k)
    ∙ clash_ends c.width T c.well_formed k l left right (some_chosen Clash left right c.some_left)
    (chosen_below Clash c.width left right c.left_below c.right_below) i
    ∙ ap (λ b. so_far Clash left right T k + bit
    (list_all (open_before T k) (left ++ right) && edge_among (left ++ right) b)) (column_at T k column l is)
    ∙ ap (λ b. so_far Clash left right T k + bit (list_all (open_before T k) (left ++ right) && b))
    (list_any-append (λ e. is_edge (symbol column e.tier)) left right)

pub stretch_step : (left right : List Event) (T : List (List Sym)) (k : ℕ) (column : List Sym)
    → IsCountable left right T
    → has_edge_type left ≡ false → k < length T → column ≡ get_or T k column
    → so_far Implication left right T (k + 1)
    ≡ so_far Implication left right T k + bit
    ((list_all (open_before T k) left && edge_among left column) && not (is_met T right (stretch T left k)))
stretch_step left right T k column c i l is =
    ap (so_far Implication left right T) (add-one k)
    ∙ implication_ends c.width T c.well_formed k l left right
    (some_chosen Implication left right c.some_left) c.left_below i
    ∙ ap (λ b. so_far Implication left right T k + bit
    ((list_all (open_before T k) left && edge_among left b) && not (is_met T right (stretch T left k))))
    (column_at T k column l is)

-- where a tier is open after a column with no edge on it, it was open before
was_open : (b : Bool) (s : Sym) → fits b s ≡ true → opens s ≡ true → is_edge s ≡ false → b ≡ true
was_open true s f o e = refl
was_open false Outside f o e = absurd (false≢true o)
was_open false Inside f o e = absurd (false≢true f)
was_open false Start f o e = absurd (false≢true (sym e))
was_open false End f o e = absurd (false≢true o)
was_open false Both f o e = absurd (false≢true f)

were_open : (width : ℕ) (T : List (List Sym)) (k : ℕ) → IsWellFormed width T → k < length T → (types : List Event)
    → AreTiersBelow width types
    → opens_all types (get_or T k []) ≡ true → edge_among types (get_or T k []) ≡ false
    → list_all (open_before T k) types ≡ true
were_open width T k wf l [] t o e = refl
were_open width T k wf l (x ∷ xs) t o e =
    let open_parts : (opens (symbol (get_or T k []) x.tier) ≡ true) ×
    (opens_all xs (get_or T k []) ≡ true) = and_parts _ _ o in
    let edge_parts : (is_edge (symbol (get_or T k []) x.tier) ≡ false) ×
    (edge_among xs (get_or T k []) ≡ false) = or_parts _ _ e in
    let at : get_or (tier_word T x.tier) k Outside
    ≡ symbol (get_or T k []) x.tier = get_or-map (λ column. symbol column x.tier) T k [] Outside l in
    let fit : fits (open_before T k x) (symbol (get_or T k []) x.tier) ≡ true =
    subst (λ s. fits (open_before T k x) s ≡ true) at
    (runs_fits false (tier_word T x.tier) k (runs_from_well_formed (tier_word T x.tier) (wf.each_tier x.tier t.0))) in
    and_from _ _ (was_open (open_before T k x) (symbol (get_or T k []) x.tier) fit open_parts.0 edge_parts.0)
    (were_open width T k wf l xs t.1 open_parts.1 edge_parts.1)

not_at_zero : (T : List (List Sym)) (types : List Event) (k : ℕ) → 0 < length types
    → list_all (open_before T k) types ≡ true → 0 < k
not_at_zero T types zero s h = absurd (false≢true (sym (open_none types T s) ∙ h))
not_at_zero T types (suc k) s h = omega arith

-- whether a stretch that is open after a column is met
pub met_step : (left right : List Event) (T : List (List Sym)) (k : ℕ) (column : List Sym) (met : Bool)
    → IsCountable left right T → k < length T → column ≡ get_or T k column
    → (list_all (open_before T k) left ≡ true → met ≡ is_met T right (stretch T left k))
    → opens_all left column ≡ true
    → (list_any (opens_interior column) right ||
    (not (edge_among left column) && (met || list_any (is_present column) right)))
    ≡ is_met T right (stretch T left (k + 1))
met_step left right T k column met c l is before o =
    by_edge (edge_among left (get_or T k [])) refl
  where
    same : get_or T k [] ≡ column
    same = column_at T k column l is

    or_comm : (a b : Bool) → (a || b) ≡ (b || a)
    or_comm true true = refl
    or_comm true false = refl
    or_comm false true = refl
    or_comm false false = refl

    by_edge : (b : Bool) → edge_among left (get_or T k []) ≡ b
        → (list_any (opens_interior column) right ||
        (not (edge_among left column) && (met || list_any (is_present column) right)))
        ≡ is_met T right (stretch T left (k + 1))
    by_edge true e =
        ap (λ (d : List Sym). list_any (opens_interior d) right ||
        (not (edge_among left d) && (met || list_any (is_present d) right))) (sym same)
        ∙ ap (λ b. list_any (opens_interior (get_or T k [])) right ||
        (not b && (met || list_any (is_present (get_or T k [])) right))) e
        ∙ or_false (list_any (opens_interior (get_or T k [])) right)
        ∙ sym (met_begins c.width T c.well_formed k l left right c.right_below e)
        ∙ ap (λ n. is_met T right (stretch T left n)) (sym (add-one k))
    by_edge false e =
        let opened : opens_all left (get_or T k []) ≡ true = ap (opens_all left) same ∙ o in
        let open_so : list_all (open_before T k) left
        ≡ true = were_open c.width T k c.well_formed l left c.left_below opened e in
        ap (λ (d : List Sym). list_any (opens_interior d) right ||
        (not (edge_among left d) && (met || list_any (is_present d) right))) (sym same)
        ∙ ap (λ b. list_any (opens_interior (get_or T k [])) right ||
        (not b && (met || list_any (is_present (get_or T k [])) right))) e
        ∙ or_comm (list_any (opens_interior (get_or T k [])) right) (met || list_any (is_present (get_or T k [])) right)
        ∙ ap (λ b. (b || list_any (is_present (get_or T k [])) right) || list_any
        (opens_interior (get_or T k [])) right) (before open_so)
        ∙ sym (met_goes_on c.width T c.well_formed k l left right c.right_below
        (not_at_zero T left k c.some_left open_so) e)
        ∙ ap (λ n. is_met T right (stretch T left n)) (sym (add-one k))

pub some_both : (left right : List Event) → 0 < length left → 0 < length (left ++ right)
some_both [] right h = absurd (omega arith)
some_both (e ∷ es) right h = omega arith

-- what the code tests at an end of a stretch; whether it is met matters only where all are open
pub unmet_test : (a b m o e n : Bool) → o ≡ a → e ≡ b → (a ≡ true → n ≡ m) → ((a && b) && not m) ≡ ((o && e) && not n)
unmet_test true b m o e n p q r = rw (p, q, r refl) refl
unmet_test false b m o e n p q r = rw p refl
