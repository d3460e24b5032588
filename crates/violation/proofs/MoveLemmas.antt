-- Moves of kinds count what the timeline counts.
use Rattle.std.proofs.Common.{◌≡◌, ℕ, zero, suc, ◌+◌, ◌<◌, ◌≤◌, Bool, true, false, not, ◌&&◌, ◌||◌, cond, List, []}
use Rattle.std.proofs.Common.{◌++◌, take, length, get_or, refl, sym, ap, ◌∙◌, arith, add-one}
use Rattle.std.proofs.{lemmas.List.{get_or-take, get_or_default}, lemmas.Bool.false≢true}
use Rattle.std.specs.List.{list_all, list_any}
use Rattle.tier_core.specs.{declared.sym.Sym.Sym, declared.event.Event.Event, declared.constraint.Family.Family}
use Rattle.tier_core.specs.{declared.constraint.Family.TheVariants.{Implication, Clash}, Kinds.{closed, unmet, met}}
use Rattle.tier_core.specs.{Timelines.tier_word, Sides.{has_edge_type, edge_among}}
use Rattle.tier_core.proofs.{CountLemmas.{bit, all_weaker}, Bools.and_false}
use Rattle.violation.specs.{Columns.{opens_all, is_present, opens_interior}, Conditions.{AreTiersBelow, IsCountable}}
use Rattle.violation.specs.Counts.{choice_types, so_far, is_met}
use Rattle.violation.specs.{Moves.{is_met_phase, is_unmet_phase, next_phase, costs}, Prefixes.{is_open, phase}}
use Rattle.violation.proofs.CountSteps.{some_chosen, chosen_below, met_step, open_step, all_agree}
use Rattle.violation.proofs.{EdgeSteps.{edge_at, step_count}, InteriorSteps.open_before}
use Rattle.violation.proofs.{KindLemmas.{open_in_prefix, phase_is}, OpenSteps.{stretch, clash_ends, implication_ends}}
use Rattle.violation.proofs.WholeCounts.{so_far_none}

-- which tiers are open after n columns
abbrev pub opened_after : List (List Sym) → ℕ → ℕ → Bool
opened_after T n t = is_open (tier_word (take n T) t)

unmet_is : (a m : Bool) → is_unmet_phase (cond a (cond m met unmet) closed) ≡ (a && not m)
unmet_is true true = refl
unmet_is true false = refl
unmet_is false m = refl

met_is : (a m : Bool) → a ≡ true → is_met_phase (cond a (cond m met unmet) closed) ≡ m
met_is true true e = refl
met_is true false e = refl
met_is false m e = absurd (false≢true e)

swap_last : (a b c : Bool) → ((a && b) && c) ≡ ((a && c) && b)
swap_last true true c = and_true c
  where
    and_true : (x : Bool) → x ≡ (x && true)
    and_true true = refl
    and_true false = refl
swap_last true false c = sym (and_false c)
swap_last false b c = refl

-- A column costs what it adds to the count so far, by what the kind of the prefix before it tells.
pub column_costs : (family : Family) (left right : List Event) (T : List (List Sym)) (k : ℕ)
    → IsCountable left right T → k < length T
    → so_far family left right T (suc k)
    ≡ so_far family left right T k + bit
    (costs family left right (opened_after T k) (phase left right (take k T)) (get_or T k []))
column_costs family left right T k c l = by_edge (has_edge_type (choice_types family left right)) refl
  where
    width : ℕ
    width = c.width

    open_same : (es : List Event) → AreTiersBelow c.width es
        → list_all (open_before T k) es ≡ list_all (λ e. opened_after T k e.tier) es
    open_same es t = sym (all_agree _ _ es
        (all_weaker (λ e. e.tier < c.width) _ es
        (λ e b. open_in_prefix c.width T c.well_formed k (omega arith) e.tier b) t))

    interior : (f : Family) → has_edge_type (choice_types f left right) ≡ false
        → so_far f left right T (suc k) ≡ so_far f left right T k + bit
        (costs f left right (opened_after T k) (phase left right (take k T)) (get_or T k []))
    interior Clash e =
        clash_ends c.width T c.well_formed k l left right (some_chosen Clash left right c.some_left)
        (chosen_below Clash c.width left right c.left_below c.right_below) e
        ∙ ap (λ b. so_far Clash left right T k + bit (b && edge_among (left ++ right) (get_or T k [])))
        (open_same (left ++ right) (chosen_below Clash c.width left right c.left_below c.right_below))
        ∙ rw e refl
    interior Implication e =
        implication_ends c.width T c.well_formed k l left right
        (some_chosen Implication left right c.some_left) c.left_below e
        ∙ ap (λ b. so_far Implication left right T k + bit b)
        (swap_last (list_all (open_before T k) left) (edge_among left (get_or T k []))
        (not (is_met T right (stretch T left k))))
        ∙ ap (λ b. so_far Implication left right T k + bit (b && edge_among left (get_or T k [])))
        (sym (ap is_unmet_phase (phase_is c.width T c.well_formed k
        (omega arith) left right c.left_below c.right_below)
        ∙ unmet_is (list_all (open_before T k) left) (is_met T right (stretch T left k))))
        ∙ rw e refl

    by_edge : (b : Bool) → has_edge_type (choice_types family left right) ≡ b
        → so_far family left right T (suc k)
        ≡ so_far family left right T k + bit
        (costs family left right (opened_after T k) (phase left right (take k T)) (get_or T k []))
    by_edge true e =
        step_count family left right T k
        ∙ ap (λ n. so_far family left right T k + n)
        (edge_at c.width T c.well_formed k l family left right c.left_below c.right_below
        (chosen_below family c.width left right c.left_below c.right_below) e)
        ∙ rw e refl
    by_edge false e = interior family e

next_test : (o e m p : Bool) → (o || (not e && (m || p))) ≡ (cond e false (m || p) || o)
next_test true true m p = refl
next_test true false true p = refl
next_test true false false true = refl
next_test true false false false = refl
next_test false true m p = refl
next_test false false true p = refl
next_test false false false true = refl
next_test false false false false = refl

-- A column leads to the phase of the prefix that it ends.
pub next_phase_is : (left right : List Event) (T : List (List Sym)) (k : ℕ) → IsCountable left right T → k < length T
    → phase left right (take (suc k) T) ≡ next_phase left right (phase left right (take k T)) (get_or T k [])
next_phase_is left right T k c l =
    phase_is c.width T c.well_formed (suc k) (omega arith) left right c.left_below c.right_below
    ∙ ap (λ b. cond b (cond (is_met T right (stretch T left (suc k))) met unmet) closed) opened
    ∙ by_open (opens_all left (get_or T k [])) refl
  where
    here : get_or T k [] ≡ get_or T k (get_or T k [])
    here = sym (get_or_default T k (get_or T k []) [] l)

    opened : list_all (open_before T (suc k)) left ≡ opens_all left (get_or T k [])
    opened = ap (λ n. list_all (open_before T n) left) (sym (add-one k))
        ∙ open_step left c.width T k (get_or T k []) c.well_formed l here

    before : list_all (open_before T k) left ≡ true
        → is_met_phase (phase left right (take k T)) ≡ is_met T right (stretch T left k)
    before h = ap is_met_phase (phase_is c.width T c.well_formed k
        (omega arith) left right c.left_below c.right_below)
        ∙ met_is (list_all (open_before T k) left) (is_met T right (stretch T left k)) h

    by_open : (b : Bool) → opens_all left (get_or T k []) ≡ b
        → cond (opens_all left (get_or T k [])) (cond (is_met T right (stretch T left (suc k))) met unmet) closed
        ≡ next_phase left right (phase left right (take k T)) (get_or T k [])
    by_open true o =
        let step : is_met T right (stretch T left (suc k))
        ≡ (cond (edge_among left (get_or T k [])) false
        (is_met_phase (phase left right (take k T)) || list_any (is_present (get_or T k [])) right) || list_any
        (opens_interior (get_or T k [])) right) =
        ap (λ n. is_met T right (stretch T left n)) (sym (add-one k))
        ∙ sym (met_step left right T k (get_or T k []) (is_met_phase (phase left right (take k T))) c l here before o)
        ∙ next_test (list_any (opens_interior (get_or T k [])) right) (edge_among left (get_or T k []))
        (is_met_phase (phase left right (take k T))) (list_any (is_present (get_or T k [])) right) in
        ap (λ b. cond (opens_all left (get_or T k [])) (cond b met unmet) closed) step
    by_open false o = rw o refl

-- What is counted so far is told by the prefix alone.
pub so_far_of_prefix : (family : Family) (left right : List Event) (T U : List (List Sym)) (n : ℕ)
    → IsCountable left right T → IsCountable left right U
    → n ≤ length T → n ≤ length U → ((m : ℕ) → m ≤ n → take m T ≡ take m U)
    → so_far family left right T n ≡ so_far family left right U n
so_far_of_prefix family left right T U zero a b l m same = so_far_none family left right T
    ∙ sym (so_far_none family left right U)
so_far_of_prefix family left right T U (suc k) a b l m same =
    let column : get_or T k [] ≡ get_or U k [] =
    sym (get_or-take (suc k) T k [] (omega arith))
    ∙ ap (λ (p : List (List Sym)). get_or p k []) (same (suc k) (omega arith))
    ∙ get_or-take (suc k) U k [] (omega arith) in
    column_costs family left right T k a (omega arith)
    ∙ ap (λ n. n + bit (costs family left right (opened_after T k) (phase left right (take k T)) (get_or T k [])))
    (so_far_of_prefix family left right T U k a b (omega arith) (omega arith) (λ i h. same i (omega arith)))
    ∙ ap (λ (p : List (List Sym)). so_far family left right U k + bit
    (costs family left right (λ t. is_open (tier_word p t)) (phase left right p) (get_or T k [])))
    (same k (omega arith))
    ∙ ap (λ (d : List Sym). so_far family left right U k + bit
    (costs family left right (opened_after U k) (phase left right (take k U)) d)) column
    ∙ sym (column_costs family left right U k b (omega arith))
