-- Columns after which the same tiers are open, and that pass the test of a stretch implication alike,
-- have the same phase.
use Rattle.std.proofs.Common.{◌≡◌, ℕ, ◌+◌, ◌<◌, Bool, true, false, not, ◌&&◌, ◌||◌, cond, List, [], ◌∷◌, ◌++◌}
use Rattle.std.proofs.{Common.{get_or, refl, ap, ap₂, sym, ◌∙◌, arith}, lemmas.Bool.{false≢true, or_parts}}
use Rattle.std.proofs.lemmas.List.FromFn.{get_or-map-range_with_len, map-range_with_len_more}
use Rattle.std.specs.List.{list_any}
use Rattle.tier_core.specs.{declared.sym.Sym.Sym, declared.sym.Sym.TheVariants.{Outside, Inside, Start, End, Both}}
use Rattle.tier_core.specs.{declared.event.Event.Event, declared.event.Part.Part}
use Rattle.tier_core.specs.declared.event.Part.TheVariants.{Start as StartOf, End as EndOf, Interior}
use Rattle.tier_core.specs.{Kinds.{Phase, closed, unmet, met}, Scan.opens, Sides.{edge_among, is_edge_part}}
use Rattle.tier_core.specs.Timelines.{symbol, is_edge}
use Rattle.tier_core.proofs.Bools.{not_not}
use Rattle.violation.specs.{Columns.{part_present, is_present, opens_interior, opens_all}, Conditions.AreTiersBelow}
use Rattle.violation.specs.Moves.{is_met_phase, next_phase}
use Rattle.kind_moves.specs.{declared.ask.Ask.TheVariants.{NoEdge, Open, NoInteriorOpen, NoEdgePresent}, Asks.answers}
use Rattle.kind_moves.specs.Pieces.{opened_by}
use Rattle.kind_moves.proofs.Answering.{none_pass}

-- after both columns a tier is open
pub open_alike : (width : ℕ) (c d : List Sym) → opened_by width c ≡ opened_by width d → (t : ℕ) → t < width
    → opens (symbol c t) ≡ opens (symbol d t)
open_alike width c d same t inside =
    sym (get_or-map-range_with_len (λ s. opens (symbol c s)) 0 width t t false inside (omega arith))
    ∙ ap (λ flags. get_or flags t false) same
    ∙ get_or-map-range_with_len (λ s. opens (symbol d s)) 0 width t t false inside (omega arith)

module _ (width : ℕ) (c d : List Sym) (same : opened_by width c ≡ opened_by width d) where
  all_open_alike : (types : List Event) → AreTiersBelow width types → opens_all types c ≡ opens_all types d
  all_open_alike [] below = refl
  all_open_alike (e ∷ es) below = ap₂ (λ a b. a && b) (open_alike width c d same e.tier below.0)
      (all_open_alike es below.1)

  some_open_alike : (types : List Event) → AreTiersBelow width types
      → list_any (opens_interior c) types ≡ list_any (opens_interior d) types
  some_open_alike [] below = refl
  some_open_alike (e ∷ es) below =
      ap₂ (λ a b. a || b) (ap (λ b. not (is_edge_part e.part) && b) (open_alike width c d same e.tier below.0))
      (some_open_alike es below.1)

-- whether an edge of some type stands at a column
abbrev edge_present : List Sym → Event → Bool
edge_present column e = is_edge_part e.part && part_present e.part (symbol column e.tier)

-- an interior that stands at a column is open after it
edge_or_open : (part : Part) (s : Sym) → (not (is_edge_part part) && opens s) ≡ false
    → part_present part s ≡ (is_edge_part part && part_present part s)
edge_or_open StartOf s h = refl
edge_or_open EndOf s h = refl
edge_or_open Interior Outside h = refl
edge_or_open Interior Inside h = absurd (false≢true (sym h))
edge_or_open Interior Start h = refl
edge_or_open Interior End h = refl
edge_or_open Interior Both h = refl

edges_or_open : (types : List Event) (column : List Sym) → list_any (opens_interior column) types ≡ false
    → list_any (is_present column) types ≡ list_any (edge_present column) types
edges_or_open [] column h = refl
edges_or_open (e ∷ es) column h =
    let parts = or_parts (opens_interior column e) (list_any (opens_interior column) es) h in
    ap₂ (λ a b. a || b) (edge_or_open e.part (symbol column e.tier) parts.0) (edges_or_open es column parts.1)

-- what a stretch that goes on over a column is tested for
abbrev pub goes_on : List Event → List Event → Bool → List Sym → Bool
goes_on left right was_met column =
    ((answers Open left column && answers NoInteriorOpen right column) && answers NoEdge left column)
    && (was_met || not (answers NoEdgePresent right column))

test_is : (left right : List Event) (was_met : Bool) (column : List Sym)
    → goes_on left right was_met column ≡ (((opens_all left column && not (list_any (opens_interior column) right))
    && not (edge_among left column)) && (was_met || list_any (edge_present column) right))
test_is left right was_met column =
    ap₂ (λ a b. a && b)
    (ap₂ (λ a b. a && b) (ap (λ a. opens_all left column && a) (none_pass (opens_interior column) right))
    (none_pass (λ e. is_edge (symbol column e.tier)) left))
    (ap (λ b. was_met || b) (ap not (none_pass (edge_present column) right)
    ∙ not_not (list_any (edge_present column) right)))

-- the phase by that test
by_test : (all some edge was_met present edges : Bool) → (some ≡ false → present ≡ edges)
    → cond all (cond (cond edge false (was_met || present) || some) met unmet) closed
    ≡ cond all (cond (some || (((all && not some) && not edge) && (was_met || edges))) met unmet) closed
by_test false some edge was_met present edges h = refl
by_test true true true was_met present edges h = refl
by_test true true false true present edges h = refl
by_test true true false false true edges h = refl
by_test true true false false false edges h = refl
by_test true false true was_met present edges h = refl
by_test true false false true present edges h = refl
by_test true false false false true true h = refl
by_test true false false false true false h = absurd (false≢true (sym (h refl)))
by_test true false false false false true h = absurd (false≢true (h refl))
by_test true false false false false false h = refl

phase_is : (left right : List Event) (phase : Phase) (column : List Sym)
    → next_phase left right phase column
    ≡ cond (opens_all left column) (cond (list_any (opens_interior column) right
    || goes_on left right (is_met_phase phase) column) met unmet) closed
phase_is left right phase column =
    by_test (opens_all left column) (list_any (opens_interior column) right) (edge_among left column)
    (is_met_phase phase) (list_any (is_present column) right) (list_any (edge_present column) right)
    (edges_or_open right column)
    ∙ ap (λ t. cond (opens_all left column) (cond (list_any (opens_interior column) right || t) met unmet) closed)
    (sym (test_is left right (is_met_phase phase) column))

-- when the next phase is met
met_is : (all some edge held : Bool)
    → is_met_phase (cond all (cond (some || (((all && not some) && edge) && held)) met unmet) closed)
    ≡ ((all && not (not some)) || (((all && not some) && edge) && held))
met_is false some edge held = refl
met_is true true edge held = refl
met_is true false true true = refl
met_is true false true false = refl
met_is true false false held = refl

pub met_by_tests : (left right : List Event) (phase : Phase) (column : List Sym)
    → is_met_phase (next_phase left right phase column)
    ≡ ((answers Open left column && not (answers NoInteriorOpen right column))
    || goes_on left right (is_met_phase phase) column)
met_by_tests left right phase column =
    let all = opens_all left column in
    let some = list_any (opens_interior column) right in
    let test = test_is left right (is_met_phase phase) column in
    ap is_met_phase (phase_is left right phase column)
    ∙ ap (λ t. is_met_phase (cond all (cond (some || t) met unmet) closed)) test
    ∙ met_is all some (not (edge_among left column))
    (is_met_phase phase || list_any (edge_present column) right)
    ∙ sym (ap₂ (λ a b. (all && not a) || b) (none_pass (opens_interior column) right) test)

pub phase_alike : (width : ℕ) (left right : List Event) (phase : Phase) (c d : List Sym) → AreTiersBelow width left
    → AreTiersBelow width right
    → opened_by width c ≡ opened_by width d → goes_on left right (is_met_phase phase) c
    ≡ goes_on left right (is_met_phase phase) d
    → next_phase left right phase c ≡ next_phase left right phase d
phase_alike width left right phase c d below_left below_right same test =
    phase_is left right phase c
    ∙ ap₂ (λ a t. cond a (cond t met unmet) closed) (all_open_alike width c d same left below_left)
    (ap₂ (λ a b. a || b) (some_open_alike width c d same right below_right) test)
    ∙ sym (phase_is left right phase d)

-- one tier more
pub open_more : (n : ℕ) (c d : List Sym) → opened_by n c ≡ opened_by n d → opens (symbol c n) ≡ opens (symbol d n)
    → opened_by (n + 1) c ≡ opened_by (n + 1) d
open_more n c d same here =
    map-range_with_len_more (λ t. opens (symbol c t)) 0 n n (omega arith)
    ∙ ap₂ (λ flags flag. flags ++ flag ∷ []) same here
    ∙ sym (map-range_with_len_more (λ t. opens (symbol d t)) 0 n n (omega arith))
