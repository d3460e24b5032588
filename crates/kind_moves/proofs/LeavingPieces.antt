-- Pieces by the free tiers that their columns leave open.
use Rattle.std.proofs.Common.{◌≡◌, ◌↔◌, ℕ, ◌+◌, ◌^◌, ◌<◌, ◌≤◌, nat_lt, Bool, true, false, not, ◌&&◌, cond, IsTrue}
use Rattle.std.proofs.Common.{List, [], ◌∷◌, ◌++◌, map, length, get_or, refl, ap, ap₂, sym, ◌∙◌, subst, arith}
use Rattle.std.proofs.Common.{⊎_elim, append_assoc, All}
use Rattle.std.proofs.lemmas.Bool.{false≢true, and_parts, cases_lt, lt-ltb, le-ltb}
use Rattle.std.proofs.lemmas.List.{append-nil, map-append, length-map, get_or-map}
use Rattle.std.proofs.{lemmas.List.Elements.{All-nil, All-append, All-map}, lemmas.List.Folds.list_any_at}
use Rattle.tier_core.specs.{declared.class.Class.Class, declared.kind.Kind.Kind, declared.sym.Sym.Sym}
use Rattle.tier_core.specs.{Classes.{sets_of, has}, Filled.is_filled, Kinds.open_tiers, Timelines.has_edge}
use Rattle.tier_core.proofs.Filled.{empty_holds}
use Rattle.symbol_class.specs.Held.{some_has, times_held, once_if, ArePieces, AddsClasses}
use Rattle.symbol_class.proofs.Times.{times-append, some_held, none_held, some_from_times, once_from_apart}
use Rattle.violation.specs.Moves.{input_of}
use Rattle.kind_moves.specs.{declared.frame.Frame.Frame, declared.piece.Piece.Piece}
use Rattle.kind_moves.specs.Frames.{tiers_in, FitsAt, FitsFrame}
use Rattle.kind_moves.specs.Leaving.{opened_among, led_to, AddsLed, LeavesOpen, AddsLeaving}
use Rattle.kind_moves.specs.Pieces.{piece_classes, IsPiece}
use Rattle.kind_moves.proofs.{LawSteps.is_move, LeavingSteps.{left_number, number_below, flags_by_number}}
use Rattle.kind_moves.proofs.PieceSteps.{free_cost}

-- ---- pieces that lead to one kind

pub classes_led : (target : Kind) (classes : List Class) → piece_classes (map (led_to target) classes) ≡ classes
classes_led target [] = refl
classes_led target (class ∷ classes) = ap (λ cs. class ∷ cs) (classes_led target classes)

-- a column that some class holds, and no two, is held once
pub held_once : (classes : List Class) (column : List Sym) (b : Bool) → times_held classes column ≤ 1
    → some_has classes column ≡ b → times_held classes column ≡ once_if b
held_once classes column true few some = omega (arith, few, some_held classes column some)
held_once classes column false few none = none_held classes column none

-- what a class of a list holds is held by the list
pub held_in : (classes : List Class) (holds : List Sym → Bool)
    → ((column : List Sym) → times_held classes column ≡ once_if (holds column))
    → (k : ℕ) (d : Class) → k < length classes → (column : List Sym) → has (get_or classes k d) column ≡ true
    → holds column ≡ true
held_in classes holds times k d l column h =
    sym (some_from_times classes column (holds column) (times column))
    ∙ list_any_at (λ c. has c column) classes k d l h

pub led_none : (width : ℕ) (target : Kind) (pieces : List Piece) (a b : Class) → is_filled a ≡ false
    → AddsLed width target pieces pieces (λ column. once_if (has a column && not (has b column)))
led_none width target pieces a b empty = record {
  classes = [];
  new_is = sym (append-nil pieces);
  one_width = All-nil (λ class. length (sets_of class) ≡ width);
  filled = All-nil (λ class. IsTrue (is_filled class));
  held = λ column. sym (ap (λ held. once_if (held && not (has b column))) (empty_holds a column empty));
}

-- classes that are put at the end of none are put as pieces
pub led_by : (width : ℕ) (target : Kind) (old new : List Piece) (classes : List Class) (times : List Sym → ℕ)
    → AddsClasses width [] classes times → new ≡ old ++ map (led_to target) classes
    → AddsLed width target old new times
led_by width target old new classes times adds is = record {
  classes = adds.added;
  new_is = is ∙ ap (λ cs. old ++ map (led_to target) cs) adds.new_is;
  one_width = adds.one_width;
  filled = adds.filled;
  held = adds.held;
}

pub led_pieces : (width : ℕ) (target : Kind) (old new : List Piece) (classes : List Class) (holds : List Sym → Bool)
    → ArePieces width classes → ((column : List Sym) → some_has classes column ≡ holds column)
    → new ≡ old ++ map (led_to target) classes
    → AddsLed width target old new (λ column. once_if (holds column))
led_pieces width target old new classes holds pieces some is = record {
  classes = classes;
  new_is = is;
  one_width = pieces.one_width;
  filled = pieces.filled;
  held = λ column. held_once classes column (holds column) (once_from_apart classes pieces.apart column)
      (some column);
}

-- ---- by one set of free tiers after another

one_number : (a b p : Bool) (m n : ℕ) → ((p ≡ true) ↔ ((a ≡ true) × (m ≡ n)))
    → once_if ((a && not b) && nat_lt m n) + once_if (p && not b) ≡ once_if ((a && not b) && nat_lt m (n + 1))
one_number false b true m n h = absurd (false≢true (h.0 refl).0)
one_number false b false m n h = refl
one_number true true true m n h = refl
one_number true true false m n h = refl
one_number true false true m n h =
    let at : m ≡ n = (h.0 refl).1 in
    omega (
      arith,
      ap once_if (le-ltb m n (omega (arith, at))),
      ap once_if (lt-ltb m (n + 1) (omega (arith, at))),
    )
one_number true false false m n h = ⊎_elim
    (λ l. omega (arith, ap once_if (lt-ltb m n l), ap once_if (lt-ltb m (n + 1) (omega (arith, l)))))
    (λ g. ⊎_elim
    (λ l. omega (arith, ap once_if (le-ltb m n g), ap once_if (le-ltb m (n + 1) (omega (arith, l)))))
    (λ e. let at : m ≡ n = omega (arith, g, e) in absurd (false≢true (h.1 (refl, at))))
    (cases_lt n m))
    (cases_lt m n)

none_number : (x : Bool) (m : ℕ) → 0 ≡ once_if (x && nat_lt m 0)
none_number true m = sym (ap once_if (le-ltb m 0 (omega arith)))
none_number false m = refl

all_numbers : (x : Bool) (m n : ℕ) → m < n → once_if (x && nat_lt m n) ≡ once_if x
all_numbers true m n l = ap once_if (lt-ltb m n l)
all_numbers false m n l = refl

module _ (frame : Frame) (a b : Class) (place : ℕ) (old : List Piece) where
  -- the columns of `a` that are not in `b` and leave one of the first n sets of free tiers open
  abbrev pub times_left : ℕ → List Sym → ℕ
  times_left n column = once_if ((has a column && not (has b column))
      && nat_lt (left_number (tiers_in frame).free column) n)

  pub none_left : AddsLeaving frame place old old (times_left 0)
  none_left = record {
    added = [];
    new_is = sym (append-nil old);
    each = All-nil (LeavesOpen frame place);
    held = λ column. none_number (has a column && not (has b column)) (left_number (tiers_in frame).free column);
  }

  pub more_left : (mid new : List Piece) (n width : ℕ) (target : Kind) (box : Class)
      → AddsLeaving frame place old mid (times_left n) → n < 2 ^ length (tiers_in frame).free
      → width ≡ (tiers_in frame).width → target.place ≡ place → target.opened ≡ n → target.unmet ≡ 0
      → target.met ≡ 0
      → ((column : List Sym) → IsTrue (has box column) ↔ (IsTrue (has a column)
      × (opened_among (tiers_in frame).free column ≡ open_tiers (length (tiers_in frame).free) n)))
      → AddsLed width target mid new (λ column. once_if (has box column && not (has b column)))
      → AddsLeaving frame place old new (times_left (n + 1))
  more_left mid new n width target box so_far few wide at_place opened unmet met columns led =
      let free = (tiers_in frame).free in
      record {
        added = so_far.added ++ map (led_to target) led.classes;
        new_is = led.new_is ∙ ap (λ ps. ps ++ map (led_to target) led.classes) so_far.new_is
            ∙ append_assoc old so_far.added (map (led_to target) led.classes);
        each = All-append (LeavesOpen frame place) so_far.added (map (led_to target) led.classes) so_far.each
            (All-map (LeavesOpen frame place) (led_to target) led.classes (λ k d l. record {
              wide = led.one_width k d l ∙ wide;
              filled = led.filled k d l;
              opened = λ column h. ((columns column).0 ((and_parts (has box column) (not (has b column))
                  (held_in led.classes (λ c. has box c && not (has b c)) led.held k d l column h)).0)).1
                  ∙ ap (open_tiers (length free)) (sym opened);
              within = omega (arith, few, opened);
              at_place = at_place;
              unmet = unmet;
              met = met;
              cost = refl;
            }));
        held = λ column. ap (λ cs. times_held cs column)
            (map-append (λ (p : Piece). p.class) so_far.added (map (led_to target) led.classes)
            ∙ ap (λ cs. piece_classes so_far.added ++ cs) (classes_led target led.classes))
            ∙ times-append (piece_classes so_far.added) led.classes column
            ∙ ap₂ (λ x y. x + y) (so_far.held column) (led.held column)
            ∙ one_number (has a column) (has b column) (has box column) (left_number free column) n (
              λ h. let p = (columns column).0 h in (p.0, (flags_by_number free column n few).0 p.1),
              λ p. (columns column).1 (p.0, (flags_by_number free column n few).1 p.1),
            );
      }

  pub all_left : (new : List Piece) (n : ℕ) → AddsLeaving frame place old new (times_left n)
      → n ≡ 2 ^ length (tiers_in frame).free
      → AddsLeaving frame place old new (λ column. once_if (has a column && not (has b column)))
  all_left new n all e = record {
    added = all.added;
    new_is = all.new_is;
    each = all.each;
    held = λ column. all.held column
        ∙ all_numbers (has a column && not (has b column)) (left_number (tiers_in frame).free column) n
        (omega (arith, number_below (tiers_in frame).free column, e));
  }

-- ---- pieces that leave tiers open are pieces of moves

pub classes_added : (frame : Frame) (place : ℕ) (old new : List Piece) (times : List Sym → ℕ)
    → AddsLeaving frame place old new times
    → AddsClasses (tiers_in frame).width (piece_classes old) (piece_classes new) times
classes_added frame place old new times adds = record {
  added = piece_classes adds.added;
  new_is = ap piece_classes adds.new_is ∙ map-append (λ (p : Piece). p.class) old adds.added;
  one_width = All-map (λ c. length (sets_of c) ≡ (tiers_in frame).width) (λ (p : Piece). p.class) adds.added
      (λ k d l. (adds.each k d l).wide);
  filled = All-map (λ c. IsTrue (is_filled c)) (λ (p : Piece). p.class) adds.added
      (λ k d l. (adds.each k d l).filled);
  held = adds.held;
}

leaving_piece : (frame : Frame) (kind : Kind) (place : ℕ) (read : Bool) (piece : Piece) → FitsFrame frame 0 kind
    → place ≡ kind.place + cond read 1 0 → LeavesOpen frame place piece
    → ((column : List Sym) → has piece.class column ≡ true → FitsAt frame 0 kind column
    × (has_edge (input_of (tiers_in frame) column) ≡ read))
    → IsPiece frame 0 0 kind piece
leaving_piece frame kind place read piece fits next leaves goes = record {
  moves = λ column h.
      is_move frame 0 kind piece.target column fits (goes column h).0
      (leaves.at_place ∙ next ∙ ap (λ b. kind.place + cond b 1 0) (sym (goes column h).1))
      (sym (leaves.opened column h)) refl leaves.within
      (record { unmet = omega (arith, leaves.unmet); met = omega (arith, leaves.met) });
  costs = λ column h. leaves.cost ∙ sym (free_cost frame 0 0 kind column refl);
}

-- those that are put at the end, where all that they hold fits and either reads the form or does not
pub leaving_pieces : (frame : Frame) (kind : Kind) (place : ℕ) (read : Bool) (old new : List Piece)
    (holds : List Sym → Bool) → FitsFrame frame 0 kind → place ≡ kind.place + cond read 1 0
    → ((column : List Sym) → holds column ≡ true → FitsAt frame 0 kind column
    × (has_edge (input_of (tiers_in frame) column) ≡ read))
    → AddsLeaving frame place old new (λ column. once_if (holds column))
    → All (IsPiece frame 0 0 kind) old → All (IsPiece frame 0 0 kind) new
leaving_pieces frame kind place read old new holds fits next goes adds so_far =
    subst (All (IsPiece frame 0 0 kind)) (sym adds.new_is)
    (All-append (IsPiece frame 0 0 kind) old adds.added so_far (λ k d l. leaving_piece frame kind place read
    (get_or adds.added k d) fits next (adds.each k d l)
    (λ column h. goes column (in_added k d l column h))))
  where
    in_added : (k : ℕ) (d : Piece) → k < length adds.added → (column : List Sym)
        → has (get_or adds.added k d).class column ≡ true → holds column ≡ true
    in_added k d l column h = held_in (piece_classes adds.added) holds adds.held k d.class
        (omega (arith, l, length-map adds.added (λ (p : Piece). p.class))) column
        (ap (λ c. has c column) (get_or-map (λ (p : Piece). p.class) adds.added k d d.class l) ∙ h)
