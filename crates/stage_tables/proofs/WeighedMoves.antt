-- Moves that are weighed one by one.
use Rattle.std.proofs.Common.{◌≡◌, ℕ, ◌+◌, ◌<◌, Bool, not, ◌&&◌, List, [], ◌∷◌, ◌++◌, take, length, get_or, refl}
use Rattle.std.proofs.Common.{ap, sym, ◌∙◌, subst, arith, inl, inr, Contains, IsTrue}
use Rattle.std.proofs.{lemmas.Bool.{cases_lt, and_parts, not-true}, lemmas.List.{get_or-map, length-map, length_push}}
use Rattle.std.proofs.lemmas.List.{take_more, append-nil, append_assoc, map-append}
use Rattle.std.proofs.lemmas.List.Elements.{All-nil, All-append, All-push, Contains-append_left}
use Rattle.std.proofs.{lemmas.List.Elements.Contains-append_right, lemmas.List.Folds.list_any_at}
use Rattle.std.proofs.Math.Seq.{take-length}
use Rattle.weight_law.specs.{declared.Weight.Ghosts, declared.count.Count.Count}
use Rattle.weight_law.specs.declared.unit_weight.UnitWeight.{UnitWeight}
use Rattle.tier_core.specs.{declared.class.Class.Class, declared.sym.Sym.Sym, Classes.{sets_of, has}}
use Rattle.tier_core.specs.Filled.{is_filled}
use Rattle.symbol_class.specs.{Held.{times_held, once_if, AddsClasses}, Parts.differs}
use Rattle.symbol_class.specs.declared.difference.Difference.{Difference}
use Rattle.symbol_class.proofs.PartSteps.{two_sides}
use Rattle.symbol_class.proofs.Times.{times-cons, times-append, added_times, pieces_added, columns_added}
use Rattle.arc_table.specs.{declared.arc.TableArc.TableArc, declared.state.TableState.TableState}
use Rattle.arc_table.specs.{Moves.{moves_at, accepting_at}, MoveClasses.move_classes}
use Rattle.arc_table.proofs.Push.{accepting_old, accepting_new, moves_old, moves_new}
use Rattle.stage_tables.specs.Weighing.{AddsMoves, IsWeighedPart, IsWeighedFrom, AddsWeighed, AreWeighedMoves}
use Rattle.stage_tables.specs.Weighing.{AreWeighedStates}

-- how often the moves of two lists hold a column
held_append : {W : Type 0} {g : Ghosts W} (xs ys : List (TableArc W g)) (column : List Sym)
    → times_held (move_classes (xs ++ ys)) column
    ≡ times_held (move_classes xs) column + times_held (move_classes ys) column
held_append xs ys column = ap (λ cs. times_held cs column) (map-append (λ arc. arc.class) xs ys)
    ∙ times-append (move_classes xs) (move_classes ys) column

-- ---- moves on classes

module _ {h : Ghosts Count} (target weight : ℕ) (classes : List Class) (old : List (TableArc Count h)) where
  pub no_moves : AddsMoves target weight (take 0 classes) old old
  no_moves = record {
    added = [];
    new_is = sym (append-nil old);
    classes_are = refl;
    targets = All-nil _;
    weights = All-nil _;
  }

  pub one_move : (mid : List (TableArc Count h)) (n : ℕ) (arc : TableArc Count h)
      → AddsMoves target weight (take n classes) old mid → n < length classes → arc.class ≡ get_or classes n arc.class
      → arc.target ≡ target → arc.weight.0 ≡ weight
      → AddsMoves target weight (take (n + 1) classes) old (mid ++ arc ∷ [])
  one_move mid n arc so_far inside is at weighs = record {
    added = so_far.added ++ arc ∷ [];
    new_is = ap (λ xs. xs ++ arc ∷ []) so_far.new_is ∙ append_assoc old so_far.added (arc ∷ []);
    classes_are = map-append (λ (a : TableArc Count h). a.class) so_far.added (arc ∷ [])
        ∙ ap (λ cs. cs ++ arc.class ∷ []) so_far.classes_are ∙ ap (λ c. take n classes ++ c ∷ []) is
        ∙ sym (take_more _ n _ inside);
    targets = All-push (λ (a : TableArc Count h). a.target ≡ target) so_far.added arc so_far.targets at;
    weights = All-push (λ (a : TableArc Count h). a.weight.0 ≡ weight) so_far.added arc so_far.weights weighs;
  }

  pub all_moves : (new : List (TableArc Count h)) (n : ℕ) → AddsMoves target weight (take n classes) old new
      → n ≡ length classes → AddsMoves target weight classes old new
  all_moves new n so_far last = rw (ap (λ k. take k classes) last ∙ take-length classes) at so_far

-- ---- parts of a kept move

module _ {g : Ghosts UnitWeight} {h : Ghosts Count} (cost : List Sym → ℕ) (arc : TableArc UnitWeight g) where
  -- moves on columns of the kept move that all cost so much
  pub side_weighed : (weight : ℕ) (p : List Sym → Bool) (classes : List Class) (old new : List (TableArc Count h))
      → AddsClasses (length (sets_of arc.class)) [] classes (λ column. once_if (p column))
      → ((column : List Sym) → IsTrue (p column) → IsTrue (has arc.class column) × (weight ≡ cost column))
      → AddsMoves arc.target weight classes old new
      → AddsWeighed cost arc (λ column. once_if (p column)) old new
  side_weighed weight p classes old new a on m = record {
    added = m.added;
    new_is = m.new_is;
    each = λ k d inside.
        let b = get_or m.added k d in
        let same = ap (λ cs. get_or cs k d.class) (sym m.classes_are) ∙ get_or-map _ _ k d _ inside in
        let there : k < length classes = omega
        (arith, inside, ap length m.classes_are, length-map m.added (λ (x : TableArc Count h). x.class)) in
        let pieces = pieces_added _ _ p a in
        let passes : (column : List Sym) → IsTrue (has b.class column) → IsTrue (p column) = (λ column held.
        sym (columns_added _ _ p a _) ∙ list_any_at _ _ k _ there (ap (λ c. has c column) same ∙ held)) in
        record {
          same_target = m.targets k d inside;
          within = λ column held. (on column (passes column held)).0;
          weighs = λ column held. m.weights k d inside ∙ (on column (passes column held)).1;
          filled = rw same at (pieces.filled k d.class there);
          same_width = sym (ap (λ c. length (sets_of c)) same) ∙ pieces.one_width k d.class there;
        };
    held = λ column. ap (λ cs. times_held cs column) m.classes_are ∙ added_times _ _ _ a _;
  }

  pub both_weighed : (s t u : List Sym → ℕ) (old mid new : List (TableArc Count h))
      → AddsWeighed cost arc s old mid → AddsWeighed cost arc t mid new
      → ((column : List Sym) → s column + t column ≡ u column) → AddsWeighed cost arc u old new
  both_weighed s t u old mid new a b e = record {
    added = a.added ++ b.added;
    new_is = b.new_is ∙ ap (λ xs. xs ++ b.added) a.new_is ∙ append_assoc old a.added b.added;
    each = All-append (IsWeighedPart cost arc) a.added b.added a.each b.each;
    held = λ column. omega (arith, held_append a.added b.added column, a.held column, b.held column, e column);
  }

-- a class alone
pub one_class : (class : Class) → IsTrue (is_filled class)
    → AddsClasses (length (sets_of class)) [] (class ∷ []) (λ column. once_if (has class column))
one_class class filled = record {
  added = class ∷ [];
  new_is = refl;
  one_width = All-push (λ (c : Class). length (sets_of c) ≡ length (sets_of class)) [] class
      (All-nil (λ (c : Class). length (sets_of c) ≡ length (sets_of class))) refl;
  filled = All-push (λ (c : Class). IsTrue (is_filled c)) [] class
      (All-nil (λ (c : Class). IsTrue (is_filled c))) filled;
  held = λ column. let one = times-cons class [] column in omega (arith, one);
}

-- the whole move, where all its columns cost so much
pub whole_weighed : {g : Ghosts UnitWeight} {h : Ghosts Count} (cost : List Sym → ℕ) (arc : TableArc UnitWeight g)
    (weight : ℕ) (old new : List (TableArc Count h)) → IsTrue (is_filled arc.class)
    → ((column : List Sym) → IsTrue (has arc.class column) → weight ≡ cost column)
    → AddsMoves arc.target weight (arc.class ∷ []) old new
    → AddsWeighed cost arc (λ column. once_if (has arc.class column)) old new
whole_weighed cost arc weight old new filled same m =
    side_weighed cost arc weight (λ column. has arc.class column) (arc.class ∷ []) old new
    (one_class arc.class filled) (λ column held. (held, same column held)) m

-- its columns that do not pass a test, and those that do
pub sides_weighed : {g : Ghosts UnitWeight} {h : Ghosts Count} (arc : TableArc UnitWeight g) (test : Difference)
    (outside inside : List Class) (old mid new : List (TableArc Count h))
    → AddsClasses (length (sets_of arc.class)) [] outside
    (λ column. once_if (has arc.class column && not (differs test column)))
    → AddsMoves arc.target 0 outside old mid
    → AddsClasses (length (sets_of arc.class)) [] inside
    (λ column. once_if (has arc.class column && differs test column))
    → AddsMoves arc.target 1 inside mid new
    → AddsWeighed (λ column. once_if (differs test column)) arc (λ column. once_if (has arc.class column)) old new
sides_weighed arc test outside inside old mid new a m b n =
    both_weighed (λ column. once_if (differs test column)) arc
    (λ column. once_if (has arc.class column && not (differs test column)))
    (λ column. once_if (has arc.class column && differs test column)) (λ column. once_if (has arc.class column))
    old mid new
    (side_weighed (λ column. once_if (differs test column)) arc 0
    (λ column. has arc.class column && not (differs test column)) outside old mid a
    (λ column h. (let both = and_parts (has arc.class column) (not (differs test column)) h in
    (both.0, sym (ap once_if (not-true (differs test column) both.1))))) m)
    (side_weighed (λ column. once_if (differs test column)) arc 1
    (λ column. has arc.class column && differs test column) inside mid new b
    (λ column h. (let both = and_parts (has arc.class column) (differs test column) h in
    (both.0, sym (ap once_if both.1)))) n)
    (λ column. two_sides (has arc.class column) (differs test column))

-- ---- all kept moves of a state

module _ {g : Ghosts UnitWeight} {h : Ghosts Count} (cost : List Sym → ℕ) where
  pub none_weighed : (arcs : List (TableArc UnitWeight g)) (moves : List (TableArc Count h)) → moves ≡ []
      → AreWeighedMoves cost (take 0 arcs) moves
  none_weighed arcs moves none = rw none
      (record { each = All-nil _; held = λ column. refl })

  then_weighed : (arcs : List (TableArc UnitWeight g)) (arc : TableArc UnitWeight g) (old new : List (TableArc Count h))
      → AreWeighedMoves cost arcs old → AddsWeighed cost arc (λ column. once_if (has arc.class column)) old new
      → AreWeighedMoves cost (arcs ++ arc ∷ []) new
  then_weighed arcs arc old new so_far a =
      subst (λ (xs : List (TableArc Count h)). AreWeighedMoves cost (arcs ++ arc ∷ []) xs) (sym a.new_is) (record {
        each = All-append (IsWeighedFrom cost (arcs ++ arc ∷ [])) old a.added
            (λ k d l. (let from = so_far.each k d l in record {
              arc = from.arc;
              listed = Contains-append_left arcs (arc ∷ []) from.arc from.listed;
              is = from.is;
            }))
            (λ k d l. record {
              arc = arc;
              listed = Contains-append_right arcs (arc ∷ []) arc (0, omega arith, refl);
              is = a.each k d l;
            });
        held = λ column.
            let one = times-cons arc.class [] column in
            omega (
              arith,
              held_append old a.added column,
              held_append arcs (arc ∷ []) column,
              so_far.held column,
              a.held column,
              one,
            );
      })

  pub one_weighed : (arcs : List (TableArc UnitWeight g)) (n : ℕ) (arc : TableArc UnitWeight g)
      (old new : List (TableArc Count h))
      → AreWeighedMoves cost (take n arcs) old → n < length arcs → arc ≡ get_or arcs n arc
      → AddsWeighed cost arc (λ column. once_if (has arc.class column)) old new
      → AreWeighedMoves cost (take (n + 1) arcs) new
  one_weighed arcs n arc old new so_far inside is a = rw (ap (λ x. take n arcs ++ x ∷ []) is ∙ sym
      (take_more arcs n arc inside)) at (then_weighed _ _ _ _ so_far a)

  pub all_weighed : (arcs : List (TableArc UnitWeight g)) (n : ℕ) (moves : List (TableArc Count h))
      → AreWeighedMoves cost (take n arcs) moves → n ≡ length arcs → AreWeighedMoves cost arcs moves
  all_weighed arcs n moves so_far last = rw (ap (λ k. take k arcs) last ∙ take-length arcs) at so_far

  -- costs that are the same on the columns of the kept moves
  pub same_weighed : (other : List Sym → ℕ) (arcs : List (TableArc UnitWeight g)) (moves : List (TableArc Count h))
      → ((a : TableArc UnitWeight g) (column : List Sym) → Contains arcs a → IsTrue (has a.class column)
      → cost column ≡ other column)
      → AreWeighedMoves cost arcs moves → AreWeighedMoves other arcs moves
  same_weighed other arcs moves same are = record {
    each = λ k d l. (let from = are.each k d l in record {
      arc = from.arc;
      listed = from.listed;
      is = record {
        same_target = from.is.same_target;
        within = from.is.within;
        weighs = λ column held. from.is.weighs column held
            ∙ same from.arc column from.listed (from.is.within column held);
        filled = from.is.filled;
        same_width = from.is.same_width;
      };
    });
    held = are.held;
  }

-- ---- states

module _ {g : Ghosts UnitWeight} {h : Ghosts Count} (cost : ℕ → List Sym → ℕ)
    (kept : List (TableState UnitWeight g)) where
  pub no_states : (states : List (TableState Count h)) → states ≡ [] → AreWeighedStates cost kept states 0
  no_states states none = record {
    count = ap (λ (xs : List (TableState Count h)). length xs) none;
    ends = λ s l. absurd (omega (arith, l));
    moves = λ s l. absurd (omega (arith, l));
  }

  pub next_state : (states : List (TableState Count h)) (n : ℕ) (state : TableState Count h)
      → AreWeighedStates cost kept states n → state.accepting ≡ accepting_at kept n
      → AreWeighedMoves (cost n) (moves_at kept n) state.arcs.items
      → AreWeighedStates cost kept (states ++ state ∷ []) (n + 1)
  next_state states n state so_far ends moves = record {
    count = omega (arith, length_push states state, so_far.count);
    ends = λ s l. elim (cases_lt s n) [
      | inl less ↦ accepting_old states state s (omega (arith, less, so_far.count)) ∙ so_far.ends s less
      | inr more ↦
          (let same : s ≡ n = omega (arith, l, more) in
          ap (accepting_at (states ++ state ∷ [])) (same ∙ sym so_far.count) ∙ accepting_new states state ∙ ends
          ∙ ap (accepting_at kept) (sym same))
    ];
    moves = λ s l. elim (cases_lt s n) [
      | inl less ↦ subst (AreWeighedMoves (cost s) (moves_at kept s))
          (sym (moves_old states state s (omega (arith, less, so_far.count)))) (so_far.moves s less)
      | inr more ↦
          (let same : n ≡ s = omega (arith, l, more) in
          let last : moves_at (states ++ state ∷ []) n
          ≡ state.arcs.items = ap (moves_at (states ++ state ∷ [])) (sym so_far.count) ∙ moves_new states state in
          subst (λ i. AreWeighedMoves (cost i) (moves_at kept i) (moves_at (states ++ state ∷ []) i)) same
          (subst (AreWeighedMoves (cost n) (moves_at kept n)) (sym last) moves))
    ];
  }
