-- Moves that are taken one by one.
use Rattle.std.proofs.Common.{◌≡◌, ℕ, zero, suc, ◌+◌, ◌-◌, ◌==◌, cond, ne_eqb, ◌<◌, Bool, true, false, List, []}
use Rattle.std.proofs.Common.{◌∷◌, ◌++◌, take, length, get_or, refl, ap, sym, ◌∙◌, subst, arith, inl, inr, All}
use Rattle.std.proofs.{Common.{Contains, IsTrue}, lemmas.Bool.{false≢true, cases_lt, false_from_ne_true}}
use Rattle.std.proofs.lemmas.List.Folds.{list_any_at}
use Rattle.std.proofs.lemmas.List.{get_or-map, length-map, take_more, append-nil, append_assoc, map-append}
use Rattle.std.proofs.lemmas.List.Elements.{All-nil, All-append, All-push, Contains-append_left}
use Rattle.std.proofs.{lemmas.List.Elements.Contains-append_right, Math.Seq.take-length}
use Rattle.weight_law.specs.{declared.Weight.Ghosts, declared.count.Count.Count}
use Rattle.weight_law.specs.declared.unit_weight.UnitWeight.{UnitWeight}
use Rattle.tier_core.specs.{declared.class.Class.Class, declared.kind.Kind.Kind, declared.sym.Sym.Sym}
use Rattle.tier_core.specs.{Classes.{sets_of, has}, Filled.is_filled, FirstColumn.first_column, Kinds.PrefixKind}
use Rattle.symbol_class.specs.Held.{some_has, times_held}
use Rattle.symbol_class.proofs.Times.{times-cons, times-append, once_from_apart}
use Rattle.tier_core.proofs.Filled.{has-first_column}
use Rattle.arc_table.specs.{declared.arc.TableArc.TableArc, Moves.moves_at, Conditions.TargetsExist}
use Rattle.arc_table.specs.{declared.state.TableState.TableState, MoveClasses.move_classes}
use Rattle.violation.specs.{Moves.{move_costs, cost_of}, Problems.Problem}
use Rattle.kind_moves.proofs.LeavingPieces.{held_once}
use Rattle.kind_moves.specs.{declared.frame.Frame.Frame, declared.piece.Piece.Piece}
use Rattle.kind_moves.specs.{Frames.{problem_in, tiers_in, kind_at_stage, FitsAt}, Pieces.piece_classes}
use Rattle.stage_tables.specs.{declared.exploring.Exploring.Exploring, declared.listed.Listed.Listed}
use Rattle.stage_tables.specs.Listed.{StandsOver, IsReached, AreTargets, IsTaken, IsTakenFrom, AreTakenMoves}
use Rattle.stage_tables.specs.Exploring.{IsFoundWithin, StaysListed, ArePiecesFrom, IsPieceFrom, AddsTaken}
use Rattle.stage_tables.proofs.Finding.{next_stands, next_reached, taken_stays, moves_taken_stay}

-- ---- a piece of a kept move

-- it has a column
piece_column : (exploring : Exploring) (kind : Kind) (class : Class) (piece : Piece)
    → IsPieceFrom exploring kind class piece → (column : List Sym) × IsTrue (has piece.class column)
piece_column exploring kind class piece p = (first_column piece.class, has-first_column _ p.filled)

module _ {g : Ghosts UnitWeight} (exploring : Exploring) (kept : List (TableState UnitWeight g))
    (exist : TargetsExist kept) (kind : Kind) (s : ℕ) (arc : TableArc UnitWeight g)
    (here : Contains (moves_at kept s) arc) (piece : Piece) (p : IsPieceFrom exploring kind arc.class piece) where
  pub piece_stands : StandsOver exploring.frame.now exploring.stage (length kept) piece.target arc.target
  piece_stands =
      let column = piece_column _ _ _ _ p in
      next_stands _ _ _ exist _ s _ _ here _ (p.is.moves column.0 column.1)

  pub piece_reached : IsReached exploring.frame.now exploring.stage kept kind s
      → IsReached exploring.frame.now exploring.stage kept piece.target arc.target
  piece_reached r =
      let column = piece_column _ _ _ _ p in
      next_reached _ _ _ exist _ s r _ _ here (p.within column.0 column.1) _ (p.is.moves column.0 column.1)

-- what a column costs under the last constraint, and 0 where there is none
pub last_cost : (problem : Problem) (stage : ℕ) (k : PrefixKind) (column : List Sym)
    → cond (stage == 0) 0 (get_or (move_costs problem stage k column) (stage - 1) 0) ≡ cost_of problem stage k column
last_cost problem zero k column = refl
last_cost problem (suc n) k column =
    ap (λ b. cond b 0 (get_or (move_costs problem (suc n) k column) (suc n - 1) 0))
    (ne_eqb (suc n) 0 (λ e. omega (arith, e)))

pub piece_weighs : (exploring : Exploring) (kind : Kind) {class : Class} (piece : Piece)
    → IsPieceFrom exploring kind class piece → (column : List Sym) → IsTrue (has piece.class column)
    → piece.cost ≡ cost_of (problem_in exploring.frame.now) exploring.stage
    (kind_at_stage exploring.frame.now exploring.stage kind) column
piece_weighs exploring kind piece p column has_column =
    p.is.costs column has_column
    ∙ last_cost (problem_in exploring.frame.now) exploring.stage
    (kind_at_stage exploring.frame.now exploring.stage kind) column

-- ---- the pieces of one kept move

pub pieces_hold : (exploring : Exploring) (kind : Kind) (class : Class) (pieces : List Piece)
    → ArePiecesFrom exploring kind class pieces → (column : List Sym)
    → FitsAt exploring.frame.now exploring.stage kind column
    → times_held (piece_classes pieces) column ≡ times_held (class ∷ []) column
pieces_hold exploring kind class pieces are column fits = held_once _ _ _ (once_from_apart _ are.apart.apart _)
    (same (has class column) refl)
    ∙ sym (let one = times-cons class [] column in omega (arith, one))
  where
    same : (b : Bool) → has class column ≡ b → some_has (piece_classes pieces) column ≡ has class column
    same true h = (are.columns column).1 (h, fits) ∙ sym h
    same false h = false_from_ne_true _ (λ some. false≢true (sym h ∙ ((are.columns column).0 some).0)) ∙ sym h

-- a piece of the list
pub piece_from : (exploring : Exploring) (kind : Kind) (class : Class) (pieces : List Piece)
    → ArePiecesFrom exploring kind class pieces → (n : ℕ) (piece : Piece) → n < length pieces
    → piece ≡ get_or pieces n piece → IsPieceFrom exploring kind class piece
piece_from exploring kind class pieces are n piece inside is = rw is (record {
  within = λ column h. ((are.columns column).0 (list_any_at _ _ n _ long (ap (λ c. has c column) same ∙ h))).0;
  is = are.each n piece inside;
  alike = λ r low high. are.alike r low high n piece inside;
  filled = rw same at (are.apart.filled n piece.class long);
  wide = rw same at (are.apart.one_width n piece.class long);
})
  where
    long : n < length (piece_classes pieces)
    long = omega (arith, inside, length-map pieces (λ (p : Piece). p.class))

    same : get_or (piece_classes pieces) n piece.class ≡ (get_or pieces n piece).class
    same = get_or-map _ _ n _ _ inside

-- the moves on the first n of some classes are put behind others
pub record PushedSoFar {g : Ghosts UnitWeight} {h : Ghosts Count} (exploring : Exploring) (first now : Listed)
    (kind : Kind) (arc : TableArc UnitWeight g) (parts : List Class) (old new : List (TableArc Count h))
    (n : ℕ) : Type 0 where
  pub found : IsFoundWithin exploring now
  pub stays : StaysListed first now
  pub added : List (TableArc Count h)
  pub new_is : new ≡ old ++ added
  pub targets : AreTargets first.kinds.entries now.kinds.entries added
  pub classes : move_classes added ≡ take n parts
  pub each : All (IsTaken exploring.frame.now exploring.first exploring.stage now.kinds.entries kind arc)
      added

pub none_pushed : {g : Ghosts UnitWeight} {h : Ghosts Count} (exploring : Exploring) (first : Listed) (kind : Kind)
    (arc : TableArc UnitWeight g) (parts : List Class) (old : List (TableArc Count h)) → IsFoundWithin exploring first
    → PushedSoFar exploring first first kind arc parts old old 0
none_pushed exploring first kind arc parts old found = record {
  found = found;
  stays = λ k other s at. at;
  added = [];
  new_is = sym (append-nil old);
  targets = λ k low high. absurd (omega (arith, low, high));
  classes = refl;
  each = All-nil _;
}

-- targets of two lists of moves, one after the other
targets_then : {h : Ghosts Count} (first now next : List (Kind × ℕ)) (xs ys : List (TableArc Count h))
    → AreTargets first now xs → AreTargets now next ys → AreTargets first next (xs ++ ys)
targets_then first now next xs ys a b k low high = elim (cases_lt k (length now)) [
  | inl lower ↦ (let was = a k low lower in (was.0, Contains-append_left xs ys _ was.1, was.2))
  | inr upper ↦ (let new = b k upper high in (new.0, Contains-append_right xs ys _ new.1, new.2))
]

pub one_pushed : {g : Ghosts UnitWeight} {h : Ghosts Count} (exploring : Exploring) (first now next : Listed)
    (kind : Kind) (arc : TableArc UnitWeight g) (parts : List Class) (old new : List (TableArc Count h)) (n : ℕ)
    (part : Class) (made : TableArc Count h)
    → PushedSoFar exploring first now kind arc parts old new n → n < length parts → part ≡ get_or parts n part
    → IsFoundWithin exploring next → StaysListed now next
    → AreTargets now.kinds.entries next.kinds.entries (made ∷ []) → made.class ≡ part
    → IsTaken exploring.frame.now exploring.first exploring.stage next.kinds.entries kind arc made
    → PushedSoFar exploring first next kind arc parts old (new ++ made ∷ []) (n + 1)
one_pushed exploring first now next kind arc parts old new n part made so_far inside is found stays targets class
    taken = record {
      found = found;
      stays = λ k other s at. stays k other s (so_far.stays k other s at);
      added = so_far.added ++ made ∷ [];
      new_is = ap (λ xs. xs ++ made ∷ []) so_far.new_is ∙ append_assoc old so_far.added (made ∷ []);
      targets = targets_then _ _ _ _ _ so_far.targets targets;
      classes = map-append (λ arc. arc.class) so_far.added (made ∷ []) ∙ ap (λ cs. cs ++ made.class ∷ []) so_far.classes
          ∙ ap (λ c. take n parts ++ c ∷ []) (class ∙ is) ∙ sym (take_more _ n _ inside);
      each = All-push (IsTaken exploring.frame.now exploring.first exploring.stage next.kinds.entries kind arc)
          so_far.added made (λ k d l. taken_stays _ _ _ _ _ stays _ _ _ (so_far.each k d l)) taken;
    }

pub all_pushed : {g : Ghosts UnitWeight} {h : Ghosts Count} (exploring : Exploring) (first now : Listed) (kind : Kind)
    (arc : TableArc UnitWeight g) (parts : List Class) (old new : List (TableArc Count h)) (n : ℕ)
    → PushedSoFar exploring first now kind arc parts old new n → n ≡ length parts
    → ((column : List Sym) → FitsAt exploring.frame.now exploring.stage kind column
    → times_held parts column ≡ times_held (arc.class ∷ []) column) → AddsTaken exploring first now kind arc old new
all_pushed exploring first now kind arc parts old new n so_far last hold = record {
  added = so_far.added;
  new_is = so_far.new_is;
  targets = so_far.targets;
  taken = record {
    each = λ k d l. record { arc = arc; listed = (0, omega arith, refl); taken = so_far.each k d l };
    held = λ column fits.
        ap (λ cs. times_held cs column) (so_far.classes ∙ ap (λ k. take k parts) last ∙ take-length parts)
        ∙ hold column fits;
  };
}

-- ---- all kept moves from a state

-- moves of two lists of kept ones
taken_then : {g : Ghosts UnitWeight} {h : Ghosts Count} (frame : Frame) (first stage : ℕ)
    (entries : List (Kind × ℕ)) (kind : Kind) (ks ls : List (TableArc UnitWeight g)) (xs ys : List (TableArc Count h))
    → AreTakenMoves frame first stage entries kind ks xs → AreTakenMoves frame first stage entries kind ls ys
    → AreTakenMoves frame first stage entries kind (ks ++ ls) (xs ++ ys)
taken_then {g} {h} frame first stage entries kind ks ls xs ys a b = record {
  each = All-append (IsTakenFrom frame first stage entries kind (ks ++ ls)) xs ys
      (λ k d l. (let from = a.each k d l in record {
        arc = from.arc;
        listed = Contains-append_left ks ls from.arc from.listed;
        taken = from.taken;
      }))
      (λ k d l. (let from = b.each k d l in record {
        arc = from.arc;
        listed = Contains-append_right ks ls from.arc from.listed;
        taken = from.taken;
      }));
  held = λ column fits.
      omega (arith, split xs ys column, a.held column fits, b.held column fits, parts column);
}
  where
    split : (xs ys : List (TableArc Count h)) (column : List Sym) → times_held (move_classes (xs ++ ys)) column
        ≡ times_held (move_classes xs) column + times_held (move_classes ys) column
    split xs ys column = ap (λ cs. times_held cs column) (map-append (λ arc. arc.class) xs ys)
        ∙ times-append (move_classes xs) (move_classes ys) column

    parts : (column : List Sym) → times_held (move_classes (ks ++ ls)) column
        ≡ times_held (move_classes ks) column + times_held (move_classes ls) column
    parts column = ap (λ cs. times_held cs column) (map-append (λ arc. arc.class) ks ls)
        ∙ times-append (move_classes ks) (move_classes ls) column

-- the first n kept moves are taken
pub record TakenSoFar {g : Ghosts UnitWeight} {h : Ghosts Count} (exploring : Exploring) (first now : Listed)
    (kind : Kind) (arcs : List (TableArc UnitWeight g)) (moves : List (TableArc Count h)) (n : ℕ) : Type 0 where
  pub found : IsFoundWithin exploring now
  pub stays : StaysListed first now
  pub targets : AreTargets first.kinds.entries now.kinds.entries moves
  pub taken : AreTakenMoves exploring.frame.now exploring.first exploring.stage now.kinds.entries kind
      (take n arcs) moves

pub none_taken : {g : Ghosts UnitWeight} {h : Ghosts Count} (exploring : Exploring) (first : Listed) (kind : Kind)
    (arcs : List (TableArc UnitWeight g)) (moves : List (TableArc Count h)) → moves ≡ []
    → IsFoundWithin exploring first → TakenSoFar exploring first first kind arcs moves 0
none_taken {g} {h} exploring first kind arcs moves none found = rw none (record {
  found = found;
  stays = λ k other s at. at;
  targets = λ k low high. absurd (omega (arith, low, high));
  taken = record {
    each = All-nil _;
    held = λ column fits. refl;
  };
})

pub one_taken : {g : Ghosts UnitWeight} {h : Ghosts Count} (exploring : Exploring) (first now next : Listed)
    (kind : Kind) (arcs : List (TableArc UnitWeight g)) (moves more : List (TableArc Count h)) (n : ℕ)
    (arc : TableArc UnitWeight g)
    → TakenSoFar exploring first now kind arcs moves n → n < length arcs → arc ≡ get_or arcs n arc
    → IsFoundWithin exploring next → StaysListed now next → AddsTaken exploring now next kind arc moves more
    → TakenSoFar exploring first next kind arcs more (n + 1)
one_taken {g} {h} exploring first now next kind arcs moves more n arc so_far inside is found stays adds =
    subst (λ (xs : List (TableArc Count h)). TakenSoFar exploring first next kind arcs xs (n + 1)) (sym adds.new_is)
    (record {
      found = found;
      stays = λ k other s at. stays k other s (so_far.stays k other s at);
      targets = targets_then first.kinds.entries now.kinds.entries next.kinds.entries moves adds.added so_far.targets
          adds.targets;
      taken =
          (let before = moves_taken_stay exploring.frame.now exploring.first exploring.stage now.kinds.entries
          next.kinds.entries stays kind (take n arcs) moves so_far.taken in
          let is_more : take (n + 1) arcs ≡ take n arcs ++ arc ∷ [] = take_more arcs n arc inside
          ∙ ap (λ x. take n arcs ++ x ∷ []) (sym is) in
          subst (λ (xs : List (TableArc UnitWeight g)). AreTakenMoves exploring.frame.now exploring.first
          exploring.stage next.kinds.entries kind xs (moves ++ adds.added)) (sym is_more)
          (taken_then exploring.frame.now exploring.first exploring.stage next.kinds.entries kind
          (take n arcs) (arc ∷ []) moves adds.added before adds.taken));
    })

pub all_taken : {g : Ghosts UnitWeight} {h : Ghosts Count} (exploring : Exploring) (first now : Listed) (kind : Kind)
    (arcs all : List (TableArc UnitWeight g)) (moves : List (TableArc Count h)) (n : ℕ)
    → TakenSoFar exploring first now kind arcs moves n → n ≡ length arcs → arcs ≡ all
    → AreTakenMoves exploring.frame.now exploring.first exploring.stage now.kinds.entries kind all moves
all_taken {g} {h} exploring first now kind arcs all moves n so_far last is =
    let whole = ap (λ k. take k arcs) last ∙ take-length arcs ∙ is in
    rw whole at so_far.taken
