-- Parts of a kept move by the tests of the last constraint: where they lead, and what they cost.
use Rattle.std.proofs.Common.{◌≡◌, ℕ, ◌+◌, ◌<◌, ◌≤◌, Bool, List, [], ◌∷◌, length, get_or, ap, sym, ◌∙◌}
use Rattle.std.proofs.{Common.{subst, arith, Contains, IsTrue}, lemmas.List.Folds.list_any_at}
use Rattle.weight_law.specs.{declared.Weight.Ghosts, declared.unit_weight.UnitWeight.UnitWeight}
use Rattle.tier_core.specs.{declared.class.Class.Class, declared.kind.Kind.Kind, declared.sym.Sym.Sym}
use Rattle.tier_core.specs.{Classes.{sets_of, has}, Filled.is_filled}
use Rattle.tier_core.proofs.Bools.{or_false}
use Rattle.symbol_class.specs.{Held.{once_if}, Parts.{IsAlike, ArePartedBy}}
use Rattle.symbol_class.proofs.Times.{some_from_same}
use Rattle.arc_table.specs.{declared.arc.TableArc.TableArc, declared.state.TableState.TableState, Moves.moves_at}
use Rattle.kind_moves.specs.{declared.last_tests.LastTests.LastTests, declared.piece.Piece.Piece}
use Rattle.kind_moves.specs.{Fitting.IsMovedAlike, Frames.{problem_in, tiers_in, FitsAt}, LastMoves.tested}
use Rattle.kind_moves.specs.Pieces.{cost_under, IsPiece}
use Rattle.stage_tables.specs.{declared.exploring.Exploring.Exploring, Exploring.IsPieceFrom, Kept.IsKeptTable}
use Rattle.stage_tables.specs.{Listed.IsReached, TestedParts.{AreLastAt, AreSomeOf}}
use Rattle.stage_tables.proofs.{LeftBefore.{move_fits, move_alike}, PiecesParted.piece_alike}

module _ (exploring : Exploring) (tests : LastTests) (class : Class) (parts : List Class)
    (are : ArePartedBy (tiers_in exploring.frame.now).width (tested tests) (class ∷ []) parts)
    (n : ℕ) (part : Class) (inside : n < length parts) (is : part ≡ get_or parts n part) where
  -- a part has some columns of the class
  pub part_some : AreSomeOf exploring class part
  part_some = record {
    within = λ column h. sym (some_from_same parts (class ∷ []) column (are.held column) ∙ or_false _) ∙ list_any_at _ _
        n _ inside (ap (λ c. has c column) (sym is) ∙ h);
    filled = rw is (are.pieces.filled n part inside);
    wide = ap (λ (c : Class). length (sets_of c)) is ∙ are.pieces.one_width n part inside;
  }

  -- and the tests say the same of all of them
  pub part_alike : IsAlike (tested tests) part
  part_alike = rw is (are.alike n part inside)

module _ {g : Ghosts UnitWeight} (exploring : Exploring) (kind : Kind) (tests : LastTests)
    (are : AreLastAt exploring kind tests) (kept : List (TableState UnitWeight g))
    (table : IsKeptTable (problem_in exploring.frame.now) exploring.before kept)
    (s : ℕ) (reached : IsReached exploring.frame.now exploring.stage kept kind s)
    (arc : TableArc UnitWeight g) (here : Contains (moves_at kept s) arc)
    (part : Class) (some : AreSomeOf exploring arc.class part) where
  further : exploring.before ≤ exploring.stage
  further = omega (arith, are.0)

  pub some_fit : (column : List Sym) → IsTrue (has part column)
      → FitsAt exploring.frame.now exploring.stage kind column
  some_fit column h = move_fits exploring.frame.now exploring.before exploring.stage further exploring.within kept table
      kind s reached arc here column (some.within column h)

  module _ (alike : IsAlike (tested tests) part) where
    pub some_moved : IsMovedAlike exploring.frame.now exploring.stage kind part
    some_moved c d has_c has_d =
        are.1.moved c d (some_fit c has_c) (some_fit d has_d)
        (move_alike exploring.frame.now exploring.before exploring.stage further exploring.within kept table kind s
        reached arc here c d (some.within c has_c) (some.within d has_d))
        (ap (λ (x : Bool × Bool). x.0) (alike c d has_c has_d))

    pub some_costed : IsAlike (cost_under exploring.frame.now exploring.stage exploring.stage kind) part
    some_costed c d has_c has_d =
        are.1.costs c (some_fit c has_c).width
        ∙ ap (λ (x : Bool × Bool). once_if x.1) (alike c d has_c has_d)
        ∙ sym (are.1.costs d (some_fit d has_d).width)

-- the piece of some columns of a kept move
pub piece_of_some : (exploring : Exploring) (next : exploring.before + 1 ≡ exploring.stage) (kind : Kind)
    (class part : Class) → AreSomeOf exploring class part → (piece : Piece) → piece.class ≡ part
    → IsPiece exploring.frame.now exploring.stage exploring.stage kind piece → IsPieceFrom exploring kind class piece
piece_of_some exploring next kind class part some piece same is = record {
  within = λ column h. some.within column (rw same at h);
  is = is;
  alike = λ r low high.
      (let last : exploring.stage ≡ r = omega (arith, low, high, exploring.last_alone next) in
      subst (λ (r : ℕ). IsAlike (cost_under exploring.frame.now exploring.stage r kind) piece.class) last
      (piece_alike _ _ _ _ _ is));
  filled = rw same some.filled;
  wide = ap (λ (c : Class). length (sets_of c)) same ∙ some.wide;
}
