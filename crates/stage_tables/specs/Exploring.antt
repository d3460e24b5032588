-- What is found while a kept table is explored.
use Rattle.std.specs.Prelude.{◌≡◌, ℕ, ◌<◌, ◌≤◌, ◌↔◌, List, [], ◌∷◌, ◌++◌, length, All, IsTrue}
use Rattle.std.specs.Map.{keys_of}
use Rattle.weight_law.specs.declared.Weight.{Ghosts}
use Rattle.weight_law.specs.declared.count.Count.{Count}
use Rattle.weight_law.specs.declared.unit_weight.UnitWeight.{UnitWeight}
use Rattle.tier_core.specs.declared.class.Class.{Class}
use Rattle.tier_core.specs.declared.kind.Kind.{Kind}
use Rattle.tier_core.specs.declared.sym.Sym.{Sym}
use Rattle.tier_core.specs.Classes.{sets_of, has}
use Rattle.tier_core.specs.Filled.{is_filled}
use Rattle.symbol_class.specs.Held.{some_has, ArePieces}
use Rattle.symbol_class.specs.Parts.{IsAlike}
use Rattle.arc_table.specs.declared.arc.TableArc.{TableArc}
use Rattle.arc_table.specs.declared.state.TableState.{TableState}
use Rattle.arc_table.specs.States.{states_of}
use Rattle.stage_tables.specs.declared.exploring.Exploring.{Exploring}
use Rattle.stage_tables.specs.declared.listed.Listed.{Listed}
use Rattle.kind_moves.specs.declared.piece.Piece.{Piece}
use Rattle.kind_moves.specs.Frames.{tiers_in, FitsAt}
use Rattle.kind_moves.specs.Pieces.{cost_under, piece_classes, IsPiece}
use Rattle.stage_tables.specs.Listed.{AreFound, AreTaken, AreTakenMoves, AreTargets, IsAt, Stays}

-- what is listed is found by exploring
abbrev pub IsFoundBy : Exploring → Listed → Type 0
IsFoundBy exploring listed = AreFound exploring.frame.now exploring.stage
    (states_of exploring.kept.now) listed.kinds.entries

-- and there are no more kinds than the budget
pub record IsFoundWithin (exploring : Exploring) (listed : Listed) : Type 0 where
  pub found : IsFoundBy exploring listed
  pub few : length listed.kinds.entries ≤ exploring.budget

-- or there are more
pub record IsFoundBeyond (exploring : Exploring) (listed : Listed) : Type 0 where
  pub found : IsFoundBy exploring listed
  pub more : exploring.budget < length listed.kinds.entries

-- a kind is listed over a state
abbrev pub IsListedOver : Listed → Kind → ℕ → Type 0
IsListedOver listed kind s = (k : ℕ) × IsAt listed.kinds.entries k kind s

-- what is listed keeps its number
abbrev pub StaysListed : Listed → Listed → Type 0
StaysListed old new = Stays old.kinds.entries new.kinds.entries

-- Pieces of a class that go on from a kind: they hold exactly its columns that fit the kind, no column
-- is in two, and under each constraint from the first on the columns of each cost the same.
pub record ArePiecesFrom (exploring : Exploring) (kind : Kind) (class : Class) (pieces : List Piece) : Type 0 where
  pub apart : ArePieces (tiers_in exploring.frame.now).width (piece_classes pieces)
  pub columns : (column : List Sym) → IsTrue (some_has (piece_classes pieces) column)
      ↔ (IsTrue (has class column) × FitsAt exploring.frame.now exploring.stage kind column)
  pub each : All (IsPiece exploring.frame.now exploring.stage exploring.stage kind) pieces
  pub alike : (r : ℕ) → exploring.first ≤ r → r ≤ exploring.stage
      → All (λ piece. IsAlike (cost_under exploring.frame.now exploring.stage r kind) piece.class) pieces

-- A piece of a class that goes on from a kind, which is not empty.
pub record IsPieceFrom (exploring : Exploring) (kind : Kind) (class : Class) (piece : Piece) : Type 0 where
  pub within : (column : List Sym) → IsTrue (has piece.class column) → IsTrue (has class column)
  pub is : IsPiece exploring.frame.now exploring.stage exploring.stage kind piece
  pub alike : (r : ℕ) → exploring.first ≤ r → r ≤ exploring.stage
      → IsAlike (cost_under exploring.frame.now exploring.stage r kind) piece.class
  pub filled : IsTrue (is_filled piece.class)
  pub wide : length (sets_of piece.class) ≡ (tiers_in exploring.frame.now).width

-- New moves for a kept one from a kind are put at the end of others, while their targets are listed.
pub record AddsTaken {g : Ghosts UnitWeight} {h : Ghosts Count} (exploring : Exploring) (first now : Listed)
    (kind : Kind) (arc : TableArc UnitWeight g) (old new : List (TableArc Count h)) : Type 0 where
  pub added : List (TableArc Count h)
  pub new_is : new ≡ old ++ added
  pub targets : AreTargets first.kinds.entries now.kinds.entries added
  pub taken : AreTakenMoves exploring.frame.now exploring.first exploring.stage now.kinds.entries kind
      (arc ∷ []) added

-- The kinds are all that are found, and the states are theirs, which are made of the kept ones.
pub record IsStageFound {h : Ghosts Count} (exploring : Exploring) (kinds : List Kind)
    (states : List (TableState Count h)) : Type 0 where
  pub entries : List (Kind × ℕ)
  pub named : kinds ≡ keys_of entries
  pub found : AreFound exploring.frame.now exploring.stage (states_of exploring.kept.now) entries
  pub taken : AreTaken exploring.frame.now exploring.first exploring.stage
      (states_of exploring.kept.now) entries states
  pub all : length states ≡ length entries

-- more kinds than the budget are found
abbrev pub IsTooMuchFound : Exploring → Type 0
IsTooMuchFound exploring = (listed : Listed) × IsFoundBeyond exploring listed
