-- Pieces that are parted by one constraint after another.
use Rattle.std.proofs.Common.{◌≡◌, ◌↔◌, ℕ, ◌+◌, ◌<◌, ◌≤◌, Bool, true, false, List, [], ◌∷◌, ◌++◌, take, length}
use Rattle.std.proofs.Common.{get_or, refl, ap, sym, ◌∙◌, subst, arith, inl, inr, All, IsTrue}
use Rattle.std.proofs.lemmas.Bool.{false≢true, cases_lt, false_from_ne_true}
use Rattle.std.proofs.lemmas.List.{append-nil, append_assoc, map-append, take_more, get_or-map, length-map}
use Rattle.std.proofs.lemmas.List.Elements.{All-nil, All-append, All-push, Contains-append_left, Contains-push}
use Rattle.std.proofs.{lemmas.List.Elements.{All-contains, All-map}, lemmas.List.Folds.list_any_at}
use Rattle.std.proofs.Math.Seq.{take-length}
use Rattle.tier_core.specs.{declared.class.Class.Class, declared.kind.Kind.Kind, declared.sym.Sym.Sym}
use Rattle.tier_core.specs.{Classes.{sets_of, has}, Filled.is_filled}
use Rattle.symbol_class.specs.{Held.{some_has, times_held, ArePieces}, Parts.IsAlike}
use Rattle.symbol_class.proofs.Times.{times-cons, times-append, once_from_apart, some_from_same, pieces_from_once}
use Rattle.kind_moves.proofs.LeavingPieces.{held_once}
use Rattle.kind_moves.specs.{declared.frame.Frame.Frame, declared.piece.Piece.Piece}
use Rattle.kind_moves.specs.{Frames.{tiers_in, FitsAt, IsMove}, Pieces.{cost_under, piece_classes, IsPiece}}
use Rattle.stage_tables.specs.{declared.exploring.Exploring.Exploring, Exploring.ArePiecesFrom}
use Rattle.stage_tables.specs.PartedPieces.{IsPartOfPiece, AddsParts, IsPartOfSome, ArePartedPieces}
use Rattle.stage_tables.specs.PartedPieces.{ArePiecesBefore}

-- what a piece costs is what each of its columns does
pub piece_alike : (frame : Frame) (stage constraint : ℕ) (kind : Kind) (piece : Piece)
    → IsPiece frame stage constraint kind piece → IsAlike (cost_under frame stage constraint kind) piece.class
piece_alike frame stage constraint kind piece is c d has_c has_d = sym (is.costs c has_c) ∙ is.costs d has_d

-- pieces of a piece that cost the same under a constraint
pub record AreFiner (exploring : Exploring) (constraint : ℕ) (kind : Kind) (piece : Piece)
    (finer : List Piece) : Type 0 where
  pub apart : ArePieces (tiers_in exploring.frame.now).width (piece_classes finer)
  pub columns : (column : List Sym) → IsTrue (some_has (piece_classes finer) column)
      ↔ (IsTrue (has piece.class column) × FitsAt exploring.frame.now exploring.stage kind column)
  pub each : All (IsPiece exploring.frame.now exploring.stage constraint kind) finer

module _ (exploring : Exploring) (constraint : ℕ) (kind : Kind) where
  -- ---- the parts of one piece

  -- the first n of the finer pieces are put behind others
  pub record PushedParts (piece : Piece) (finer old new : List Piece) (n : ℕ) : Type 0 where
    pub added : List Piece
    pub new_is : new ≡ old ++ added
    pub classes : piece_classes added ≡ piece_classes (take n finer)
    pub good : All (IsPartOfPiece exploring constraint kind piece) added

  pub no_parts : (piece : Piece) (finer old : List Piece) → PushedParts piece finer old old 0
  no_parts piece finer old = record {
    added = [];
    new_is = sym (append-nil old);
    classes = refl;
    good = All-nil _;
  }

  module _ (piece : Piece) (is : IsPiece exploring.frame.now exploring.stage exploring.stage kind piece)
      (finer : List Piece) (are : AreFiner exploring constraint kind piece finer) where
    -- a finer piece, with the target and the cost of the piece
    part_of : (n : ℕ) (part made : Piece) → n < length finer → part ≡ get_or finer n part
        → made.class ≡ part.class → made.target ≡ piece.target → made.cost ≡ piece.cost
        → IsPartOfPiece exploring constraint kind piece made
    part_of n part made inside at class target cost = record {
      within = within;
      is = record {
        moves = λ column h. rw target (is.moves column (within _ h));
        costs = λ column h. cost ∙ is.costs column (within _ h);
      };
      alike = rw same (piece_alike _ _ _ _ _ (are.each n part inside));
      filled = rw (listed ∙ sym same) at (are.apart.filled n part.class long);
      wide = rw (listed ∙ sym same) at (are.apart.one_width n part.class long);
    }
      where
        IsMoveTo : List Sym → Kind → Type 0
        IsMoveTo column next = IsMove exploring.frame.now exploring.stage kind column next

        long : n < length (piece_classes finer)
        long = omega (arith, inside, length-map finer (λ (p : Piece). p.class))

        same : made.class ≡ (get_or finer n part).class
        same = class ∙ ap (λ (p : Piece). p.class) at

        listed : get_or (piece_classes finer) n part.class ≡ (get_or finer n part).class
        listed = get_or-map _ _ n _ _ inside

        within : (column : List Sym) → IsTrue (has made.class column) → IsTrue (has piece.class column)
        within column h = ((are.columns column).0 (list_any_at _ _ n _ long (ap (λ c. has c column) (listed ∙ sym same)
            ∙ h))).0

    pub next_part : (old new : List Piece) (n : ℕ) (part made : Piece) → PushedParts piece finer old new n
        → n < length finer → part ≡ get_or finer n part
        → made.class ≡ part.class → made.target ≡ piece.target → made.cost ≡ piece.cost
        → PushedParts piece finer old (new ++ made ∷ []) (n + 1)
    next_part old new n part made so_far inside at class target cost = record {
      added = so_far.added ++ made ∷ [];
      new_is = ap (λ xs. xs ++ made ∷ []) so_far.new_is ∙ append_assoc old so_far.added (made ∷ []);
      classes = map-append (λ (p : Piece). p.class) so_far.added (made ∷ []) ∙ ap (λ cs. cs ++ made.class ∷ [])
          so_far.classes ∙ ap (λ c. piece_classes (take n finer) ++ c ∷ []) (class ∙ ap (λ (p : Piece). p.class) at)
          ∙ sym (map-append (λ (p : Piece). p.class) (take n finer) (get_or finer n part ∷ [])) ∙ ap piece_classes
          (sym (take_more _ n _ inside));
      good = All-push (IsPartOfPiece exploring constraint kind piece) so_far.added made so_far.good
          (part_of n _ _ inside at class target cost);
    }

    same_held : (column : List Sym) (b : Bool) → has piece.class column ≡ b
        → some_has (piece_classes finer) column ≡ has piece.class column
    same_held column true h = (are.columns column).1 (h, (is.moves column h).column_fits) ∙ sym h
    same_held column false h = false_from_ne_true _
        (λ some. false≢true (sym h ∙ ((are.columns column).0 some).0)) ∙ sym h

    pub all_parts : (old new : List Piece) (n : ℕ) → PushedParts piece finer old new n → n ≡ length finer
        → AddsParts exploring constraint kind piece old new
    all_parts old new n so_far last = record {
      added = so_far.added;
      new_is = so_far.new_is;
      held = λ column. ap (λ cs. times_held cs column) (so_far.classes ∙ ap (λ k. piece_classes (take k finer)) last
          ∙ ap piece_classes (take-length finer)) ∙ held_once _ _ _ (once_from_apart _ are.apart.apart _)
          (same_held _ _ refl);
      good = so_far.good;
    }

  -- ---- the parts of all pieces

  pub no_piece_parted : (pieces parts : List Piece) → parts ≡ []
      → ArePartedPieces exploring constraint kind (take 0 pieces) parts
  no_piece_parted pieces parts none = rw none (record {
    held = λ column. refl;
    good = All-nil _;
  })

  split_times : (xs ys : List Piece) (column : List Sym) → times_held (piece_classes (xs ++ ys)) column
      ≡ times_held (piece_classes xs) column + times_held (piece_classes ys) column
  split_times xs ys column = ap (λ cs. times_held cs column) (map-append (λ (p : Piece). p.class) xs ys)
      ∙ times-append (piece_classes xs) (piece_classes ys) column

  pub next_piece_parted : (pieces old new : List Piece) (n : ℕ) (piece : Piece)
      → ArePartedPieces exploring constraint kind (take n pieces) old → n < length pieces
      → piece ≡ get_or pieces n piece → AddsParts exploring constraint kind piece old new
      → ArePartedPieces exploring constraint kind (take (n + 1) pieces) new
  next_piece_parted pieces old new n piece so_far inside at adds =
      let more : take (n + 1) pieces ≡ take n pieces ++ piece ∷ [] = take_more pieces n piece inside
      ∙ ap (λ x. take n pieces ++ x ∷ []) (sym at) in
      subst (λ xs. ArePartedPieces exploring constraint kind xs new) (sym more)
      (subst (ArePartedPieces exploring constraint kind (take n pieces ++ piece ∷ [])) (sym adds.new_is) (record {
        held = λ column. omega (
          arith,
          split_times old adds.added column,
          split_times (take n pieces) (piece ∷ []) column,
          so_far.held column,
          adds.held column,
          times-cons piece.class [] column,
        );
        good = All-append (IsPartOfSome exploring constraint kind (take n pieces ++ piece ∷ [])) old adds.added
            (λ k d l. (let from = so_far.good k d l in record {
              piece = from.piece;
              listed = Contains-append_left (take n pieces) (piece ∷ []) from.piece from.listed;
              is = from.is;
            }))
            (λ k d l. record {
              piece = piece;
              listed = Contains-push (take n pieces) piece;
              is = adds.good k d l;
            });
      }))

  pub all_pieces_parted : (pieces parts : List Piece) (n : ℕ)
      → ArePartedPieces exploring constraint kind (take n pieces) parts → n ≡ length pieces
      → ArePartedPieces exploring constraint kind pieces parts
  all_pieces_parted pieces parts n so_far last =
      let whole = ap (λ k. take k pieces) last ∙ take-length pieces in
      rw whole at so_far

-- ---- one constraint after another

module _ (exploring : Exploring) (kind : Kind) (class : Class) where
  pub first_pieces : (pieces : List Piece) → ArePieces (tiers_in exploring.frame.now).width (piece_classes pieces)
      → ((column : List Sym) → IsTrue (some_has (piece_classes pieces) column)
      ↔ (IsTrue (has class column) × FitsAt exploring.frame.now exploring.stage kind column))
      → All (IsPiece exploring.frame.now exploring.stage exploring.stage kind) pieces
      → ArePiecesBefore exploring kind class pieces exploring.first
  first_pieces pieces apart columns each = record {
    apart = apart;
    columns = columns;
    each = each;
    alike = λ r low high. absurd (omega (arith, low, high));
  }

  pub pieces_wide : (pieces : List Piece) (n : ℕ) → ArePiecesBefore exploring kind class pieces n
      → All (λ piece. length (sets_of piece.class) ≡ (tiers_in exploring.frame.now).width) pieces
  pieces_wide pieces n are k d l = rw (get_or-map (λ (p : Piece). p.class) pieces k d d.class l) at
      (are.apart.one_width k d.class (omega (arith, l, length-map pieces (λ (p : Piece). p.class))))

  classes_good : (P : Class → Type 0) (parts : List Piece) → All (λ (p : Piece). P p.class) parts
      → All P (piece_classes parts)
  classes_good P parts good = All-map P _ _ good

  pub next_constraint : (pieces parts : List Piece) (n : ℕ) → ArePiecesBefore exploring kind class pieces n
      → ArePartedPieces exploring n kind pieces parts → ArePiecesBefore exploring kind class parts (n + 1)
  next_constraint pieces parts n are by = record {
    apart = pieces_from_once (tiers_in exploring.frame.now).width (piece_classes parts)
        (classes_good (λ c. length (sets_of c) ≡ (tiers_in exploring.frame.now).width) parts
        (λ k d l. (by.good k d l).is.wide))
        (classes_good (λ c. IsTrue (is_filled c)) parts (λ k d l. (by.good k d l).is.filled))
        (λ column. omega (arith, by.held column, once_from_apart (piece_classes pieces) are.apart.apart column));
    columns = λ column.
        (let same = some_from_same (piece_classes parts) (piece_classes pieces) column (by.held column) in
        (λ h. (are.columns column).0 (sym same ∙ h), λ h. same ∙ (are.columns column).1 h));
    each = λ k d l. (by.good k d l).is.is;
    alike = λ r low high k d l. elim (cases_lt r n) [
      | inl less ↦
          (let from = by.good k d l in
          let whole = All-contains (λ (piece : Piece). IsAlike
          (cost_under exploring.frame.now exploring.stage r kind) piece.class) pieces from.piece
          (are.alike r low less) from.listed in
          λ x y has_x has_y. whole x y (from.is.within x has_x) (from.is.within y has_y))
      | inr more ↦
          (let same : n ≡ r = omega (arith, high, more) in
          subst (λ i. IsAlike (cost_under exploring.frame.now exploring.stage i kind) (get_or parts k d).class) same
          (by.good k d l).is.alike)
    ];
  }

  pub all_constraints : (pieces : List Piece) (n : ℕ) → ArePiecesBefore exploring kind class pieces n
      → exploring.stage ≤ n → ArePiecesFrom exploring kind class pieces
  all_constraints pieces n are last = record {
    apart = are.apart;
    columns = are.columns;
    each = are.each;
    alike = λ r low high k d l. elim (cases_lt r exploring.stage) [
      | inl less ↦ are.alike r low (omega (arith, less, last)) k d l
      | inr more ↦
          (let same : exploring.stage ≡ r = omega (arith, high, more) in
          subst (λ i. IsAlike (cost_under exploring.frame.now exploring.stage i kind) (get_or pieces k d).class) same
          (piece_alike _ _ _ _ _ (are.each k d l)))
    ];
  }

-- ---- under no constraint

pub moves_unranked : (exploring : Exploring) (kind : Kind) (class : Class) (pieces : List Piece) → exploring.stage ≡ 0
    → ArePieces (tiers_in exploring.frame.now).width (piece_classes pieces)
    → ((column : List Sym) → IsTrue (some_has (piece_classes pieces) column)
    ↔ (IsTrue (has class column) × FitsAt exploring.frame.now 0 kind column))
    → All (IsPiece exploring.frame.now 0 0 kind) pieces → ArePiecesFrom exploring kind class pieces
moves_unranked exploring kind class pieces none apart columns each =
    all_constraints exploring kind class pieces exploring.first
    (first_pieces exploring kind class pieces apart
    (subst (λ stage. (column : List Sym) → IsTrue (some_has (piece_classes pieces) column)
    ↔ (IsTrue (has class column) × FitsAt exploring.frame.now stage kind column)) (sym none) columns)
    (subst (λ stage. All (IsPiece exploring.frame.now stage stage kind) pieces) (sym none) each))
    (omega (arith, none))
