-- The pieces of a kind's kept moves: its columns, with the target to which each leads.
use Rattle.std.proofs.Common.{◌≡◌, ℕ, ◌+◌, ◌<◌, ◌≤◌, Bool, true, false, IsTrue, List, [], ◌∷◌, ◌++◌, length, take}
use Rattle.std.proofs.Common.{get_or, refl, sym, ap, ◌∙◌, subst, arith, ◌↔◌, ◌||◌}
use Rattle.std.proofs.{lemmas.List.{map-append, take_all, take_more}}
use Rattle.std.proofs.lemmas.List.Elements.{All-from_recursion, All-push}
use Rattle.tier_core.specs.{declared.class.Class.Class, declared.sym.Sym.Sym, Classes.{sets_of, has}, Filled.is_filled}
use Rattle.tier_core.specs.{Kinds.PrefixKind}
use Rattle.symbol_class.specs.Held.{some_has, times_held, once_if, ArePieces}
use Rattle.symbol_class.proofs.Times.{adds_none, adds_same, adds_then, columns_added, none_held, once_from_apart}
use Rattle.symbol_class.proofs.Times.{once_few, pieces_added, pieces_from_once, some_held, times-append, times-cons}
use Rattle.violation.specs.{Moves.{next_kind, cost_of}, Problems.Problem}
use Rattle.answer_text.specs.{declared.stage.Stage.Stage, Certified.IsKeptBelow}
use Rattle.cert_check.specs.{declared.kept_piece.KeptPiece.KeptPiece, Left.{AreFirstParts, IsMovingAlike}}
use Rattle.cert_check.specs.Fitting.{ArePartedByTests}
use Rattle.cert_check.specs.Kept.{kept_classes, IsKeptPiece, IsTargetOf, AddsPieces, AreKeptPieces}

-- classes no two of which share a column hold each once or not at all
pub once_held : (classes : List Class) → ((column : List Sym) → times_held classes column ≤ 1) → (column : List Sym)
    → times_held classes column ≡ once_if (some_has classes column)
once_held classes once column = by _ refl
  where
    by : (b : Bool) → some_has classes column ≡ b → times_held classes column ≡ once_if (some_has classes column)
    by true e = rw e (omega (arith, once column, some_held classes column e))
    by false e = rw e (none_held classes column e)

-- how often one class alone holds a column
pub only_held : (class : Class) (column : List Sym) → times_held (class ∷ []) column ≡ once_if (has class column)
only_held class column = let none : times_held [] column ≡ 0 = refl in
    omega (arith, times-cons class [] column, none)

-- one class alone is a piece
pub one_piece : (width : ℕ) (class : Class) → length (sets_of class) ≡ width → IsTrue (is_filled class)
    → ArePieces width (class ∷ [])
one_piece width class wide filled = pieces_from_once width (class ∷ [])
    (All-push (λ c. length (sets_of c) ≡ width) [] class (All-from_recursion (λ c. length (sets_of c) ≡ width) [] tt)
    wide)
    (All-push (λ c. IsTrue (is_filled c)) [] class (All-from_recursion (λ c. IsTrue (is_filled c)) [] tt) filled)
    (λ column. omega (arith, only_held class column, once_few (has class column)))

-- the parts of a class hold its columns once
pub parts_held : (width : ℕ) (tests : List Class) (class : Class) (parts : List Class)
    → ArePartedByTests width tests (class ∷ []) parts → (column : List Sym)
    → times_held parts column ≡ once_if (has class column)
parts_held width tests class parts p column =
    once_held parts (once_from_apart parts p.pieces.apart) column
    ∙ ap once_if (p.columns column ∙ or_false (has class column))
  where
    or_false : (b : Bool) → (b || false) ≡ b
    or_false true = refl
    or_false false = refl

module _ (problem : Problem) (stages : List Stage) (stage : ℕ) (k : PrefixKind) where
  -- one more piece
  pub adds_piece : (class : Class) (column : List Sym) (old new : List KeptPiece) (piece : KeptPiece)
      → length (sets_of class) ≡ problem.tiers.width → IsTrue (is_filled class)
      → IsMovingAlike problem stage k class → IsTrue (has class column) → new ≡ old ++ piece ∷ []
      → piece.class ≡ class → IsTargetOf problem stages stage piece.target (next_kind problem stage k column)
      → cost_of problem stage k column ≡ piece.cost → piece.cost ≤ 1
      → AddsPieces problem stages stage k old new (λ c. once_if (has class c))
  adds_piece class column old new piece wide filled alike held e same leads costs few = record {
    classes = record {
      added = class ∷ [];
      new_is = ap kept_classes e ∙ map-append (λ (p : KeptPiece). p.class) old (piece ∷ [])
          ∙ ap (λ c. kept_classes old ++ c ∷ []) same;
      one_width = All-push (λ c. length (sets_of c) ≡ problem.tiers.width) [] class
          (All-from_recursion (λ c. length (sets_of c) ≡ problem.tiers.width) [] tt) wide;
      filled = All-push (λ c. IsTrue (is_filled c)) [] class (All-from_recursion (λ c. IsTrue (is_filled c)) [] tt)
          filled;
      held = λ c. only_held class c;
    };
    each = λ before. rw e (All-push (IsKeptPiece problem stages stage k) old piece before (record {
      leads = λ other h. subst (IsTargetOf problem stages stage piece.target)
          (alike column other held (here other h)).moves leads;
      costs = λ other h. sym ((alike column other held (here _ h)).costs) ∙ costs;
      few = few;
    }));
  }
    where
      here : (other : List Sym) → IsTrue (has piece.class other) → IsTrue (has class other)
      here other h = ap (λ c. has c other) (sym same) ∙ h

  -- no class
  pub adds_no_piece : (old : List KeptPiece) (times : List Sym → ℕ) → ((column : List Sym) → times column ≡ 0)
      → AddsPieces problem stages stage k old old times
  adds_no_piece old times none = record {
    classes = adds_none problem.tiers.width (kept_classes old) times none;
    each = λ before. before;
  }

  -- one class more
  pub adds_class : (classes : List Class) (n : ℕ) (class : Class) (old mid new : List KeptPiece) → n < length classes
      → class ≡ get_or classes n class → AddsPieces problem stages stage k old mid (times_held (take n classes))
      → AddsPieces problem stages stage k mid new (λ column. once_if (has class column))
      → AddsPieces problem stages stage k old new (times_held (take (n + 1) classes))
  adds_class classes n class old mid new inside is a b = record {
    classes = adds_then problem.tiers.width (kept_classes old) (kept_classes mid) (kept_classes new)
        (times_held (take n classes)) (λ column. once_if (has class column)) (times_held (take (n + 1) classes))
        a.classes b.classes (λ column. omega (
          arith,
          ap (λ xs. times_held xs column)
              (take_more classes n class inside ∙ ap (λ c. take n classes ++ c ∷ []) (sym is)),
          times-append (take n classes) (class ∷ []) column,
          only_held class column,
        ));
    each = λ before. b.each (a.each before);
  }

  -- the same number of times
  pub adds_as : (old new : List KeptPiece) (s t : List Sym → ℕ) → ((column : List Sym) → s column ≡ t column)
      → AddsPieces problem stages stage k old new s → AddsPieces problem stages stage k old new t
  adds_as old new s t same a = record {
    classes = adds_same problem.tiers.width (kept_classes old) (kept_classes new) s t a.classes same;
    each = a.each;
  }

  -- at stage 0 each move is kept
  pub first_kept : (classes : List Class) → AreFirstParts problem k classes → (column : List Sym)
      → IsTrue (some_has classes column) ↔ IsKeptBelow problem stages 0 k column
  first_kept classes parts column = (
    λ h. record { fits = (parts.columns column).0 h; tight = λ j one less. absurd (omega (arith, less)) },
    λ b. (parts.columns column).1 b.fits,
  )

  -- pieces of classes that hold what is kept
  pub kept_by : (classes : List Class) (kept : List KeptPiece) → ArePieces problem.tiers.width classes
      → ((column : List Sym) → IsTrue (some_has classes column) ↔ IsKeptBelow problem stages stage k column)
      → AddsPieces problem stages stage k [] kept (times_held classes) → AreKeptPieces problem stages stage k kept
  kept_by classes kept pieces columns a =
      let once = adds_same problem.tiers.width [] (kept_classes kept) (times_held classes)
      (λ column. once_if (some_has classes column)) a.classes
      (once_held classes (once_from_apart classes pieces.apart)) in
      record {
        pieces = pieces_added problem.tiers.width (kept_classes kept) (some_has classes) once;
        columns = λ column.
            let same = columns_added problem.tiers.width (kept_classes kept) (some_has classes) once column in (
              λ h. (columns column).0 (sym same ∙ h),
              λ b. same ∙ (columns column).1 b,
            );
        each = a.each (All-from_recursion (IsKeptPiece problem stages stage k) [] tt);
      }

  -- all classes
  pub adds_all : (classes : List Class) (n : ℕ) (old new : List KeptPiece) → length classes ≤ n
      → AddsPieces problem stages stage k old new (times_held (take n classes))
      → AddsPieces problem stages stage k old new (times_held classes)
  adds_all classes n old new l a = rw (take_all n classes l) at a
