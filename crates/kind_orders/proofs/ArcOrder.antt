-- The arcs of a state: no column is in two of them, each holds a column, no two tie, and they go where the moves go.
use Rattle.std.proofs.Common.{◌≡◌, ◌≢◌, ℕ, ◌<◌, true, List, [], ◌∷◌, map, length, get_or, refl, ap, sym, ◌∙◌, subst}
use Rattle.std.proofs.Common.{arith, All, AllPairs, Contains, IsSorted, IsTrue}
use Rattle.std.proofs.lemmas.Cmp.{nat_cmp_total, nat_list_cmp_total, on_total, then_total}
use Rattle.std.proofs.{lemmas.List.Elements.{All-map, Contains-get_or}, lemmas.List.map-id}
use Rattle.std.specs.{Cmp.IsTotalOrder, Cmp.Lexicographic.slice_cmp, List.Sorted.IsStrictlySortedBy, Ordering.nat_cmp}
use Rattle.std.specs.declared.cmp.Ordering.TheVariants.{Equal}
use Rattle.weight_law.specs.declared.Weight.{Ghosts}
use Rattle.tier_core.specs.{declared.sym.Sym.Sym, declared.class.Class.Class}
use Rattle.tier_core.specs.{Classes.{sets_of, sets_have, has, AreDisjoint}, Filled.is_filled}
use Rattle.tier_core.specs.FirstColumn.{first_column}
use Rattle.arc_table.specs.{declared.arc.TableArc.TableArc, declared.state.TableState.TableState}
use Rattle.arc_table.specs.Conditions.{TargetsExist, ClassesDisjoint, ClassesFilled, OneWidth}
use Rattle.arc_table.specs.{Moves.{moves_at, accepting_at}, MoveClasses.move_classes}
use Rattle.tier_core.proofs.{Filled.has-first_column, KindTies.{both_equal, same_numbers}}
use Rattle.tier_core.proofs.Members.{contains_map, contains_of_map}
use Rattle.answer_text.specs.{declared.automaton.ArcLine.ArcLine, declared.automaton.StateLine.StateLine}
use Rattle.answer_text.specs.{Right.arc_cmp, ArcClasses.arc_classes}
use Rattle.kind_orders.specs.{AutomatonLines.{line_of, IsLineOf}, JoinedLines.AreJoinedFrom}
use Rattle.symbol_class.specs.Held.{width_of, ArePieces}
use Rattle.symbol_class.proofs.Pairs.{pairs_map}
use Rattle.kind_orders.proofs.ArcCounts.{anywhere, apart_if_once, once_if_apart, goes_too}
use Rattle.kind_orders.proofs.Strict.{strict_from_sorted}

pub arc_cmp_total : IsTotalOrder arc_cmp
arc_cmp_total = then_total (on_total (λ (a : ArcLine). a.target) nat_cmp_total)
    (on_total (λ (a : ArcLine). sets_of a.class) nat_list_cmp_total)

-- arcs that tie have one class
tied_class : (a b : ArcLine) (column : List Sym) → arc_cmp a b ≡ Equal → IsTrue (has a.class column)
    → IsTrue (has b.class column)
tied_class a b column e holds =
    let both = both_equal (nat_cmp a.target b.target) (slice_cmp nat_cmp (sets_of a.class) (sets_of b.class)) e in
    subst (λ sets. IsTrue (sets_have sets column)) (same_numbers (sets_of a.class) (sets_of b.class) both.1) holds

strict_arcs : (lines : List ArcLine) → IsSorted arc_cmp lines → AllPairs (λ a b. arc_cmp a b ≢ Equal) lines
    → IsStrictlySortedBy arc_cmp lines
unfolding IsStrictlySortedBy
strict_arcs [] sorted differ = tt
strict_arcs (x ∷ xs) sorted differ = subst (IsStrictlySortedBy arc_cmp) (map-id (x ∷ xs))
    (strict_from_sorted arc_cmp_total (λ arc. arc) x (x ∷ xs) sorted differ)

module _ {W : Type 0} {g : Ghosts W} (nodes : List ℕ) (moves : List (TableArc W g)) (arcs : List ArcLine)
    (are : AreJoinedFrom (map (line_of nodes) moves) arcs) where
  lines_apart : AllPairs (λ a b. AreDisjoint a.class b.class) moves
      → AllPairs AreDisjoint (arc_classes (map (line_of nodes) moves))
  lines_apart disjoint = pairs_map AreDisjoint (λ (arc : ArcLine). arc.class) (map (line_of nodes) moves)
      (pairs_map (λ (a b : ArcLine). AreDisjoint a.class b.class) (line_of nodes) moves disjoint)

  pub arcs_apart : AllPairs (λ a b. AreDisjoint a.class b.class) moves
      → AllPairs (λ (a b : ArcLine). AreDisjoint a.class b.class) arcs
  arcs_apart disjoint = apart_if_once arcs (λ column. omega (
    arith,
    are.held anywhere column,
    once_if_apart (map (line_of nodes) moves) (lines_apart disjoint) column,
  ))

  pub arcs_filled : All (λ (arc : ArcLine). (column : List Sym) × IsTrue (has arc.class column)) arcs
  arcs_filled = λ k d l. let arc = get_or arcs k d in
      (first_column arc.class, has-first_column arc.class (are.filled k d l))

  pub arcs_strict : AllPairs (λ a b. AreDisjoint a.class b.class) moves → IsSorted arc_cmp arcs
      → IsStrictlySortedBy arc_cmp arcs
  arcs_strict disjoint sorted = strict_arcs arcs sorted (λ i j d less inside e.
      let some = arcs_filled i d (omega arith) in
      arcs_apart disjoint i j d less inside some.0 some.1
      (tied_class (get_or arcs i d) (get_or arcs j d) some.0 e some.1))

  -- where an arc goes, a move does
  pub move_from : (arc : ArcLine) (column : List Sym) → Contains arcs arc → has arc.class column ≡ true
      → (move : TableArc W g)
      × (Contains moves move × ((get_or nodes move.target 0 ≡ arc.target) × (has move.class column ≡ true)))
  move_from arc column c holds =
      let lines = map (line_of nodes) moves in
      let line = goes_too arcs lines (λ to col. sym (are.held to col)) arc column c holds in
      let move = contains_of_map (line_of nodes) moves line.0 line.1.0 in (
        move.0,
        (
          move.1.0,
          (
            ap (λ (a : ArcLine). a.target) move.1.1 ∙ line.1.1.0,
            ap (λ (a : ArcLine). has a.class column) move.1.1 ∙ line.1.1.1,
          ),
        ),
      )

  -- and where a move goes, an arc does
  pub arc_from : (move : TableArc W g) (column : List Sym) → Contains moves move → has move.class column ≡ true
      → (arc : ArcLine)
      × (Contains arcs arc × ((arc.target ≡ get_or nodes move.target 0) × (has arc.class column ≡ true)))
  arc_from move column c holds = goes_too (map (line_of nodes) moves) arcs are.held (line_of nodes move) column
      (contains_map (line_of nodes) moves move c) holds

-- the classes of the lines of moves are those of the moves
same_classes : {W : Type 0} {g : Ghosts W} (nodes : List ℕ) (moves : List (TableArc W g))
    → arc_classes (map (line_of nodes) moves) ≡ move_classes moves
same_classes nodes [] = refl
same_classes nodes (move ∷ moves) = ap (λ cs. move.class ∷ cs) (same_classes nodes moves)

pub lines_are_pieces : {W : Type 0} {g : Ghosts W} (nodes : List ℕ) (moves : List (TableArc W g)) (width : ℕ)
    → ArePieces width (move_classes moves) → ArePieces width (arc_classes (map (line_of nodes) moves))
lines_are_pieces nodes moves width pieces = subst (ArePieces width) (sym (same_classes nodes moves)) pieces

-- moves of which any two have one width have that of the first
width_at : {W : Type 0} {g : Ghosts W} (moves : List (TableArc W g)) (k : ℕ) (d : TableArc W g) → k < length moves
    → ((a b : TableArc W g) → Contains moves a → Contains moves b
    → length (sets_of a.class) ≡ length (sets_of b.class))
    → length (sets_of (get_or moves k d).class) ≡ width_of (move_classes moves)
width_at [] k d l one = absurd (omega arith)
width_at (move ∷ moves) k d l one = one (get_or (move ∷ moves) k d) move (Contains-get_or (move ∷ moves) k d l)
    (0, omega arith, refl)

module _ {W : Type 0} {g : Ghosts W} (kept : List (TableState W g)) (nodes : List ℕ) (s : ℕ) where
  -- each move leads to a state that has a node number
  pub targets_within : TargetsExist kept → length nodes ≡ length kept
      → All (λ (arc : TableArc W g). arc.target < length nodes) (moves_at kept s)
  targets_within exist count = λ k d l. let t = exist s (get_or (moves_at kept s) k d)
      (Contains-get_or (moves_at kept s) k d l) in omega arith

  -- the classes of a state's moves are pieces
  pub pieces_at : ClassesDisjoint kept → ClassesFilled kept → OneWidth kept
      → ArePieces (width_of (move_classes (moves_at kept s))) (move_classes (moves_at kept s))
  pieces_at disjoint filled one_width =
      let moves = moves_at kept s in
      let class_of : TableArc W g → Class = λ move. move.class in
      record {
        one_width = All-map (λ class. length (sets_of class) ≡ width_of (move_classes moves)) class_of moves
            (λ k d l. width_at moves k d l
            (λ a b ca cb. one_width s s a b ca cb));
        filled = All-map (λ class. IsTrue (is_filled class)) class_of moves
            (λ k d l. filled s (get_or moves k d) (Contains-get_or moves k d l));
        apart = pairs_map AreDisjoint class_of moves (disjoint s);
      }

  -- the line of a state, whose arcs are joined and sorted
  pub line_made : ClassesDisjoint kept → (line : StateLine) → line.node ≡ get_or nodes s 0
      → line.accepting ≡ accepting_at kept s
      → AreJoinedFrom (map (line_of nodes) (moves_at kept s)) line.arcs.items → IsSorted arc_cmp line.arcs.items
      → IsLineOf kept nodes s line
  line_made disjoint line node final are sorted = record {
    node = node;
    final = final;
    arcs = are;
    in_order = arcs_strict nodes (moves_at kept s) line.arcs.items are (disjoint s) sorted;
  }
