-- A kept table that is weighed, and whose states are named by kinds of the stage, is explored.
use Rattle.std.proofs.Common.{◌≡◌, ℕ, ◌<◌, false, List, [], map, length, get_or, ap, sym, ◌∙◌, subst, arith, inl}
use Rattle.std.proofs.{Common.inr, lemmas.Bool.cases_lt, lemmas.List.{length-map, get_or-map, get_or_past}}
use Rattle.std.proofs.lemmas.List.Elements.{All-contains}
use Rattle.std.specs.Prelude.{All, Contains, AllPairs, IsTrue}
use Rattle.weight_law.specs.{declared.Weight.Ghosts, declared.count.Count.Count}
use Rattle.weight_law.specs.declared.unit_weight.UnitWeight.{UnitWeight}
use Rattle.tier_core.specs.{declared.kind.Kind.Kind, declared.sym.Sym.Sym, Classes.{sets_of, has, AreDisjoint}}
use Rattle.tier_core.specs.FirstColumn.{first_column}
use Rattle.tier_core.proofs.{ClassLemmas.same_width, Filled.has-first_column}
use Rattle.symbol_class.specs.{Held.once_if, Parts.differs, declared.difference.Difference.Difference}
use Rattle.symbol_class.proofs.Times.{once_from_apart, apart_from_once, some_from_same}
use Rattle.arc_table.specs.{declared.arc.TableArc.TableArc, declared.state.TableState.TableState}
use Rattle.arc_table.specs.Conditions.{TargetsExist, ClassesDisjoint, ClassesFilled, OneWidth}
use Rattle.arc_table.specs.{Moves.{moves_at, accepting_at}, MoveClasses.move_classes}
use Rattle.arc_table.proofs.{OneRun.same_move, Push.moves_exist}
use Rattle.kind_moves.specs.{declared.frame.Frame.Frame, Frames.{problem_in, tiers_in, kind_at_stage, FitsFrame}}
use Rattle.kind_moves.specs.Pieces.{cost_under}
use Rattle.kind_tables.specs.StageTables.{name_of, cost_of}
use Rattle.stage_tables.specs.{Explored.{names_at, IsExplored}, Kept.AreKeptByKinds}
use Rattle.stage_tables.specs.Weighing.{cost_from, IsWeighedFrom, AreWeighedStates}
use Rattle.stage_tables.proofs.HeldMoves.{move_on, held_on, classes_apart, moves_apart}
use Rattle.stage_tables.proofs.{SameWords.{GoesWith, words_with, on_runs_with}, Taking.last_cost}

-- ---- what is known of a kept table

module _ (frame : Frame) (stage : ℕ) {g : Ghosts UnitWeight} (kept : List (TableState UnitWeight g))
    (kinds : List Kind) (by : AreKeptByKinds (problem_in frame) stage (names_at frame stage kinds) kept) where
  pub kind_count : length kinds ≡ length kept
  kind_count = sym (length-map kinds (kind_at_stage frame stage)) ∙ by.named.each_named

  pub arc_wide : (s : ℕ) (arc : TableArc UnitWeight g) → Contains (moves_at kept s) arc
      → length (sets_of arc.class) ≡ (tiers_in frame).width
  arc_wide s arc here =
      let have = has-first_column _ (by.named.filled s arc here) in
      let fits = (by.named.moves s arc (first_column arc.class) here have).fits in
      sym (same_width _ _ have) ∙ fits.width

  -- what a test of the costs of a kind tells is what a column costs from the state that it names
  pub test_costs : (s : ℕ) (kind : Kind) (test : Difference) → s < length kept → kind ≡ get_or kinds s kind
      → ((column : List Sym) → length column ≡ (tiers_in frame).width
      → cost_under frame stage stage kind column ≡ once_if (differs test column))
      → (a : TableArc UnitWeight g) (column : List Sym) → Contains (moves_at kept s) a → IsTrue (has a.class column)
      → once_if (differs test column) ≡ cost_from frame stage kinds s column
  test_costs s kind test l is tells a column here held =
      let wide : length column ≡ (tiers_in frame).width = same_width (sets_of a.class) column held
      ∙ arc_wide s a here in
      let name : name_of (names_at frame stage kinds) s ≡ kind_at_stage frame stage kind = get_or-map
      (kind_at_stage frame stage) kinds s kind _ (omega (arith, l, kind_count))
      ∙ ap (kind_at_stage frame stage) (sym is) in
      sym (tells column wide)
      ∙ last_cost (problem_in frame) stage (kind_at_stage frame stage kind) column
      ∙ ap (λ k. cost_of (problem_in frame) stage k column) (sym name)

-- ---- the new table

module _ {g : Ghosts UnitWeight} {h : Ghosts Count} (cost : ℕ → List Sym → ℕ) (kept : List (TableState UnitWeight g))
    (apart : ClassesDisjoint kept) (states : List (TableState Count h))
    (are : AreWeighedStates cost kept states (length kept)) where
  -- the kept move of a new one
  old_move : (s : ℕ) (b : TableArc Count h) → Contains (moves_at states s) b
      → IsWeighedFrom (cost s) (moves_at kept s) b
  old_move s b here =
      let l = moves_exist _ s b here in
      All-contains (IsWeighedFrom (cost s) (moves_at kept s)) (moves_at states s) b
      (are.moves s (omega (arith, l, are.count))).each here

  -- a new move on each column of a kept one
  new_move : (s : ℕ) (a : TableArc UnitWeight g) (column : List Sym) → Contains (moves_at kept s) a
      → IsTrue (has a.class column)
      → (b : TableArc Count h) × Contains (moves_at states s) b × IsTrue (has b.class column) × (b.target ≡ a.target)
  new_move s a column here held =
      let l = moves_exist _ s a here in
      let some = some_from_same _ _ _ ((are.moves s l).held column) ∙ held_on _ a _ here held in
      let b = move_on _ _ some in
      let from = old_move s _ b.1 in
      let same = same_move _ (apart s) _ a _ from.listed here (from.is.within column b.2) held in
      (b.0, b.1, b.2, from.is.same_target ∙ ap (λ (x : TableArc UnitWeight g). x.target) same)

  ends_same : (s : ℕ) → accepting_at states s ≡ accepting_at kept s
  ends_same s = elim (cases_lt s (length kept)) [
    | inl l ↦ are.ends s l
    | inr l ↦
        get_or_past (map (λ x. x.accepting) states) s false
        (omega (arith, l, are.count, length-map states (λ x. x.accepting)))
        ∙ sym (get_or_past (map (λ x. x.accepting) kept) s false (omega (arith, l, length-map kept (λ x. x.accepting))))
  ]

  forth : GoesWith kept states
  forth = record { ends = λ s e. ends_same s ∙ e; moves = new_move }

  back : GoesWith states kept
  back = record {
    ends = λ s e. sym (ends_same s) ∙ e;
    moves = λ s b column here held.
        (let from = old_move s b here in
        (from.arc, from.listed, from.is.within column held, sym from.is.same_target));
  }

  pub weighed_targets : TargetsExist kept → TargetsExist states
  weighed_targets exist s b here =
      let from = old_move s b here in
      omega (arith, exist s from.arc from.listed, from.is.same_target, are.count)

  pub weighed_filled : ClassesFilled states
  weighed_filled s b here = (old_move s b here).is.filled

  pub weighed_width : OneWidth kept → OneWidth states
  weighed_width one s t b d here there =
      let a = old_move s b here in
      let c = old_move t d there in
      a.is.same_width ∙ one s t a.arc c.arc a.listed c.listed ∙ sym c.is.same_width

  pub weighed_disjoint : ClassesDisjoint states
  weighed_disjoint s = elim (cases_lt s (length kept)) [
    | inl l ↦ moves_apart (moves_at states s) (apart_from_once (move_classes (moves_at states s)) (λ column.
        omega (
          arith,
          (are.moves s l).held column,
          once_from_apart (move_classes (moves_at kept s)) (classes_apart (moves_at kept s) (apart s)) column,
        )))
    | inr l ↦
        (let gone : moves_at states s ≡ [] = get_or_past (map (λ x. x.arcs.items) states) s []
        (omega (arith, l, are.count, length-map states (λ x. x.arcs.items))) in
        subst (λ (xs : List (TableArc Count h)). AllPairs (λ x y. AreDisjoint x.class y.class) xs) (sym gone)
        (λ i j d less inside. absurd (omega (arith, inside))))
  ]

module _ (frame : Frame) (stage : ℕ) {g : Ghosts UnitWeight} {h : Ghosts Count} (kept : List (TableState UnitWeight g))
    (apart : ClassesDisjoint kept) (kinds : List Kind)
    (by : AreKeptByKinds (problem_in frame) stage (names_at frame stage kinds) kept)
    (fit : All (FitsFrame frame stage) kinds) (states : List (TableState Count h))
    (are : AreWeighedStates (cost_from frame stage kinds) kept states (length kept)) where
  pub is_explored : IsExplored frame stage kept kinds states
  is_explored =
      let cost = cost_from frame stage kinds in
      record {
        named = record {
          each_named = by.named.each_named ∙ sym are.count;
          distinct = by.named.distinct;
          some = omega (arith, by.named.some, are.count);
          start = by.named.start;
          ends = λ s l. (let inside : s < length kept = omega (arith, l, are.count) in
              are.ends s inside ∙ by.named.ends s inside);
          moves = λ s b column here held.
              (let from = old_move _ _ apart _ are s b here in
              let goes = by.named.moves s from.arc column from.listed (from.is.within column held) in
              record {
                fits = goes.fits;
                leads = ap (name_of (names_at frame stage kinds)) from.is.same_target ∙ goes.leads;
              });
          targets = weighed_targets _ _ apart _ are by.named.targets;
          filled = weighed_filled _ _ apart _ are;
        };
        weighed = λ s b column here held. (old_move _ _ apart _ are s b here).is.weighs column held;
        fit = fit;
        accepts = λ T. (
          words_with _ _ (back _ _ apart _ are) T,
          words_with _ _ (forth _ _ apart _ are) T,
        );
        on_runs = λ s l. on_runs_with _ _ (forth _ _ apart _ are) by.named.filled s
            (by.on_runs s (omega (arith, l, are.count)));
      }
