-- The table of all kinds that are found is named and weighed by them.
use Rattle.std.proofs.Common.{◌≡◌, ◌≢◌, ℕ, ◌<◌, ◌≤◌, Bool, true, false, List, [], ◌++◌, map, length, get_or, refl}
use Rattle.std.proofs.{Common.{ap, sym, ◌∙◌, subst, arith, inl, inr}, lemmas.Bool.cases_lt}
use Rattle.std.proofs.{lemmas.List.{length-map, get_or_past}, lemmas.List.Elements.All-contains}
use Rattle.std.proofs.lemmas.Option.{slice_get_within}
use Rattle.std.specs.{Prelude.{All, Contains, AllPairs, IsTrue}, Map.{keys_of, values_of}}
use Rattle.weight_law.specs.{declared.Weight.Ghosts, declared.count.Count.Count}
use Rattle.weight_law.specs.declared.unit_weight.UnitWeight.{UnitWeight}
use Rattle.tier_core.specs.{declared.kind.Kind.Kind, declared.sym.Sym.Sym, Kinds.PrefixKind}
use Rattle.tier_core.specs.Classes.{has, AreDisjoint}
use Rattle.symbol_class.specs.Held.{some_has, times_held}
use Rattle.symbol_class.proofs.Times.{none_held, once_from_apart, apart_from_once, some_from_same}
use Rattle.grammar_reader.proofs.OverTiers.{over_tiers}
use Rattle.arc_table.specs.{declared.arc.TableArc.TableArc, declared.state.TableState.TableState}
use Rattle.arc_table.specs.Conditions.{TargetsExist, ClassesDisjoint, ClassesFilled, OneWidth}
use Rattle.arc_table.specs.{Moves.{moves_at, accepting_at}, MoveClasses.move_classes}
use Rattle.arc_table.proofs.Push.{moves_exist}
use Rattle.violation.specs.{Moves.{FitsKind, next_kind, is_final}, Prefixes.kind_of, Problems.last_stage}
use Rattle.violation.proofs.SplitLemmas.{tiers_split}
use Rattle.kind_moves.specs.{declared.frame.Frame.Frame, Frames.{problem_in, kind_at_stage, FitsFrame}}
use Rattle.kind_moves.proofs.{GrammarTiers.form_from, KindEquality.same_told, LawSteps.kinds_law}
use Rattle.kind_tables.specs.StageTables.{IsStage, name_of, cost_of, AreNamedByKinds, AreWeighed}
use Rattle.kind_tables.specs.FoundTables.{HasMoveOn, AreReached, base_of}
use Rattle.stage_tables.specs.Explored.{names_at, IsMet, HasMoreKinds}
use Rattle.stage_tables.specs.Listed.{IsAt, IsReached, AreFound, IsTaken, IsTakenFrom, AreTaken}
use Rattle.stage_tables.proofs.HeldMoves.{move_on, held_on, classes_apart, moves_apart}
use Rattle.stage_tables.proofs.Listing.{at_number, get_map, get_or_map}

-- what every stage of a frame meets
pub frame_stage : (frame : Frame) (r : ℕ) → r ≤ last_stage (problem_in frame) → IsStage (problem_in frame) r
frame_stage frame r l = record {
  split = tiers_split _;
  form = form_from (problem_in frame) frame.well_formed;
  over = over_tiers frame.grammar.now;
  within = l;
}

module _ {g : Ghosts UnitWeight} (frame : Frame) (first stage : ℕ) (kept : List (TableState UnitWeight g))
    (entries : List (Kind × ℕ)) (found : AreFound frame stage kept entries) where
  -- the name of a kind
  named_at : (k : ℕ) (kind : Kind) (s : ℕ) → IsAt entries k kind s → (d : PrefixKind)
      → get_or (names_at frame stage (keys_of entries)) k d ≡ kind_at_stage frame stage kind
  named_at k kind s at d = get_or_map _ _ k _ d (get_map _ _ k _ at)

  names_count : length (names_at frame stage (keys_of entries)) ≡ length entries
  names_count = length-map (keys_of entries) (kind_at_stage frame stage) ∙ length-map entries (λ e. e.0)

  -- names are distinct
  pub names_apart : AllPairs (λ k l. k ≢ l) (names_at frame stage (keys_of entries))
  names_apart i j d less inside same =
      let long : j < length entries = omega (arith, names_count) in
      let a = at_number _ i (omega (arith, less, long)) in
      let b = at_number _ j long in
      let told = sym (named_at i _ _ a.2 d) ∙ same ∙ named_at j _ _ b.2 d in
      let one = same_told _ _ _ _ (found.stands i a.0 a.1 a.2).fits (found.stands j b.0 b.1 b.2).fits told in
      found.apart i j a.0 less (omega (arith, long, length-map entries (λ e. e.0)))
      (get_or_map _ _ i _ _ a.2 ∙ one ∙ sym (get_or_map _ _ j _ _ b.2))

  -- where each kind that is reached is that of a prefix of some timelines, too many kinds are over a budget
  pub over_budget : (timelines : List (List Sym) → Type 0)
      → ((kind : Kind) (s : ℕ) → s < length kept → (r : IsReached frame stage kept kind s)
      → (rest : List (List Sym)) × timelines (r.prefix ++ rest))
      → (budget : ℕ) → budget < length entries → HasMoreKinds frame stage timelines budget
  over_budget timelines goes_on budget more = record {
    kinds = names_at frame stage (keys_of entries);
    distinct = names_apart;
    met = λ k d l.
        (let a = at_number _ k (omega (arith, names_count)) in
        rw (named_at k a.0 a.1 a.2 d) (met k _ _ a.2));
    more = omega (arith, names_count);
  }
    where
      met : (k : ℕ) (kind : Kind) (s : ℕ) → IsAt entries k kind s
          → IsMet frame stage timelines (kind_at_stage frame stage kind)
      met k kind s at =
          let r = found.reached k kind s at in
          let on = goes_on kind s (found.stands k kind s at).within (found.reached k kind s at) in
          record {
            prefix = r.prefix;
            rest = on.0;
            accepted = on.1;
            of_kind = sym (kinds_law _ _ _ r.starts _ _ r.leads);
          }

  module _ {h : Ghosts Count} (states : List (TableState Count h))
      (taken : AreTaken frame first stage kept entries states) (all : length states ≡ length entries) where
    pub name_is : (k : ℕ) (kind : Kind) (s : ℕ) → IsAt entries k kind s
        → name_of (names_at frame stage (keys_of entries)) k ≡ kind_at_stage frame stage kind
    name_is k kind s at = named_at k _ s at (record { place = 0; opened = []; phases = [] })

    -- the kind of a state
    pub kind_of_state : (k : ℕ) → k < length states → (kind : Kind) × (s : ℕ) × IsAt entries k kind s
    kind_of_state k l = at_number _ k (omega (arith, all))

    pub base_is : (k : ℕ) (kind : Kind) (s : ℕ) → IsAt entries k kind s → base_of (values_of entries) k ≡ s
    base_is k kind s at = get_or_map _ _ k _ 0 at

    -- the kept move of a new one
    pub old_move : (k : ℕ) (b : TableArc Count h) → Contains (moves_at states k) b
        → (kind : Kind) × (s : ℕ) × IsAt entries k kind s ×
        ((a : TableArc UnitWeight g) × Contains (moves_at kept s) a × IsTaken frame first stage entries kind a b)
    old_move k b here =
        let l = moves_exist states k b here in
        let a = kind_of_state k l in
        let state = taken.each k a.0 a.1 l a.2 in
        let from = All-contains (IsTakenFrom frame first stage entries a.0 (moves_at kept a.1)) (moves_at states k) b
        state.taken.each here in
        (a.0, a.1, a.2, (from.arc, from.listed, from.taken))

    -- a column of a new move fits the name of its state
    pub fits_name : (k : ℕ) (b : TableArc Count h) (column : List Sym) → Contains (moves_at states k) b
        → IsTrue (has b.class column)
        → FitsKind (problem_in frame) (name_of (names_at frame stage (keys_of entries)) k) column
    fits_name k b column here p =
        let m = old_move k b here in
        subst (λ (x : PrefixKind). FitsKind (problem_in frame) x column) (sym (name_is k _ _ m.2))
        (m.3.2.moves column p).column_fits

    pub leads : (k : ℕ) (b : TableArc Count h) (column : List Sym) → Contains (moves_at states k) b
        → IsTrue (has b.class column) → name_of (names_at frame stage (keys_of entries)) b.target
        ≡ next_kind (problem_in frame) stage (name_of (names_at frame stage (keys_of entries)) k) column
    leads k b column here p =
        let m = old_move k b here in
        let t = m.3.2 in
        name_is _ _ _ t.at ∙ (t.moves column p).leads ∙ ap (λ x. next_kind (problem_in frame) stage x column)
        (sym (name_is k _ _ m.2))

    pub weighs : AreWeighed (problem_in frame) stage (names_at frame stage (keys_of entries)) states
    weighs k b column here p =
        let m = old_move k b here in
        m.3.2.weighs column p ∙ ap (λ x. cost_of (problem_in frame) stage x column) (sym (name_is k _ _ m.2))

    -- there is a new move on each column of a kept one that fits
    pub columns_new : (k : ℕ) (column : List Sym) → k < length states
        → HasMoveOn kept (base_of (values_of entries) k) column
        → FitsKind (problem_in frame) (name_of (names_at frame stage (keys_of entries)) k) column
        → HasMoveOn states k column
    columns_new k column l move fits =
        let a = kind_of_state k l in
        let state = taken.each k a.0 a.1 l a.2 in
        let here = rw (base_is k a.0 a.1 a.2) at move.1 in
        let at = rw (name_is k a.0 a.1 a.2) at fits in
        let some = some_from_same _ _ _ (state.taken.held column at) ∙ held_on _ _ _ here move.2 in
        move_on _ _ some

    pub columns_old : (k : ℕ) (column : List Sym) → HasMoveOn states k column
        → HasMoveOn kept (base_of (values_of entries) k) column
    columns_old k column move =
        let m = old_move k _ move.1 in (
          m.3.0,
          rw (base_is k m.0 m.1 m.2) m.3.1,
          m.3.2.within column move.2,
        )

    pub new_targets : TargetsExist states
    new_targets k b here = (let m = old_move k b here in omega
        (arith, slice_get_within entries b.target (m.3.2.next, m.3.0.target) m.3.2.at, all))

    pub new_filled : ClassesFilled states
    new_filled k b here = (old_move k b here).3.2.filled

    pub new_width : OneWidth states
    new_width j k a b here there = (old_move j a here).3.2.wide ∙ sym (old_move k b there).3.2.wide

    -- no two new moves of a state hold a column
    once : ClassesDisjoint kept → (k : ℕ) → k < length states → (column : List Sym)
        → times_held (move_classes (moves_at states k)) column ≤ 1
    once apart k l column = go (some_has (move_classes (moves_at states k)) column) refl
      where
        go : (b : Bool) → some_has (move_classes (moves_at states k)) column ≡ b
            → times_held (move_classes (moves_at states k)) column ≤ 1
        go false none = omega (arith, none_held (move_classes (moves_at states k)) column none)
        go true some =
            let move = move_on (moves_at states k) column some in
            let m = old_move k move.0 move.1 in
            let state = taken.each k m.0 m.1 l m.2 in
            omega (
              arith,
              state.taken.held column (m.3.2.moves column move.2).column_fits,
              once_from_apart (move_classes (moves_at kept m.1)) (classes_apart (moves_at kept m.1) (apart m.1)) column,
            )

    pub new_disjoint : ClassesDisjoint kept → ClassesDisjoint states
    new_disjoint apart k = elim (cases_lt k (length states)) [
      | inl l ↦ moves_apart (moves_at states k) (apart_from_once (move_classes (moves_at states k)) (once apart k l))
      | inr l ↦
          (let gone : moves_at states k ≡ [] = get_or_past (map (λ s. s.arcs.items) states) k []
          (omega (arith, length-map states (λ s. s.arcs.items))) in
          subst (λ (xs : List (TableArc Count h)). AllPairs (λ x y. AreDisjoint x.class y.class) xs) (sym gone)
          (λ i j d less inside. absurd (omega (arith, inside))))
    ]

    pub new_reached : AreReached states
    new_reached k low high = taken.reached k low (omega (arith, all))

    pub each_named : length (names_at frame stage (keys_of entries)) ≡ length states
    each_named = names_count ∙ sym all

    pub some_state : 0 < length states
    some_state = let l = slice_get_within entries 0 (found.start.0, 0) found.start.1 in omega (arith, all)

    pub ends_at : (k : ℕ) → k < length states
        → accepting_at states k ≡ is_final (problem_in frame) (name_of (names_at frame stage (keys_of entries)) k)
    ends_at k l =
        let a = kind_of_state k l in
        (taken.each k a.0 a.1 l a.2).accepts ∙ ap (is_final (problem_in frame)) (sym (name_is k _ _ a.2))

    pub start_named : name_of (names_at frame stage (keys_of entries)) 0 ≡ kind_of (problem_in frame) stage []
    start_named = name_is 0 _ 0 found.start.1 ∙ found.start.2.is

    -- the kinds name the states
    pub is_named : AreNamedByKinds (problem_in frame) stage (names_at frame stage (keys_of entries)) states
    is_named = record {
      each_named = each_named;
      distinct = names_apart;
      some = some_state;
      start = start_named;
      ends = ends_at;
      moves = λ k b column here p. record { fits = fits_name k b _ here p; leads = leads k b _ here p };
      targets = new_targets;
      filled = new_filled;
    }

    pub all_fit : All (FitsFrame frame stage) (keys_of entries)
    all_fit k d l =
        let a = at_number _ k (omega (arith, l, length-map entries (λ e. e.0))) in
        subst (λ (x : Kind). FitsFrame frame stage x) (sym (get_or_map _ _ k _ d a.2)) (found.stands k a.0 a.1 a.2).fits
