-- The kinds of the states that a stage leaves, and what they are at a stage that adds no phase.
use Rattle.std.proofs.Common.{◌≡◌, ℕ, zero, suc, ◌+◌, ◌-◌, ◌<◌, ◌≤◌, Bool, true, false, cond, List, [], ◌∷◌, filter}
use Rattle.std.proofs.Common.{map, take, length, get_or, refl, sym, ap, ◌∙◌, subst, arith, All, Contains}
use Rattle.std.proofs.lemmas.List.{get_or_default, get_or-map, length-map}
use Rattle.std.proofs.lemmas.List.Elements.{All-contains, Contains-get_or}
use Rattle.std.specs.List.{AllByRecursion}
use Rattle.tier_core.specs.{declared.constraint.Constraint.Constraint, declared.kind.Kind.Kind, declared.sym.Sym.Sym}
use Rattle.tier_core.specs.{Kinds.{PrefixKind, AreStretchesBelow, prefix_kind}, Scan.opens, Sides.is_stretch}
use Rattle.tier_core.specs.{Timelines.{symbol, has_edge, project, squeeze, tier_word}, EmptyKind.empty_kind}
use Rattle.tier_core.specs.KindNumbers.{kind_numbered}
use Rattle.weight_law.specs.{declared.Weight.Ghosts, declared.unit_weight.UnitWeight.UnitWeight}
use Rattle.arc_table.specs.{declared.state.TableState.TableState, Conditions.{TargetsExist, ClassesFilled}}
use Rattle.prune_best.specs.Tight.{IsTight}
use Rattle.violation.specs.{Moves.{input_of, next_phases}, Prefixes.{is_open, phase}, Problems.last_stage}
use Rattle.kind_moves.specs.{declared.frame.Frame.Frame, Frames.{problem_in, tiers_in, constraints_in, stretches_in}}
use Rattle.kind_moves.specs.Frames.{kind_at_stage, FitsFrame, AreClosedOr, is_left_open}
use Rattle.kind_tables.specs.{StageTables.{name_of, AreNamedByKinds}, FoundTables.names_kept}
use Rattle.stage_laws.proofs.Pruned.{kept_named}
use Rattle.tier_core.proofs.Members.{contains_map, contains_of_map, all_from_members}
use Rattle.tier_core.proofs.Differing.{differ_from_pairs, no_longer}
use Rattle.stage_tables.specs.{Explored.names_at, Kept.AreKeptByKinds}
use Rattle.stage_tables.proofs.Named.{frame_stage}
use Rattle.ranked_gen.specs.KindsLeft.{AreKindsLeft}
use Rattle.ranked_gen.proofs.OrderedNames.{count_kinds, name_is}

-- ---- of the states that are pruned

module _ (frame : Frame) (stage : ℕ) (within : stage ≤ last_stage (problem_in frame)) (kinds : List Kind)
    {W : Type 0} {g : Ghosts W} (states : List (TableState W g))
    (named : AreNamedByKinds (problem_in frame) stage (names_at frame stage kinds) states)
    (fit : All (FitsFrame frame stage) kinds) {h : Ghosts UnitWeight} (pruned : List (TableState UnitWeight h))
    (old : List ℕ) (tight : IsTight states pruned old) where
  -- the numbers of kept states are those of kinds
  pub numbers_inside : All (λ number. number < length kinds) old
  numbers_inside k d l =
      omega (arith, tight.within k l, get_or_default old k d 0 l, count_kinds frame stage within kinds states named)

  names_from : (numbers : List ℕ) → AllByRecursion (λ number. number < length kinds) numbers
      → names_at frame stage (map (kind_numbered kinds) numbers)
      ≡ map (name_of (names_at frame stage kinds)) numbers
  names_from [] h = refl
  names_from (n ∷ ns) h =
      ap (λ k. k ∷ names_at frame stage (map (kind_numbered kinds) ns))
      (sym (name_is frame stage within kinds states named n empty_kind h.0))
      ∙ ap (λ ks. name_of (names_at frame stage kinds) n ∷ ks) (names_from ns h.1)

  same_names : names_at frame stage (map (kind_numbered kinds) old) ≡ names_kept (names_at frame stage kinds) old
  same_names = names_from old (all_from_members (λ number. number < length kinds) old
      (λ n c. All-contains (λ number. number < length kinds) old n numbers_inside c))

  left_fits : All (FitsFrame frame stage) (map (kind_numbered kinds) old)
  left_fits k d l =
      let inside : k < length old = omega (arith, l, length-map old (kind_numbered kinds)) in
      subst (FitsFrame frame stage) (sym (get_or-map (kind_numbered kinds) old k 0 d inside))
      (fit (get_or old k 0) empty_kind (numbers_inside k 0 inside))

  module _ (some : 0 < length pruned) (targets : TargetsExist pruned) (filled : ClassesFilled pruned) where
    kept_by : AreKeptByKinds (problem_in frame) stage (names_at frame stage (map (kind_numbered kinds) old)) pruned
    kept_by = subst (λ (names : List PrefixKind). AreKeptByKinds (problem_in frame) stage names pruned)
        (sym same_names) (record {
          named = kept_named (problem_in frame) stage (frame_stage frame stage within) (names_at frame stage kinds)
              states named pruned old tight some targets filled;
          on_runs = tight.on_runs;
        })

    pub kinds_left : (left : List Kind) → left ≡ map (kind_numbered kinds) old → AreKindsLeft frame stage pruned left
    kinds_left left is = subst (λ (ks : List Kind). AreKindsLeft frame stage pruned ks) (sym is)
        (record { by = kept_by; fit = left_fits })

    -- a kind that is left was there before
    was_there : (k : PrefixKind) → Contains (names_at frame stage (map (kind_numbered kinds) old)) k
        → Contains (names_at frame stage kinds) k
    was_there k c =
        let a = contains_of_map (kind_at_stage frame stage) (map (kind_numbered kinds) old) k c in
        let b = contains_of_map (kind_numbered kinds) old a.0 a.1.0 in
        let inside : b.0 < length kinds = All-contains (λ number. number < length kinds) old b.0 numbers_inside b.1.0 in
        subst (Contains (names_at frame stage kinds)) (ap (kind_at_stage frame stage) b.1.1 ∙ a.1.1)
        (contains_map (kind_at_stage frame stage) kinds (kind_numbered kinds b.0)
        (Contains-get_or kinds b.0 empty_kind inside))

    pub left_few : (left : List Kind) → left ≡ map (kind_numbered kinds) old → length left ≤ length kinds
    left_few left is =
        let names = names_at frame stage (map (kind_numbered kinds) old) in
        let few : length names ≤ length (names_at frame stage kinds) = no_longer (names_at frame stage kinds) names
        was_there (differ_from_pairs names kept_by.named.distinct) in
        omega (
          arith,
          few,
          ap (λ (ks : List Kind). length ks) is,
          length-map (map (kind_numbered kinds) old) (kind_at_stage frame stage),
          length-map kinds (kind_at_stage frame stage),
        )

-- ---- at a stage that adds no phase

-- where one more element adds none that passes, the same pass
same_filter : {X : Type 0} (p : X → Bool) (xs : List X) (n : ℕ)
    → length (filter p (take (suc n) xs)) ≡ length (filter p (take n xs))
    → filter p (take (suc n) xs) ≡ filter p (take n xs)
same_filter p [] zero e = refl
same_filter p [] (suc n) e = refl
same_filter {X} p (x ∷ xs) zero e = go (p x) e
  where
    go : (b : Bool) → (let none : List X = [] in length (cond b (x ∷ none) none)) ≡ 0
        → (let none : List X = [] in cond b (x ∷ none) none) ≡ []
    go true e = absurd (omega (arith, e))
    go false e = refl
same_filter p (x ∷ xs) (suc n) e = go (p x) (same_filter p xs n) e
  where
    go : (b : Bool)
        → (length (filter p (take (suc n) xs)) ≡ length (filter p (take n xs))
        → filter p (take (suc n) xs) ≡ filter p (take n xs))
        → length (cond b (x ∷ filter p (take (suc n) xs)) (filter p (take (suc n) xs)))
        ≡ length (cond b (x ∷ filter p (take n xs)) (filter p (take n xs)))
        → cond b (x ∷ filter p (take (suc n) xs)) (filter p (take (suc n) xs))
        ≡ cond b (x ∷ filter p (take n xs)) (filter p (take n xs))
    go true h e = ap (λ ys. x ∷ ys) (h (omega (arith, e)))
    go false h e = h e

pub same_stretches : (frame : Frame) (stage : ℕ) → 1 ≤ stage
    → length (stretches_in frame stage) ≡ length (stretches_in frame (stage - 1))
    → stretches_in frame stage ≡ stretches_in frame (stage - 1)
same_stretches frame stage some =
    let cs = constraints_in frame in
    let next : suc (stage - 1) ≡ stage = omega (arith, some) in
    subst (λ n. length (filter is_stretch (take n cs)) ≡ length (filter is_stretch (take (stage - 1) cs))
    → filter is_stretch (take n cs) ≡ filter is_stretch (take (stage - 1) cs)) next
    (same_filter is_stretch cs (stage - 1))

module _ (frame : Frame) (before stage : ℕ) (same : stretches_in frame stage ≡ stretches_in frame before) where
  count_same : length (stretches_in frame stage) ≡ length (stretches_in frame before)
  count_same = ap (λ (cs : List Constraint). length cs) same

  names_same : (kinds : List Kind) → names_at frame before kinds ≡ names_at frame stage kinds
  names_same kinds = ap (λ n. map (prefix_kind (length (tiers_in frame).free) n) kinds) (sym count_same)

  -- the kind of a prefix, and the one to which a column leads, hang on the stretch implications alone
  abbrev kind_by : List Constraint → List (List Sym) → PrefixKind
  kind_by cs p = record {
    place = length (squeeze (project (problem_in frame).tiers.input p));
    opened = map (λ t. is_open (tier_word p t)) (problem_in frame).tiers.free;
    phases = map (λ c. phase c.left c.right p) cs;
  }

  abbrev moved_by : List Constraint → PrefixKind → List Sym → PrefixKind
  moved_by cs k column = record {
    place = k.place + cond (has_edge (input_of (problem_in frame).tiers column)) 1 0;
    opened = map (λ t. opens (symbol column t)) (problem_in frame).tiers.free;
    phases = next_phases cs k.phases column;
  }

  named_same : {g : Ghosts UnitWeight} (names : List PrefixKind) (kept : List (TableState UnitWeight g))
      → AreNamedByKinds (problem_in frame) before names kept → AreNamedByKinds (problem_in frame) stage names kept
  named_same names kept named = record {
    each_named = named.each_named;
    distinct = named.distinct;
    some = named.some;
    start = named.start ∙ ap (λ cs. kind_by cs []) (sym same);
    ends = named.ends;
    moves = λ s arc column here held.
        (let goes = named.moves s arc column here held in
        record {
          fits = goes.fits;
          leads = goes.leads ∙ ap (λ cs. moved_by cs (name_of names s) column) (sym same);
        });
    targets = named.targets;
    filled = named.filled;
  }

  fits_same : (kind : Kind) → FitsFrame frame before kind → FitsFrame frame stage kind
  fits_same kind fits = record {
    place = fits.place;
    opened = fits.opened;
    stretches = subst (λ n. AreStretchesBelow n kind) (sym count_same) fits.stretches;
    phases = subst (λ (cs : List Constraint).
        AreClosedOr (is_left_open (problem_in frame) (prefix_kind (length (tiers_in frame).free) (length cs) kind)) cs
        (prefix_kind (length (tiers_in frame).free) (length cs) kind).phases) (sym same) fits.phases;
  }

  -- so what the stage before leaves is named by the same kinds
  pub left_same : {g : Ghosts UnitWeight} (kept : List (TableState UnitWeight g)) (kinds : List Kind)
      → AreKindsLeft frame before kept kinds → AreKindsLeft frame stage kept kinds
  left_same kept kinds left = record {
    by = subst (λ (names : List PrefixKind). AreKeptByKinds (problem_in frame) stage names kept) (names_same kinds)
        (record { named = named_same (names_at frame before kinds) kept left.by.named; on_runs = left.by.on_runs });
    fit = λ k d l. fits_same (get_or kinds k d) (left.fit k d l);
  }
