-- A kept table whose states are named by kinds is explored.
use Rattle.std.proofs.Common.{◌≡◌, ℕ, ◌<◌, ◌≤◌, List, [], ◌∷◌, ◌++◌, length, ap, sym, ◌∙◌, arith}
use Rattle.std.specs.Map.{keys_of, values_of}
use Rattle.weight_law.specs.{declared.Weight.Ghosts, declared.count.Count.Count}
use Rattle.weight_law.specs.declared.unit_weight.UnitWeight.{UnitWeight}
use Rattle.tier_core.specs.{declared.kind.Kind.Kind, declared.sym.Sym.Sym, Classes.sets_of, Kinds.PrefixKind}
use Rattle.tier_core.specs.FirstColumn.{first_column}
use Rattle.tier_core.proofs.{ClassLemmas.same_width, Filled.has-first_column}
use Rattle.arc_table.specs.{declared.arc.TableArc.TableArc, declared.state.TableState.TableState}
use Rattle.arc_table.specs.{Conditions.TargetsExist, Runs.{IsPath, Accepts}}
use Rattle.violation.specs.{Moves.{is_final, cut_kind}, Problems.last_stage}
use Rattle.violation.proofs.CutLemmas.{cut_kind-kind_of}
use Rattle.kind_moves.specs.{declared.frame.Frame.Frame, Frames.{problem_in, kind_at_stage}}
use Rattle.kind_moves.proofs.LawSteps.{kinds_law}
use Rattle.kind_tables.specs.{StageTables.{IsStage, name_of}, FoundTables.{base_of, AreFoundFrom}}
use Rattle.kind_tables.proofs.{Exploring.{fits_from_cut, found_on_runs, same_words}, Naming.{path_kind, same_state}}
use Rattle.kind_tables.proofs.Paths.{run_path, path_word, joined_run, joined_reads}
use Rattle.stage_tables.specs.{Kept.AreKeptByKinds, Explored.{names_at, IsExplored}}
use Rattle.stage_tables.specs.Listed.{IsReached, IsOverOne, IsOfWidth, AreFound, AreTaken}
use Rattle.stage_tables.proofs.Named.{frame_stage, names_apart, name_is, kind_of_state, base_is, leads, weighs}
use Rattle.stage_tables.proofs.Named.{columns_new, columns_old, new_targets, new_filled, new_reached, each_named}
use Rattle.stage_tables.proofs.Named.{some_state, ends_at, start_named, is_named, all_fit}

-- a path from a state ends at one
pub path_within : {W : Type 0} {g : Ghosts W} (states : List (TableState W g)) → TargetsExist states
    → (arcs : List (TableArc W g)) (s t : ℕ) → s < length states → IsPath states s arcs t → t < length states
path_within states exist [] s t l path = omega (arith, l, path)
path_within states exist (arc ∷ arcs) s t l path = path_within states exist arcs arc.target t
    (exist s arc path.0) path.1

module _ {g : Ghosts UnitWeight} (frame : Frame) (before stage : ℕ) (further : before ≤ stage)
    (within : stage ≤ last_stage (problem_in frame)) (kept : List (TableState UnitWeight g))
    (names : List PrefixKind) (by : AreKeptByKinds (problem_in frame) before names kept) where
  earlier : IsStage (problem_in frame) before
  earlier = frame_stage frame before (omega (arith, further, within))

  -- the kind of what leads to a state, cut, is the state's name
  pub cut_named : (kind : Kind) (s : ℕ) → IsReached frame stage kept kind s
      → cut_kind (problem_in frame) before (kind_at_stage frame stage kind) ≡ name_of names s
  cut_named kind s r =
      ap (cut_kind (problem_in frame) before) (kinds_law frame stage r.first r.starts r.prefix kind r.leads)
      ∙ cut_kind-kind_of (problem_in frame) before stage further r.prefix
      ∙ sym (path_kind (problem_in frame) before earlier names kept by.named r.arcs s r.prefix r.path r.reads)

  pub kept_over_one : IsOverOne frame stage kept
  kept_over_one a b s t ra rb same =
      same_state (problem_in frame) before earlier names kept by.named s t
      (path_within kept by.named.targets ra.arcs 0 s by.named.some ra.path)
      (path_within kept by.named.targets rb.arcs 0 t by.named.some rb.path)
      (sym (cut_named a s ra) ∙ ap (cut_kind (problem_in frame) before) same ∙ cut_named b t rb)

  pub kept_wide : IsOfWidth frame kept
  kept_wide s arc here =
      let have = has-first_column _ (by.named.filled s arc here) in
      let fits = (by.named.moves s arc (first_column arc.class) here have).fits in
      sym (same_width _ _ have) ∙ fits.width

  -- each prefix that leads to a state goes on to a word
  pub kept_goes_on : (kind : Kind) (s : ℕ) → s < length kept → (r : IsReached frame stage kept kind s)
      → (rest : List (List Sym)) × Accepts kept (r.prefix ++ rest)
  kept_goes_on kind s l r =
      let run = by.on_runs s l in
      let path = run_path _ s _ run.2.1 in
      let word = path_word _ by.named.filled s _ _ path.1 in (
        word.0,
        (
          r.arcs ++ run.2.0,
          record {
            run = joined_run _ _ _ 0 s r.path run.2.1;
            reads = joined_reads kept _ _ _ _ r.reads word.1;
          },
        ),
      )

  module _ {h : Ghosts Count} (first : ℕ) (entries : List (Kind × ℕ))
      (found : AreFound frame stage kept entries) (states : List (TableState Count h))
      (taken : AreTaken frame first stage kept entries states) (all : length states ≡ length entries) where
    cuts_at : (k : ℕ) → k < length states
        → cut_kind (problem_in frame) before (name_of (names_at frame stage (keys_of entries)) k)
        ≡ name_of names (base_of (values_of entries) k)
    cuts_at k l =
        let a = kind_of_state frame first stage kept entries found states taken all k l in
        ap (cut_kind (problem_in frame) before) (name_is frame first stage kept entries found states taken all
        k a.0 a.1 a.2)
        ∙ cut_named a.0 a.1 (found.reached k a.0 a.1 a.2)
        ∙ ap (name_of names) (sym (base_is frame first stage kept entries found states taken all k a.0 a.1 a.2))

    from_kept : AreFoundFrom (problem_in frame) before stage names kept (values_of entries)
        (names_at frame stage (keys_of entries)) states
    from_kept = record {
      each_named = each_named frame first stage kept entries found states taken all;
      distinct = names_apart frame first stage kept entries found;
      some = some_state frame first stage kept entries found states taken all;
      start = start_named frame first stage kept entries found states taken all;
      based = λ k l.
          (let a = kind_of_state frame first stage kept entries found states taken all k l in
          let base = base_is frame first stage kept entries found states taken all k a.0 a.1 a.2 in
          omega (arith, base, (found.stands k a.0 a.1 a.2).within));
      cuts = cuts_at;
      ends = λ k l.
          (let a = kind_of_state frame first stage kept entries found states taken all k l in
          let base = base_is frame first stage kept entries found states taken all k a.0 a.1 a.2 in
          let inside = (found.stands k a.0 a.1 a.2).within in
          ends_at frame first stage kept entries found states taken all k l
          ∙ ap (is_final (problem_in frame)) (cuts_at k l)
          ∙ sym (by.named.ends (base_of (values_of entries) k) (omega (arith, base, inside))));
      columns = λ k column l. (
        columns_old frame first stage kept entries found states taken all k column,
        λ move. columns_new frame first stage kept entries found states taken all k column l move
            (fits_from_cut (problem_in frame) before stage further names kept by.named
            (name_of (names_at frame stage (keys_of entries)) k)
            (base_of (values_of entries) k) move.0 column (cuts_at k l) move.1 move.2),
      );
      leads = leads frame first stage kept entries found states taken all;
      targets = new_targets frame first stage kept entries found states taken all;
      filled = new_filled frame first stage kept entries found states taken all;
      reached = new_reached frame first stage kept entries found states taken all;
    }

    -- all kinds that are found make the table of the stage
    pub is_explored : IsExplored frame stage kept (keys_of entries) states
    is_explored = record {
      named = is_named _ _ _ _ _ found _ taken all;
      weighed = weighs _ _ _ _ _ found _ taken all;
      fit = all_fit _ _ _ _ _ found _ taken all;
      accepts = λ T. same_words _ _ _ further _ _ by.named earlier _ _ _ from_kept T;
      on_runs = λ s l. found_on_runs _ _ _ further _ _ by.named earlier _ _ _ from_kept by.on_runs s l;
    }
