-- A table that is pruned keeps the names of its states.
use Rattle.std.proofs.Common.{◌≡◌, ◌≢◌, ℕ, ◌<◌, List, length, get_or, sym, ap, ◌∙◌, subst, arith}
use Rattle.std.proofs.lemmas.List.{length-map, get_or-map}
use Rattle.std.specs.Prelude.{Contains, IsTrue}
use Rattle.weight_law.specs.declared.Weight.{Ghosts}
use Rattle.tier_core.specs.{declared.class.Class.Class, declared.sym.Sym.Sym, Classes.has, Kinds.PrefixKind}
use Rattle.arc_table.specs.{declared.arc.TableArc.TableArc, declared.state.TableState.TableState}
use Rattle.arc_table.specs.{Conditions.{TargetsExist, ClassesFilled}, Moves.moves_at}
use Rattle.arc_table.proofs.Push.{moves_exist}
use Rattle.prune_best.specs.Tight.{IsTight}
use Rattle.violation.specs.{Moves.{FitsKind, next_kind, is_final}, Problems.Problem}
use Rattle.kind_tables.specs.{StageTables.{IsStage, name_of, GoesAsKinds, AreNamedByKinds}, FoundTables.names_kept}
use Rattle.kind_tables.proofs.Naming.{same_state}

module _ (problem : Problem) (r : ℕ) (stage : IsStage problem r) {W V : Type 0} {g : Ghosts W} {h : Ghosts V}
    (names : List PrefixKind) (states : List (TableState W g)) (named : AreNamedByKinds problem r names states)
    (pruned : List (TableState V h)) (old : List ℕ) (tight : IsTight states pruned old) where
  kept_name : (k : ℕ) → k < length pruned → name_of (names_kept names old) k ≡ name_of names (get_or old k 0)
  kept_name k l = get_or-map (name_of names) old k 0 _ (omega (arith, tight.each_named))

  kept_distinct : (j k : ℕ) (d : PrefixKind) → j < k → k < length (names_kept names old)
      → get_or (names_kept names old) j d ≢ get_or (names_kept names old) k d
  kept_distinct j k d less within e =
      let inside : k < length old = omega (arith, length-map old (name_of names)) in
      let same : name_of names (get_or old j 0) ≡ name_of names (get_or old k 0) =
      sym (get_or-map (name_of names) old j 0 d (omega arith)) ∙ e ∙ get_or-map (name_of names) old k 0 d inside in
      tight.distinct j k less inside (same_state problem r stage names states named (get_or old j 0) (get_or old k 0)
      (tight.within j (omega arith)) (tight.within k inside) same)

  kept_moves : (k : ℕ) (b : TableArc V h) (column : List Sym) → Contains (moves_at pruned k) b
      → IsTrue (has b.class column) → GoesAsKinds problem r (names_kept names old) k b column
  kept_moves k b column here reads =
      let inside : k < length pruned = moves_exist pruned k b here in
      let move = tight.moves k b inside here in
      let a : TableArc W g = move.0 in
      let match = move.3 in
      let P : Class → Type 0 = λ c. IsTrue (has c column) in
      let goes : GoesAsKinds problem r names (get_or old k 0) a column = named.moves (get_or old k 0) a column move.1
      (subst P match.0 reads) in
      let name : name_of (names_kept names old) k ≡ name_of names (get_or old k 0) = kept_name k inside in
      record {
        fits = subst (λ n. FitsKind problem n column) (sym name) goes.fits;
        leads = get_or-map (name_of names) old b.target 0 _ match.1.0 ∙ ap (name_of names) match.1.1 ∙ goes.leads
            ∙ ap (λ n. next_kind problem r n column) (sym name);
      }

  pub kept_named : 0 < length pruned → TargetsExist pruned → ClassesFilled pruned
      → AreNamedByKinds problem r (names_kept names old) pruned
  kept_named some targets filled = record {
    each_named = length-map old (name_of names) ∙ tight.each_named;
    distinct = kept_distinct;
    some = some;
    start = kept_name 0 some ∙ ap (name_of names) tight.start ∙ named.start;
    ends = λ k l. tight.accepting k l ∙ named.ends (get_or old k 0) (tight.within k (omega (arith, tight.each_named)))
        ∙ ap (is_final problem) (sym (kept_name k l));
    moves = kept_moves;
    targets = targets;
    filled = filled;
  }
