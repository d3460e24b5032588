-- Tables that differ in nothing but what their moves weigh.
use Rattle.std.proofs.Common.{◌≡◌, ◌↔◌, ℕ, ◌<◌, List, [], ◌∷◌, map, length, sym, ap, ◌∙◌, subst, arith, inl, inr}
use Rattle.std.proofs.{lemmas.Bool.cases_lt, lemmas.List.{length-map, get_or_past}}
use Rattle.std.specs.{Prelude.{Contains, AllPairs, IsTrue}, List.AllZip}
use Rattle.weight_law.specs.declared.Weight.{Ghosts}
use Rattle.tier_core.specs.{declared.class.Class.Class, declared.sym.Sym.Sym, Classes.{has, sets_of, AreDisjoint}}
use Rattle.tier_core.specs.{Kinds.PrefixKind, Filled.is_filled}
use Rattle.arc_table.specs.{declared.arc.TableArc.TableArc, declared.state.TableState.TableState}
use Rattle.arc_table.specs.Conditions.{TargetsExist, ClassesDisjoint, ClassesFilled, OneWidth}
use Rattle.arc_table.specs.{Moves.{moves_at, accepting_at}, Runs.{Accepts, IsOnRun}}
use Rattle.arc_table.proofs.Push.{moves_exist}
use Rattle.kind_tables.specs.StageTables.{name_of, AreNamedByKinds}
use Rattle.kind_tables.proofs.Paths.{run_exists}
use Rattle.stage_tables.proofs.{SameWords.{GoesWith, words_with, on_runs_with}, Zips.{zip_from, zip_to, zip_pairs}}
use Rattle.violation.specs.Problems.{Problem}

-- moves on the same columns to the same state
pub record IsAlike {W V : Type 0} {g : Ghosts W} {h : Ghosts V} (a : TableArc W g) (b : TableArc V h) : Type 0 where
  pub same_class : b.class ≡ a.class
  pub same_target : b.target ≡ a.target

-- states that accept alike, and have the same moves one by one
pub record AreAlike {W V : Type 0} {g : Ghosts W} {h : Ghosts V} (old : List (TableState W g))
    (new : List (TableState V h)) : Type 0 where
  pub each_state : length new ≡ length old
  pub ends : (k : ℕ) → k < length old → accepting_at new k ≡ accepting_at old k
  pub moves : (k : ℕ) → k < length old → AllZip IsAlike (moves_at old k) (moves_at new k)

module _ {W V : Type 0} {g : Ghosts W} {h : Ghosts V} (old : List (TableState W g)) (new : List (TableState V h))
    (alike : AreAlike old new) where
  forth : (s : ℕ) (a : TableArc W g) → Contains (moves_at old s) a
      → (b : TableArc V h) × Contains (moves_at new s) b × IsAlike a b
  forth s a here = zip_to _ _ _ (alike.moves s (moves_exist _ s a here)) _ a here.1 here.2

  back : (s : ℕ) (b : TableArc V h) → Contains (moves_at new s) b
      → (a : TableArc W g) × Contains (moves_at old s) a × IsAlike a b
  back s b here = zip_from _ _ _
      (alike.moves s (omega (arith, moves_exist new s b here, alike.each_state))) _ b here.1 here.2

  reads_new : (a : TableArc W g) (b : TableArc V h) (column : List Sym) → IsAlike a b → IsTrue (has a.class column)
      → IsTrue (has b.class column)
  reads_new a b column same reads = rw same.same_class reads

  reads_old : (a : TableArc W g) (b : TableArc V h) (column : List Sym) → IsAlike a b → IsTrue (has b.class column)
      → IsTrue (has a.class column)
  reads_old a b column same reads = rw same.same_class at reads

  pub alike_goes : GoesWith old new
  alike_goes = record {
    ends = λ s run. alike.ends s (run_exists _ s [] run) ∙ run;
    moves = λ s a column here reads.
        (let b = forth s a here in (b.0, b.1, reads_new a _ _ b.2 reads, b.2.same_target));
  }

  -- each state that is on a run stays on one
  pub alike_on_runs : ClassesFilled old → ((s : ℕ) → s < length old → IsOnRun old s)
      → (s : ℕ) → s < length new → IsOnRun new s
  alike_on_runs filled on_runs s l =
      on_runs_with _ _ alike_goes filled s (on_runs s (omega (arith, l, alike.each_state)))

  pub alike_targets : TargetsExist old → TargetsExist new
  alike_targets exist s b here =
      let a = back s b here in
      omega (arith, exist s a.0 a.1, a.2.same_target, alike.each_state)

  pub alike_filled : ClassesFilled old → ClassesFilled new
  alike_filled filled s b here =
      let a = back s b here in
      rw a.2.same_class (filled s a.0 a.1)

  pub alike_width : OneWidth old → OneWidth new
  alike_width one s t b d here there =
      let a = back s b here in
      let c = back t d there in
      ap (λ c. length (sets_of c)) a.2.same_class ∙ one s t a.0 c.0 a.1 c.1
      ∙ ap (λ c. length (sets_of c)) (sym c.2.same_class)

  pub alike_disjoint : ClassesDisjoint old → ClassesDisjoint new
  alike_disjoint apart s = elim (cases_lt s (length old)) [
    | inl l ↦
        zip_pairs IsAlike (λ x y. AreDisjoint x.class y.class) (λ x y. AreDisjoint x.class y.class)
        (λ x z y w p q d. subst (λ (c : Class). AreDisjoint c w.class) (sym p.same_class)
        (subst (λ (c : Class). AreDisjoint x.class c) (sym q.same_class) d))
        (moves_at old s) (moves_at new s) (alike.moves s l) (apart s)
    | inr l ↦
        (let gone : moves_at new s ≡ [] = get_or_past (map (λ s. s.arcs.items) new) s []
        (omega (arith, length-map new (λ s. s.arcs.items), alike.each_state)) in
        subst (λ (xs : List (TableArc V h)). AllPairs (λ x y. AreDisjoint x.class y.class) xs) (sym gone)
        (λ i j d less inside. absurd (omega (arith, inside))))
  ]

  pub alike_named : (problem : Problem) (r : ℕ) (names : List PrefixKind)
      → AreNamedByKinds problem r names old → AreNamedByKinds problem r names new
  alike_named problem r names named = record {
    each_named = named.each_named ∙ sym alike.each_state;
    distinct = named.distinct;
    some = omega (arith, named.some, alike.each_state);
    start = named.start;
    ends = λ s l. (let inside : s < length old = omega (arith, l, alike.each_state) in alike.ends s inside
        ∙ named.ends s inside);
    moves = λ s b column here reads.
        (let a = back s b here in
        let goes = named.moves s a.0 column a.1 (reads_old _ b _ a.2 reads) in
        record { fits = goes.fits; leads = ap (name_of names) a.2.same_target ∙ goes.leads });
    targets = alike_targets named.targets;
    filled = alike_filled named.filled;
  }

-- tables that are alike accept the same words
pub alike_turned : {W V : Type 0} {g : Ghosts W} {h : Ghosts V} (old : List (TableState W g))
    (new : List (TableState V h))
    → AreAlike old new → AreAlike new old
alike_turned old new alike = record {
  each_state = sym alike.each_state;
  ends = λ k l. sym (alike.ends k (omega (arith, l, alike.each_state)));
  moves = λ k l. turned _ _ (alike.moves k (omega (arith, l, alike.each_state)));
}
  where
    turned : {W V : Type 0} {g : Ghosts W} {h : Ghosts V} (xs : List (TableArc W g)) (ys : List (TableArc V h))
        → AllZip IsAlike xs ys → AllZip IsAlike ys xs
    turned [] [] z = tt
    turned [] (y ∷ ys) z = absurd z
    turned (x ∷ xs) [] z = absurd z
    turned (x ∷ xs) (y ∷ ys) z = (
      record { same_class = sym z.0.same_class; same_target = sym z.0.same_target },
      turned xs ys z.1,
    )

pub alike_words : {W V : Type 0} {g : Ghosts W} {h : Ghosts V} (old : List (TableState W g))
    (new : List (TableState V h))
    → AreAlike old new → (T : List (List Sym)) → Accepts new T ↔ Accepts old T
alike_words old new alike T = (
  words_with _ _ (alike_goes _ _ (alike_turned _ _ alike)) T,
  words_with _ _ (alike_goes _ _ alike) T,
)
