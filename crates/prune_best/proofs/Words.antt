-- The new states accept the words of least weight.
use Rattle.std.proofs.Common.{◌≡◌, ℕ, zero, suc, ◌<◌, List, [], ◌∷◌, Option, None, Some, length, get_or, refl, sym}
use Rattle.std.proofs.{Common.{ap, ◌∙◌, subst, arith}, lemmas.List.Elements.Contains-get_or}
use Rattle.std.specs.Prelude.{Contains, IsSome, IsTrue}
use Rattle.weight_law.specs.{declared.Weight.Ghosts, Meaning.{AtMost, IsLawful}}
use Rattle.weight_law.proofs.Order.{at_most-both}
use Rattle.tier_core.specs.{declared.class.Class.Class, declared.sym.Sym.Sym, Classes.{sets_of, has}}
use Rattle.tier_core.specs.Filled.{is_filled}
use Rattle.arc_table.specs.{declared.arc.TableArc.TableArc, declared.state.TableState.TableState}
use Rattle.arc_table.specs.Moves.{moves_at, accepting_at}
use Rattle.arc_table.specs.Conditions.{TargetsExist, ClassesDisjoint, ClassesFilled, OneWidth}
use Rattle.arc_table.specs.Runs.{IsRun, weight_of, Reads, Accepts, IsLeastWord, IsOnRun}
use Rattle.arc_table.proofs.{SomeWord.some_word, Push.moves_exist}
use Rattle.distances.specs.{Best.weight_through, Least.AreLeast}
use Rattle.distances.proofs.{Witness.lawful-weight_of, Looks.weight_through-some}
use Rattle.distances.proofs.Shortest.{least_at, lawful_least, least_same, weighed, tight_step}
use Rattle.prune_best.specs.{Names.{IsNamed, AreNumbered}, Kept.{IsTightArc, Matches}, Tight.{IsTight, IsLeastMove}}
use Rattle.prune_best.proofs.{Numbering.{names_apart, numbered_below}, SoFar.SoFar}

-- the element at a place
at_place : {X : Type 0} (xs : List X) (j : ℕ) → j < length xs → (x : X) × (get_or xs j x ≡ x)
at_place [] j l = absurd (omega (arith, l))
at_place (x ∷ xs) zero l = (x, refl)
at_place (x ∷ xs) (suc j) l = at_place xs j (omega arith)

pub some_of : {X : Type 0} (o : Option X) → IsSome o → (x : X) × (o ≡ Some x)
some_of None h = cc
some_of (Some x) h = (x, refl)

module _ {W V : Type 0} {g : Ghosts W} {h : Ghosts V} where
  -- the moves have the same classes, one by one
  abbrev SameClasses : List (TableArc W g) → List (TableArc V h) → Type 0
  SameClasses [] [] = Unit {0}
  SameClasses [] (b ∷ bs) = ⊥
  SameClasses (a ∷ as') [] = ⊥
  SameClasses (a ∷ as') (b ∷ bs) = (b.class ≡ a.class) × SameClasses as' bs

  reads_new : (arcs : List (TableArc W g)) (moves : List (TableArc V h)) (word : List (List Sym))
      → SameClasses arcs moves → Reads arcs word → Reads moves word
  reads_new [] [] [] s r = tt
  reads_new [] [] (x ∷ word) s r = r
  reads_new [] (b ∷ bs) word s r = absurd s
  reads_new (a ∷ arcs) [] word s r = absurd s
  reads_new (a ∷ arcs) (b ∷ bs) [] s r = r
  reads_new (a ∷ arcs) (b ∷ bs) (x ∷ word) s r =
      (let P : Class → Type 0 = λ c. IsTrue (has c x) in subst P (sym s.0) r.0, reads_new arcs bs word s.1 r.1)

  reads_old : (arcs : List (TableArc W g)) (moves : List (TableArc V h)) (word : List (List Sym))
      → SameClasses arcs moves → Reads moves word → Reads arcs word
  reads_old [] [] [] s r = tt
  reads_old [] [] (x ∷ word) s r = r
  reads_old [] (b ∷ bs) word s r = absurd s
  reads_old (a ∷ arcs) [] word s r = absurd s
  reads_old (a ∷ arcs) (b ∷ bs) [] s r = r
  reads_old (a ∷ arcs) (b ∷ bs) (x ∷ word) s r =
      (let P : Class → Type 0 = λ c. IsTrue (has c x) in subst P s.0 r.0, reads_old arcs bs word s.1 r.1)

module _ {W V : Type 0} {g : Ghosts W} {h : Ghosts V} (laws : IsLawful g.meaning) (old : List (TableState W g))
    (exist : TargetsExist old) (least : List (Option W)) (are : AreLeast old least) (names : List ℕ)
    (new : List (TableState V h)) (f : SoFar old least names new) (all : length new ≡ length names) where
  to_old : (moves : List (TableArc V h)) (k s : ℕ) → IsNamed names k s → IsRun new k moves → (w : W)
      → get_or least s None ≡ Some w → (arcs : List (TableArc W g)) × IsRun old s arcs × SameClasses arcs moves ×
      (weight_of arcs ≡ w)
  to_old [] k s n run w e =
      let state = f.states k s (omega (arith, all)) n in
      let accepts : IsTrue (accepting_at old s) = sym state.accepts ∙ run in
      let pw = lawful_least laws old exist least are s w e in (
        [],
        accepts,
        tt,
        at_most-both laws g.meaning.zero w laws.lawful_zero pw (laws.below_zero w pw)
            ((least_at laws old exist least are s w e).least [] accepts),
      )
  to_old (b ∷ moves) k s n run w e =
      let state = f.states k s (omega (arith, all)) n in
      let kept = state.kept w e in
      let from = kept.from b run.0 in
      let place = at_place (moves_at old s) from.0 from.1 in
      let arc = place.0 in
      let both = from.2 arc in
      let P : TableArc W g → Type 0 = λ x. IsTightArc least w x × Matches names x b in
      let good : P arc = subst P place.1 both in
      let rest = weight_through-some laws arc.weight (get_or least arc.target None) w good.0 in
      let later = to_old moves b.target arc.target good.1.1 run.1 rest.0 rest.1 in (
        arc ∷ later.0,
        ((from.0, from.1, place.1), later.1),
        (good.1.0, later.2),
        ap (λ x. g.meaning.sum arc.weight x) later.3 ∙ sym rest.2,
      )

  to_new : (arcs : List (TableArc W g)) (k s : ℕ) → IsNamed names k s → IsRun old s arcs → (w : W)
      → get_or least s None ≡ Some w → weight_of arcs ≡ w
      → (moves : List (TableArc V h)) × IsRun new k moves × SameClasses arcs moves
  to_new [] k s n run w e same =
      let state = f.states k s (omega (arith, all)) n in
      ([], state.accepts ∙ run, tt)
  to_new (arc ∷ arcs) k s n run w e same =
      let state = f.states k s (omega (arith, all)) n in
      let step = tight_step laws old exist least are s w arc arcs e run same in
      let O : Option W → Type 0 = λ o. weight_through g.meaning arc.weight o ≡ Some w in
      let kept : IsTightArc least w arc = subst O (sym step.1) (ap (λ x. Some x) step.3) in
      let P : TableArc W g → Type 0 = IsTightArc least w in
      let found = (state.kept w e).to run.0.0 arc run.0.1 (subst P (sym run.0.2) kept) in
      let Q : TableArc W g → Type 0 = λ x. Matches names x found.0 in
      let match : Q arc = subst Q run.0.2 found.2 in
      let later = to_new arcs found.0.target arc.target match.1 run.1 step.0 step.1 step.2 in
      (found.0 ∷ later.0, (found.1, later.1), (match.0, later.2))

  pub accepts_least : (word : List (List Sym)) → Accepts new word → IsLeastWord old word
  accepts_least word a =
      let start = some_of (get_or least 0 None) (f.weighed 0 0 f.start) in
      let found = to_old a.0 0 0 f.start a.1.run start.0 start.1 in
      let P : W → (List (TableArc W g)) → Type 0 = λ x others. AtMost g.meaning x (weight_of others) in (
        found.0,
        record { run = found.1; reads = reads_old found.0 a.0 word found.2 a.1.reads },
        λ other others run. (let Q : W → Type 0 = λ x. AtMost g.meaning x (weight_of others) in subst Q (sym found.3)
            ((least_at laws old exist least are 0 start.0 start.1).least others run.run)),
      )

  pub least_accepts : ClassesFilled old → (word : List (List Sym)) → IsLeastWord old word → Accepts new word
  least_accepts filled word a =
      let start = some_of (get_or least 0 None) (f.weighed 0 0 f.start) in
      let w = start.0 in
      let best = least_at laws old exist least are 0 w start.1 in
      let other = some_word old filled 0 best.some.0 best.some.1 in
      let P : W → Type 0 = λ x. AtMost g.meaning (weight_of a.0) x in
      let upper : P w = subst P best.some.2 (a.2 other.0 best.some.0 (record { run = best.some.1; reads = other.1 })) in
      let same : weight_of a.0 ≡ w = at_most-both laws (weight_of a.0) w (lawful-weight_of laws a.0)
      (lawful_least laws old exist least are 0 w start.1) upper (best.least a.0 a.1.run) in
      let found = to_new a.0 0 0 f.start a.1.run w start.1 same in
      (found.0, record { run = found.1; reads = reads_new a.0 found.0 word found.2 a.1.reads })

  name_of : (k : ℕ) → k < length new → IsNamed names k (get_or names k 0)
  name_of k l = (omega (arith, all), refl)

  on_run : (k : ℕ) → k < length new → IsOnRun new k
  on_run k l =
      let n = name_of k l in
      let path = f.reached k (get_or names k 0) n in
      let start = some_of (get_or least (get_or names k 0) None) (f.weighed k (get_or names k 0) n) in
      let best = least_at laws old exist least are (get_or names k 0) start.0 start.1 in
      let run = to_new best.some.0 k (get_or names k 0) n best.some.1 start.0 start.1 best.some.2 in
      (path.0, path.1, (run.0, run.1))

  -- the old move of a new one
  old_move : (k : ℕ) (b : TableArc V h) → k < length new → Contains (moves_at new k) b
      → (a : TableArc W g) × Contains (moves_at old (get_or names k 0)) a × IsLeastMove old
      (get_or names k 0) a × Matches names a b
  old_move k b l here =
      let n = name_of k l in
      let state = f.states k (get_or names k 0) l n in
      let start = some_of (get_or least (get_or names k 0) None) (f.weighed k (get_or names k 0) n) in
      let from = (state.kept start.0 start.1).from b here in
      let place = at_place (moves_at old (get_or names k 0)) from.0 from.1 in
      let both = from.2 place.0 in
      let P : TableArc W g → Type 0 = λ x. IsTightArc least start.0 x × Matches names x b in
      let good : P place.0 = subst P place.1 both in
      let rest = weight_through-some laws place.0.weight (get_or least place.0.target None) start.0 good.0 in
      let least_move : IsLeastMove old (get_or names k 0) place.0 = (
        start.0,
        rest.0,
        least_at laws old exist least are (get_or names k 0) start.0 start.1,
        least_at laws old exist least are place.0.target rest.0 rest.1,
        sym rest.2,
      ) in
      (place.0, (from.0, from.1, place.1), least_move, good.1)

  -- the new move of a least old one
  new_move : (k : ℕ) (a : TableArc W g) → k < length new → Contains (moves_at old (get_or names k 0)) a
      → IsLeastMove old (get_or names k 0) a → (b : TableArc V h) × Contains (moves_at new k) b × Matches names a b
  new_move k a l here m =
      let s = get_or names k 0 in
      let n = name_of k l in
      let state = f.states k s l n in
      let start = some_of (get_or least s None) (f.weighed k s n) in
      let w = start.0 in
      let rest = weighed laws old exist least are a.target m.3.some.0 (exist s a here) m.3.some.1 in
      let first : m.0 ≡ w = least_same laws old exist least are s m.0 w m.2 start.1 in
      let second : m.1 ≡ rest.0 = least_same laws old exist least are a.target m.1 rest.0 m.3 rest.1 in
      let O : Option W → Type 0 = λ o. weight_through g.meaning a.weight o ≡ Some w in
      let total : g.meaning.sum a.weight rest.0 ≡ w = ap (λ x. g.meaning.sum a.weight x) (sym second) ∙ (m.4 ∙ first) in
      let kept : IsTightArc least w a = subst O (sym rest.1) (ap (λ x. Some x) total) in
      let P : TableArc W g → Type 0 = IsTightArc least w in
      let found = (state.kept w start.1).to here.0 a here.1 (subst P (sym here.2) kept) in
      let Q : TableArc W g → Type 0 = λ x. Matches names x found.0 in
      (found.0, found.1, subst Q here.2 found.2)

  pub is_tight : ClassesFilled old → (numbers : List (Option ℕ)) → AreNumbered names numbers
      → length numbers ≡ length old → IsTight old new names
  is_tight filled numbers numbered same = record {
    accepts = λ word. (accepts_least word, least_accepts filled word);
    on_runs = on_run;
    each_named = sym all;
    within = λ k l. omega (arith, numbered_below names numbers numbered k (get_or names k 0) (l, refl));
    distinct = names_apart names numbers numbered;
    start = f.start.1;
    accepting = λ k l. (f.states k (get_or names k 0) l (name_of k l)).accepts;
    moves = old_move;
    keeps = new_move;
  }

  pub new_targets : TargetsExist new
  new_targets k b here = (let m = old_move k b (moves_exist new k b here) here in omega (arith, m.3.1.0, all))

  pub new_filled : ClassesFilled old → ClassesFilled new
  new_filled filled k b here =
      let m = old_move k b (moves_exist new k b here) here in
      let P : Class → Type 0 = λ c. IsTrue (is_filled c) in
      subst P (sym m.3.0) (filled (get_or names k 0) m.0 m.1)

  pub new_width : OneWidth old → OneWidth new
  new_width one k l a b here there =
      let m = old_move k a (moves_exist new k a here) here in
      let n = old_move l b (moves_exist new l b there) there in
      ap (λ c. length (sets_of c)) m.3.0
      ∙ (one (get_or names k 0) (get_or names l 0) m.0 n.0 m.1 n.1 ∙ ap (λ c. length (sets_of c)) (sym n.3.0))

  pub new_disjoint : ClassesDisjoint old → ClassesDisjoint new
  new_disjoint apart k i j d less inside =
      let l = moves_exist new k (get_or (moves_at new k) j d) (Contains-get_or (moves_at new k) j d inside) in
      let n = name_of k l in
      let start = some_of (get_or least (get_or names k 0) None) (f.weighed k (get_or names k 0) n) in
      ((f.states k (get_or names k 0) l n).kept start.0 start.1).apart (apart (get_or names k 0)) i j d less inside
