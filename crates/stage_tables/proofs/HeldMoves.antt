-- Moves of a list on a column, and how often their classes hold it.
use Rattle.std.proofs.Common.{◌≡◌, suc, ◌<◌, true, List, [], ◌∷◌, length, get_or, refl, ap, sym, ◌∙◌, subst, arith}
use Rattle.std.proofs.{Common.{IsTrue, AllPairs, Contains, ⊎_elim}, lemmas.Bool.{false≢true, or_cases}}
use Rattle.std.proofs.{lemmas.List.{get_or-map, length-map}, lemmas.List.Folds.list_any_at}
use Rattle.weight_law.specs.declared.Weight.{Ghosts}
use Rattle.tier_core.specs.{declared.class.Class.Class, declared.sym.Sym.Sym, Classes.{has, AreDisjoint}}
use Rattle.symbol_class.specs.Held.{some_has}
use Rattle.arc_table.specs.{declared.arc.TableArc.TableArc, MoveClasses.move_classes}

module _ {W : Type 0} {g : Ghosts W} where
  -- where some class holds a column, there is a move on it
  pub move_on : (moves : List (TableArc W g)) (column : List Sym) → some_has (move_classes moves) column ≡ true
      → (arc : TableArc W g) × Contains moves arc × IsTrue (has arc.class column)
  move_on [] column e = absurd (false≢true e)
  move_on (m ∷ ms) column e = ⊎_elim
      (λ here. (m, (0, omega arith, refl), here))
      (λ there. let rest = move_on ms column there in
      (rest.0, (suc rest.1.0, omega (arith, rest.1.1), rest.1.2), rest.2))
      (or_cases (has m.class column) (some_has (move_classes ms) column) e)

  pub held_on : (moves : List (TableArc W g)) (arc : TableArc W g) (column : List Sym) → Contains moves arc
      → IsTrue (has arc.class column) → some_has (move_classes moves) column ≡ true
  held_on moves arc column here reads =
      let one : get_or (move_classes moves) here.0 arc.class ≡ arc.class =
      get_or-map (λ (a : TableArc W g). a.class) moves here.0 arc arc.class here.1
      ∙ ap (λ (a : TableArc W g). a.class) here.2 in
      list_any_at (λ class. has class column) (move_classes moves) here.0 arc.class
      (omega (arith, here.1, length-map moves (λ (a : TableArc W g). a.class)))
      (ap (λ class. has class column) one ∙ reads)

  -- the classes are apart where those of the moves are
  pub classes_apart : (moves : List (TableArc W g)) → AllPairs (λ a b. AreDisjoint a.class b.class) moves
      → AllPairs AreDisjoint (move_classes moves)
  classes_apart [] apart i j d less l = absurd (omega arith)
  classes_apart (m ∷ ms) apart i j d less l =
      let moves : List (TableArc W g) = m ∷ ms in
      let long = length-map moves (λ (a : TableArc W g). a.class) in
      let li : i < length moves = omega (arith, long) in
      let lj : j < length moves = omega (arith, long) in
      let a = get_or-map (λ (a : TableArc W g). a.class) moves i m d li in
      let b = get_or-map (λ (a : TableArc W g). a.class) moves j m d lj in
      subst (λ (c : Class). AreDisjoint c (get_or (move_classes moves) j d)) (sym a)
      (subst (λ (c : Class). AreDisjoint (get_or moves i m).class c) (sym b) (apart i j m less lj))

  pub moves_apart : (moves : List (TableArc W g)) → AllPairs AreDisjoint (move_classes moves)
      → AllPairs (λ a b. AreDisjoint a.class b.class) moves
  moves_apart moves apart i j d less l =
      let long = length-map moves (λ (a : TableArc W g). a.class) in
      let a = get_or-map (λ (a : TableArc W g). a.class) moves i d d.class (omega arith) in
      let b = get_or-map (λ (a : TableArc W g). a.class) moves j d d.class l in
      subst (λ (c : Class). AreDisjoint c (get_or moves j d).class) a
      (subst (λ (c : Class). AreDisjoint (get_or (move_classes moves) i d.class) c) b
      (apart i j d.class less (omega (arith, long))))
