-- A move whose class is apart from those of all later ones.
use Rattle.std.proofs.Common.{◌≡◌, ◌+◌, ◌-◌, ◌<◌, ℕ, List, take, drop, length, get_or, sym, ap, ◌∙◌, subst, arith}
use Rattle.std.proofs.{Math.Seq.take-length, lemmas.List.{get_or-drop, length-drop}}
use Rattle.std.specs.Prelude.{All}
use Rattle.weight_law.specs.declared.Weight.{Ghosts}
use Rattle.tier_core.specs.{declared.class.Class.Class, Classes.AreDisjoint}
use Rattle.arc_table.specs.declared.arc.TableArc.{TableArc}

pub apart_later : {W : Type 0} {g : Ghosts W} (arcs : List (TableArc W g)) (place : ℕ) (class : Class)
    → All (λ arc. AreDisjoint class arc.class) (take (length arcs - (place + 1)) (drop (place + 1) arcs))
    → (j : ℕ) (d : TableArc W g) → place < j → j < length arcs → AreDisjoint class (get_or arcs j d).class
apart_later {W} {g} arcs place class all j d less inside =
    let k = j - (place + 1) in
    let there : place + 1 + k ≡ j = omega arith in
    let within : k < length (drop (place + 1) arcs) = omega (arith, length-drop (place + 1) arcs) in
    let whole : take (length arcs - (place + 1)) (drop (place + 1) arcs) ≡ drop (place + 1) arcs =
    ap (λ n. take n (drop (place + 1) arcs)) (sym (length-drop (place + 1) arcs))
    ∙ take-length (drop (place + 1) arcs) in
    let R : List (TableArc W g) → Type 0 = All (λ arc. AreDisjoint class arc.class) in
    let rest : R (drop (place + 1) arcs) = subst R whole all in
    let Q : Class → Type 0 = λ y. AreDisjoint class y in
    subst Q (ap (λ x. x.class) (get_or-drop (place + 1) arcs k d ∙ ap (λ n. get_or arcs n d) there)) (rest k d within)
