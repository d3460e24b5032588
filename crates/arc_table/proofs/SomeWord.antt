-- Each run reads some word, if no class is empty.
use Rattle.std.proofs.Common.{List, [], ◌∷◌, ℕ}
use Rattle.weight_law.specs.declared.Weight.{Ghosts}
use Rattle.tier_core.specs.{declared.sym.Sym.Sym, FirstColumn.first_column}
use Rattle.tier_core.proofs.Filled.{has-first_column}
use Rattle.arc_table.specs.{declared.arc.TableArc.TableArc, declared.state.TableState.TableState}
use Rattle.arc_table.specs.{Conditions.ClassesFilled, Runs.{IsRun, Reads}}

-- a run reads a word
pub some_word : {W : Type 0} {g : Ghosts W} (states : List (TableState W g)) → ClassesFilled states
    → (s : ℕ) (arcs : List (TableArc W g)) → IsRun states s arcs → (word : List (List Sym)) × Reads arcs word
some_word states filled s [] run = ([], tt)
some_word states filled s (arc ∷ arcs) run =
    let rest = some_word states filled arc.target arcs run.1 in
    (first_column arc.class ∷ rest.0, (has-first_column arc.class (filled s arc run.0), rest.1))
