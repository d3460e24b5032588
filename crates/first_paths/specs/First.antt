-- Tables that accept nothing.
use Rattle.std.specs.Prelude.{List}
use Rattle.weight_law.specs.declared.Weight.{Ghosts}
use Rattle.tier_core.specs.declared.sym.Sym.{Sym}
use Rattle.arc_table.specs.declared.state.TableState.{TableState}
use Rattle.arc_table.specs.Runs.{Accepts}

-- no timeline is accepted
abbrev pub AcceptsNone : {W : Type 0} {g : Ghosts W} → List (TableState W g) → Type 0
AcceptsNone states = (timeline : List (List Sym)) → Accepts states timeline → ⊥
