-- States that a table over one tier can have.
use Rattle.std.specs.Prelude.{◌≡◌, ℕ, ◌*◌, ◌<◌, ◌≤◌, ◌&&◌, Bool, List, All, AllPairs, IsTrue, length}
use Rattle.weight_law.specs.declared.Weight.{Ghosts}
use Rattle.tier_core.specs.declared.sym.Sym.{Sym}
use Rattle.tier_core.specs.Sets.{is_in}
use Rattle.tier_core.specs.Classes.{sets_of, AreDisjoint}
use Rattle.arc_table.specs.declared.arc.TableArc.{TableArc}
use Rattle.arc_table.specs.declared.state.TableState.{TableState}
use Rattle.tier_core.specs.Filled.{is_filled}

abbrev pub in_both : ℕ → ℕ → Sym → Bool
in_both a b s = is_in a s && is_in b s

-- a move that leads to one of n states, has some column, and whose weight is small enough
abbrev pub IsFit : {W : Type 0} {g : Ghosts W} → ℕ → TableArc W g → Type 0
IsFit {W} {g} n arc =
    (arc.target < n) × (n * g.meaning.size arc.weight ≤ 4294967295) × (length (sets_of arc.class) ≡ 1) × IsTrue
    (is_filled arc.class)

abbrev pub AreFit : {W : Type 0} {g : Ghosts W} → List (TableState W g) → Type 0
AreFit states =
    All (λ state. All (IsFit (length states)) state.arcs.items × AllPairs
    (λ a b. AreDisjoint a.class b.class) state.arcs.items) states
