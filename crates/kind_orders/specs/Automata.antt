-- The automaton of a table, where each state has a node number.
use Rattle.std.specs.Prelude.{ℕ, ◌≡◌, ◌<◌, ◌↔◌, List, length, slice_index, Contains, All}
use Rattle.weight_law.specs.declared.Weight.{Ghosts}
use Rattle.tier_core.specs.declared.sym.Sym.{Sym}
use Rattle.tier_core.specs.Classes.{sets_of}
use Rattle.arc_table.specs.declared.arc.TableArc.{TableArc}
use Rattle.arc_table.specs.declared.state.TableState.{TableState}
use Rattle.arc_table.specs.Moves.{moves_at}
use Rattle.arc_table.specs.Runs.{IsPath, Reads, Accepts as IsAccepted}
use Rattle.answer_text.specs.declared.automaton.StateLine.{StateLine}
use Rattle.answer_text.specs.Acceptance.{Leads, Accepts}
use Rattle.answer_text.specs.Right.{numbers_of, AreRightArcs}
use Rattle.kind_orders.specs.AutomatonLines.{AreLinesOf}

-- all classes have this many tiers
abbrev pub HasWidth : {W : Type 0} {g : Ghosts W} → ℕ → List (TableState W g) → Type 0
HasWidth {W} {g} width kept = (s : ℕ) (arc : TableArc W g) → Contains (moves_at kept s) arc
    → length (sets_of arc.class) ≡ width

-- reading the columns leads from the start of the table to the state
abbrev pub ReadsTo : {W : Type 0} {g : Ghosts W} → List (TableState W g) → List (List Sym) → ℕ → Type 0
ReadsTo {W} {g} kept T s = (arcs : List (TableArc W g)) × IsPath kept 0 arcs s × Reads arcs T

-- The automaton of a table whose states have these node numbers: its states ascend by their
-- numbers, which are those of the table's states, and its arcs are right. If the start has number
-- 0, it accepts what the table accepts, and reading columns leads to the number of the state that
-- the table reaches.
pub record IsAutomatonOf {W : Type 0} {g : Ghosts W} (kept : List (TableState W g)) (nodes : List ℕ)
    (states : List StateLine) : Type 0 where
  pub lines : AreLinesOf kept nodes states
  pub numbers : (n : ℕ) → Contains (numbers_of states) n ↔ Contains nodes n
  pub accepts : slice_index nodes 0 ≡ 0 → (T : List (List Sym)) → Accepts states T ↔ IsAccepted kept T
  pub leads : slice_index nodes 0 ≡ 0 → (T : List (List Sym)) (s : ℕ) → ReadsTo kept T s
      → Leads states 0 T (slice_index nodes s)
  pub reached : slice_index nodes 0 ≡ 0 → (T : List (List Sym)) (m : ℕ) → Leads states 0 T m
      → (s : ℕ) × (s < length kept) × (slice_index nodes s ≡ m) × ReadsTo kept T s
  pub arcs : (width : ℕ) → HasWidth width kept
      → All (λ state. AreRightArcs width (numbers_of states) state.arcs.items) states
