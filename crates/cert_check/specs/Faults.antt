-- What may be wrong in an answer to a problem, one relation for each kind of fault. Each says exactly
-- when the fault is in the answer. What moves, cuts and kept moves are is said in the definitions of
-- certified answers (this project).
use Rattle.std.specs.Prelude.{ℕ, ◌+◌, ◌-◌, ◌^◌, ◌≡◌, ◌≢◌, ◌<◌, ◌≤◌, ◌⊎◌, Bool, IsTrue, List, [], length, slice_index_or, slice_get, Some, None, Option, Contains}
use Rattle.std.specs.declared.cmp.Ordering.TheVariants.{Less}
use Rattle.tier_core.specs.declared.sym.Sym.{Sym}
use Rattle.tier_core.specs.declared.kind.Kind.{Kind}
use Rattle.tier_core.specs.Classes.{has}
use Rattle.tier_core.specs.Kinds.{PrefixKind, AreStretchesBelow, kind_order}
use Rattle.violation.specs.Candidates.{IsForm, IsCandidate, count_at}
use Rattle.violation.specs.Moves.{next_kind, cost_of, cut_kind, is_final}
use Rattle.violation.specs.Prefixes.{kind_of, kind_of_bits, stretches}
use Rattle.violation.specs.Problems.{Problem, last_stage, last_place}
use Rattle.answer_text.specs.declared.stage.Node.{Node}
use Rattle.answer_text.specs.declared.stage.Stage.{Stage}
use Rattle.answer_text.specs.declared.automaton.ArcLine.{ArcLine}
use Rattle.answer_text.specs.declared.automaton.StateLine.{StateLine}
use Rattle.answer_text.specs.declared.answer.Answer.{Answer}
use Rattle.answer_text.specs.Right.{nodes_at, kinds_at, IsNodeOf, numbers_of}
use Rattle.answer_text.specs.Certified.{Lists, IsKeptBelow, IsPossibleKind, start_potential}

-- The form is not well formed and reduced over the input tiers with at most 64 columns.
abbrev pub HasWrongForm : Problem → Type 0
HasWrongForm problem = IsForm problem.tiers problem.form → last_place problem ≤ 64 → ⊥

-- The number of stages is not one more than that of constraints, or it is, and the number of counts
-- and one more is not.
pub record LacksStage (problem : Problem) (answer : Answer) (listed wanted : ℕ) : Type 0 where
  pub wanted_is : wanted ≡ last_stage problem + 1
  pub differs : listed ≢ wanted
  pub listed_is : (listed ≡ length answer.stages.items) ⊎
      ((length answer.stages.items ≡ wanted) × (listed ≡ length answer.counts.items + 1))

-- The example is not a candidate of the form.
abbrev pub HasWrongExample : Problem → Answer → Type 0
HasWrongExample problem answer = IsCandidate problem answer.example → ⊥

-- The count of a constraint, from 1, is not the example's.
pub record HasWrongCount (problem : Problem) (answer : Answer) (constraint listed counted : ℕ) : Type 0 where
  pub some : 1 ≤ constraint
  pub within : constraint ≤ last_stage problem
  pub listed_is : listed ≡ slice_index_or answer.counts.items (constraint - 1) 0
  pub counted_is : counted ≡ count_at problem constraint answer.example
  pub differs : listed ≢ counted

-- a stage of the answer has this node with this number
pub record HasNode (answer : Answer) (stage n : ℕ) (node : Node) : Type 0 where
  pub within : stage < length answer.stages.items
  pub numbered : slice_get (nodes_at answer.stages.items stage) n ≡ Some node

-- A node that is in order: its place is in the form, each phase is closed exactly if some
-- left tier is not open, it comes after the node before it, and from stage 1 on its cut is in the stage
-- before.
pub record IsInOrder (problem : Problem) (stages : List Stage) (stage n : ℕ) (k : PrefixKind) : Type 0 where
  pub possible : IsPossibleKind problem stage k
  pub after : (l : PrefixKind) → 1 ≤ n → slice_get (kinds_at problem stage (nodes_at stages stage)) (n - 1) ≡ Some l
      → kind_order l k ≡ Less
  pub cut_before : 1 ≤ stage → Contains (kinds_at problem (stage - 1) (nodes_at stages (stage - 1)))
      (cut_kind problem (stage - 1) k)

-- A node is not in order.
pub record HasWrongNode (problem : Problem) (answer : Answer) (stage n : ℕ) : Type 0 where
  pub node : Node
  pub is : HasNode answer stage n node
  pub wrong : IsInOrder problem answer.stages.items stage n (kind_of_bits problem stage node.kind) → ⊥

-- Node 0 of a stage is not the kind of the empty prefix.
pub record LacksStart (problem : Problem) (answer : Answer) (stage : ℕ) : Type 0 where
  pub within : stage < length answer.stages.items
  pub lacks : slice_get (kinds_at problem stage (nodes_at answer.stages.items stage)) 0 ≢ Some
      (kind_of problem stage [])

-- A final node has a potential other than 0.
pub record HasFinalPotential (problem : Problem) (answer : Answer) (stage n listed : ℕ) : Type 0 where
  pub node : Node
  pub is : HasNode answer stage n node
  pub final : IsTrue (is_final problem (kind_of_bits problem stage node.kind))
  pub listed_is : listed ≡ node.potential
  pub differs : listed ≢ 0

-- No node of a stage tells this kind.
abbrev pub IsUnlisted : Problem → List Stage → ℕ → PrefixKind → Type 0
IsUnlisted problem stages stage k = (p : ℕ) → Lists problem stages stage k p → ⊥

-- bits tell a kind of a stage, and no further bit is set
pub record TellsKind (problem : Problem) (stage : ℕ) (kind : Kind) (k : PrefixKind) : Type 0 where
  pub tells : kind_of_bits problem stage kind ≡ k
  pub opened : kind.opened < 2 ^ length problem.tiers.free
  pub stretches : AreStretchesBelow (length (stretches problem stage)) kind

-- On a column, a move of a node is kept, and the kind to which it leads is not listed.
pub record IsNotClosed (problem : Problem) (answer : Answer) (stage n : ℕ) (column : List Sym)
    (missing : Kind) : Type 0 where
  pub node : Node
  pub is : HasNode answer stage n node
  pub kept : IsKeptBelow problem answer.stages.items stage (kind_of_bits problem stage node.kind) column
  pub leads : TellsKind problem stage missing (next_kind problem stage (kind_of_bits problem stage node.kind) column)
  pub unlisted : IsUnlisted problem answer.stages.items stage
      (next_kind problem stage (kind_of_bits problem stage node.kind) column)

-- On a column, a move of a node is kept, and the node's potential is above what the move costs and the
-- potential to which it leads.
pub record HasHighPotential (problem : Problem) (answer : Answer) (stage n : ℕ) (column : List Sym)
    (listed allowed : ℕ) : Type 0 where
  pub node : Node
  pub is : HasNode answer stage n node
  pub kept : IsKeptBelow problem answer.stages.items stage (kind_of_bits problem stage node.kind) column
  pub next : ℕ
  pub leads : Lists problem answer.stages.items stage
      (next_kind problem stage (kind_of_bits problem stage node.kind) column) next
  pub listed_is : listed ≡ node.potential
  pub allowed_is : allowed ≡ cost_of problem stage (kind_of_bits problem stage node.kind) column + next
  pub above : allowed < listed

-- The potential of node 0 of a stage is not 0 at stage 0, or not the count of the stage's constraint.
pub record HasWrongStart (answer : Answer) (stage listed count : ℕ) : Type 0 where
  pub node : Node
  pub is : HasNode answer stage 0 node
  pub listed_is : listed ≡ node.potential
  pub count_is : count ≡ start_potential answer.counts.items stage
  pub differs : listed ≢ count

-- a node number is that of a state
abbrev pub IsState : Answer → ℕ → Type 0
IsState answer n = Contains (numbers_of answer.automaton.states.items) n

-- the automaton has this state with this node number
pub record HasState (answer : Answer) (n : ℕ) (state : StateLine) : Type 0 where
  pub listed : Contains answer.automaton.states.items state
  pub numbered : state.node ≡ n

-- the kind of a node of the last stage
abbrev pub IsKindOfState : Problem → Answer → ℕ → PrefixKind → Type 0
IsKindOfState problem answer n k = IsNodeOf problem (nodes_at answer.stages.items (last_stage problem)) n k

-- An arc of a state, which is counted from 0, leads to a node that is not a state.
pub record LacksTarget (answer : Answer) (state arc target : ℕ) : Type 0 where
  pub line : StateLine
  pub is : HasState answer state line
  pub arc_line : ArcLine
  pub numbered : slice_get line.arcs.items arc ≡ Some arc_line
  pub target_is : target ≡ arc_line.target
  pub lacks : IsState answer target → ⊥

-- The mark of a state is not whether its kind is final.
pub record HasWrongMark (problem : Problem) (answer : Answer) (state : ℕ) (listed : Bool) : Type 0 where
  pub line : StateLine
  pub is : HasState answer state line
  pub kind : PrefixKind
  pub of_kind : IsKindOfState problem answer state kind
  pub listed_is : listed ≡ line.accepting
  pub differs : listed ≢ is_final problem kind

-- A column is in two arcs of a state.
pub record HasTwice (answer : Answer) (state : ℕ) (column : List Sym) : Type 0 where
  pub line : StateLine
  pub is : HasState answer state line
  pub first : ℕ
  pub second : ℕ
  pub ascending : first < second
  pub first_arc : ArcLine
  pub first_is : slice_get line.arcs.items first ≡ Some first_arc
  pub second_arc : ArcLine
  pub second_is : slice_get line.arcs.items second ≡ Some second_arc
  pub in_first : IsTrue (has first_arc.class column)
  pub in_second : IsTrue (has second_arc.class column)

-- the target that a list of arcs has on a column; none if no arc holds it
abbrev pub IsListedTarget : List ArcLine → List Sym → Option ℕ → Type 0
IsListedTarget arcs column (Some m) = (arc : ArcLine) ×
    (Contains arcs arc × IsTrue (has arc.class column) × (arc.target ≡ m))
IsListedTarget arcs column None = (arc : ArcLine) → Contains arcs arc → IsTrue (has arc.class column) → ⊥

-- the node to which the move on a column leads that is kept at the end; none if no move is kept
abbrev pub IsKeptTarget : Problem → Answer → PrefixKind → List Sym → Option ℕ → Type 0
IsKeptTarget problem answer k column (Some m) =
    IsKeptBelow problem answer.stages.items (last_stage problem + 1) k column × IsKindOfState problem answer m
    (next_kind problem (last_stage problem) k column)
IsKeptTarget problem answer k column None = IsKeptBelow problem answer.stages.items (last_stage problem + 1) k column
    → ⊥

-- On a column, the listed target of a state is not that of the move that is kept at the end.
pub record HasWrongArcs (problem : Problem) (answer : Answer) (state : ℕ) (column : List Sym)
    (listed kept : Option ℕ) : Type 0 where
  pub line : StateLine
  pub is : HasState answer state line
  pub kind : PrefixKind
  pub of_kind : IsKindOfState problem answer state kind
  pub listed_is : IsListedTarget line.arcs.items column listed
  pub kept_is : IsKeptTarget problem answer kind column kept
  pub differs : listed ≢ kept
