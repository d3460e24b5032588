-- What is known of an answer when its stages are looked at.
use Rattle.std.specs.Prelude.{ℕ, ◌<◌, List, [], slice_index_or}
use Rattle.std.specs.List.Sorted.{IsStrictlySortedBy}
use Rattle.tier_core.specs.Kinds.{PrefixKind, kind_order}
use Rattle.violation.specs.Prefixes.{kind_of}
use Rattle.violation.specs.Problems.{Problem}
use Rattle.answer_text.specs.declared.stage.Node.{Node}
use Rattle.answer_text.specs.Readable.{IsReadable}
use Rattle.answer_text.specs.Right.{nodes_at, kinds_at}
use Rattle.grammar_reader.specs.ShapeOf.{IsShapeOf}
use Rattle.cert_check.specs.declared.subject.Subject.{Subject}
use Rattle.cert_check.specs.Faults.{IsInOrder}
use Rattle.cert_check.specs.FirstFaults.{asked_by}
use Rattle.cert_check.specs.Heads.{HasRightForm, HasRightNumbers}

-- what the grammar is asked by the answer's form
abbrev pub problem_of : Subject → Problem
problem_of s = asked_by s.grammar.now s.answer.now

-- the nodes of a stage, and the kinds that they tell
abbrev pub stage_nodes : Subject → ℕ → List Node
stage_nodes s stage = nodes_at s.answer.now.stages.items stage

abbrev pub stage_kinds : Subject → ℕ → List PrefixKind
stage_kinds s stage = kinds_at (problem_of s) stage (stage_nodes s stage)

-- The shape is that of the grammar, the answer is readable, and its form and its numbers of stages and
-- counts are right.
pub record IsReady (s : Subject) : Type 0 where
  pub of_grammar : IsShapeOf s.grammar.now s.shape.now
  pub readable : IsReadable s.shape.now s.answer.now
  pub form : HasRightForm (problem_of s)
  pub numbers : HasRightNumbers (problem_of s) s.answer.now

-- the kinds of a stage ascend
abbrev pub AscendsAt : Subject → ℕ → Type 0
AscendsAt s stage = IsStrictlySortedBy kind_order (stage_kinds s stage)

-- the kind that a node of a stage tells, by its number
abbrev pub node_kind : Subject → ℕ → ℕ → PrefixKind
node_kind s stage n = slice_index_or (stage_kinds s stage) n (kind_of (problem_of s) stage [])

-- the first nodes of a stage are in order
abbrev pub AreFirstNodesInOrder : Subject → ℕ → ℕ → Type 0
AreFirstNodesInOrder s stage count = (n : ℕ) → n < count
    → IsInOrder (problem_of s) s.answer.now.stages.items stage n (node_kind s stage n)
