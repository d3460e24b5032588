-- The lines of the answer of a single pass, one after the other.
use Rattle.std.proofs.Common.{◌≡◌, ℕ, List, [], ◌∷◌, ◌++◌, codes, take, ap, ◌∙◌}
use Rattle.answer_text.specs.declared.once_answer.OnceAnswer.{OnceAnswer}
use Rattle.answer_text.specs.OnceText.{OnceWidths, nodes_lines, once_head_lines, once_text}
use Rattle.answer_text.specs.Text.{automaton_lines, counts_line, kind_text, line, lines_text, spaced_numbers}
use Rattle.answer_text.proofs.Lines.{four_lines, four_texts}
use Rattle.tier_core.specs.{declared.kind.Kind.Kind, Kinds.prefix_kind}
use Rattle.timeline_text.specs.Texts.{text_of}

-- a kind, and the numbers at the front of a list, with the widths that they are written with
pub kind_same : (kind : Kind) {free free' stretches stretches' : ℕ} → free ≡ free' → stretches ≡ stretches'
    → kind_text (prefix_kind free stretches kind) ≡ kind_text (prefix_kind free' stretches' kind)
kind_same kind {free} {free'} {stretches} {stretches'} a b =
    ap (λ n. kind_text (prefix_kind n stretches kind)) a ∙ ap (λ n. kind_text (prefix_kind free' n kind)) b

pub numbers_same : {n n' : ℕ} {numbers numbers' : List ℕ} → n ≡ n' → numbers ≡ numbers'
    → spaced_numbers (take n numbers) ≡ spaced_numbers (take n' numbers')
numbers_same {n} {n'} {numbers} {numbers'} a b =
    ap (λ m. spaced_numbers (take m numbers)) a ∙ ap (λ ns. spaced_numbers (take n' ns)) b

pub once_head : (answer : OnceAnswer) → codes "once 1\n" ++ line (codes "form " ++ text_of answer.form)
    ++ line (counts_line answer.counts.items)
    ++ line (codes "example " ++ text_of answer.example) ≡ lines_text (once_head_lines answer)
once_head answer = four_lines (codes "once 1\n") (line (codes "form " ++ text_of answer.form))
    (line (counts_line answer.counts.items)) (line (codes "example " ++ text_of answer.example))

pub whole_once : (widths : OnceWidths) (answer : OnceAnswer)
    → lines_text (once_head_lines answer) ++ lines_text (nodes_lines widths answer.nodes.items)
    ++ lines_text (automaton_lines answer.automaton.states.items) ++ codes "end\n" ≡ once_text widths answer
whole_once widths answer = four_texts (once_head_lines answer) (nodes_lines widths answer.nodes.items)
    (automaton_lines answer.automaton.states.items) (codes "end" ∷ [])
