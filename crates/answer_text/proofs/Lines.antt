-- Lines of lists, and their texts.
use Rattle.std.proofs.Common.{◌≡◌, ℕ, ◌+◌, ◌<◌, List, [], ◌∷◌, ◌++◌, map, codes, length, drop, get_or, refl, ap}
use Rattle.std.proofs.{Common.{sym, ◌∙◌, append_assoc, append-nil}, lemmas.List.Concat.flat_map-append}
use Rattle.std.proofs.{lemmas.List.Folds.flat_map-map, lemmas.List.at_drop_more}
use Rattle.std.specs.List.{flat_map}
use Rattle.answer_text.specs.{declared.answer.Answer.Answer, declared.stage.Stage.Stage, Text.{Widths, line}}
use Rattle.answer_text.specs.Text.{lines_text, counts_line, head_lines, stage_lines, stages_lines, automaton_lines}
use Rattle.answer_text.specs.Text.{answer_text, counts_text, shown_text}
use Rattle.timeline_text.specs.Texts.{text_of}

-- a line for each element
pub lines_of_map : {X : Type 0} (f : X → List ℕ) (xs : List X) → lines_text (map f xs) ≡ flat_map (λ x. line (f x)) xs
lines_of_map f xs = flat_map-map line f xs

-- some lines for each element
pub lines_of_each : {X : Type 0} (f : X → List (List ℕ)) (xs : List X)
    → lines_text (flat_map f xs) ≡ flat_map (λ x. lines_text (f x)) xs
lines_of_each f [] = refl
lines_of_each f (x ∷ xs) = flat_map-append line (f x) (flat_map f xs)
    ∙ ap (λ t. lines_text (f x) ++ t) (lines_of_each f xs)

-- four lines, the last of which ends the text
pub four_lines : (a b c d : List ℕ) → a ++ b ++ c ++ d ≡ a ++ (b ++ (c ++ (d ++ [])))
four_lines a b c d = append_assoc (a ++ b) c d ∙ append_assoc a b (c ++ d)
    ∙ ap (λ t. a ++ (b ++ (c ++ t))) (sym (append-nil d))

pub head_text : (answer : Answer) → codes "answer 1\n" ++ line (codes "form " ++ text_of answer.form)
    ++ line (counts_line answer.counts.items)
    ++ line (codes "example " ++ text_of answer.example) ≡ lines_text (head_lines answer)
head_text answer = four_lines (codes "answer 1\n") (line (codes "form " ++ text_of answer.form))
    (line (counts_line answer.counts.items)) (line (codes "example " ++ text_of answer.example))

-- the line of the counts alone, and with the example
pub counts_text_is : (counts : List ℕ) → line (counts_line counts) ≡ counts_text counts
counts_text_is counts = sym (append-nil (line (counts_line counts)))

pub shown_text_is : (answer : Answer) → line (counts_line answer.counts.items)
    ++ line (codes "example " ++ text_of answer.example) ≡ shown_text answer
shown_text_is answer = ap (λ t. line (counts_line answer.counts.items) ++ t)
    (sym (append-nil (line (codes "example " ++ text_of answer.example))))

-- the texts of lists of lines, one after the other
pub four_texts : (a b c d : List (List ℕ)) → lines_text a ++ lines_text b ++ lines_text c
    ++ lines_text d ≡ lines_text (a ++ b ++ c ++ d)
four_texts a b c d =
    ap (λ t. t ++ lines_text c ++ lines_text d) (sym (flat_map-append line a b))
    ∙ ap (λ t. t ++ lines_text d) (sym (flat_map-append line (a ++ b) c))
    ∙ sym (flat_map-append line (a ++ b ++ c) d)

pub whole_text : (widths : Widths) (answer : Answer)
    → lines_text (head_lines answer) ++ lines_text (stages_lines widths 0 answer.stages.items)
    ++ lines_text (automaton_lines answer.automaton.states.items) ++ codes "end\n" ≡ answer_text widths answer
whole_text widths answer = four_texts (head_lines answer) (stages_lines widths 0 answer.stages.items)
    (automaton_lines answer.automaton.states.items) (codes "end" ∷ [])

-- the stage of this number and those after it
pub stages_next : (widths : Widths) (i : ℕ) (stages : List Stage) (stage : Stage) → i < length stages
    → stage ≡ get_or stages i stage
    → lines_text (stages_lines widths i (drop i stages))
    ≡ lines_text (stage_lines widths.free (get_or widths.stretches i 0) i stage.nodes.items)
    ++ lines_text (stages_lines widths (i + 1) (drop (i + 1) stages))
stages_next widths i stages stage h is =
    at_drop_more (λ ss. lines_text (stages_lines widths i ss)) stages i stage h
    ∙ ap (λ s. lines_text (stages_lines widths i (s ∷ drop (i + 1) stages))) (sym is)
    ∙ flat_map-append line (stage_lines widths.free (get_or widths.stretches i 0) i stage.nodes.items)
    (stages_lines widths (i + 1) (drop (i + 1) stages))
