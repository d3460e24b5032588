-- The word of a sample, letter by letter, and the pairs of its states.
use Rattle.std.proofs.Common.{◌≡◌, ℕ, suc, ◌+◌, ◌<◌, Bool, List, [], ◌∷◌, ◌++◌, length, map, drop, get_or, ap, sym}
use Rattle.std.proofs.{Common.{◌∙◌, codes, ap₂, append_assoc, drop-cons, add-one}, lemmas.List.Concat.flat_map-cons}
use Rattle.std.specs.Fmt.{decimal}
use Rattle.answer_text.specs.{declared.answer.Answer.Answer, Text.{line, shown_text}}
use Rattle.answer_text.specs.{declared.automaton.ArcLine.ArcLine, declared.automaton.StateLine.StateLine}
use Rattle.otp_tool.specs.Samples.{sample_letter, letters_after, next_number, pairs_of, sample_text, sample_word}
use Rattle.otp_tool.specs.Samples.{targets_of, yes_or_no}

-- the next letter is put at the end of a word
pub word_next : (word new whole : List ℕ) (n m x y c : ℕ) → n ≡ suc m → y ≡ next_number x → c ≡ sample_letter y
    → new ≡ word ++ c ∷ [] → word ++ letters_after n x ≡ whole → new ++ letters_after m y ≡ whole
word_next word new whole n m x y c more next letter is all =
    ap (λ w. w ++ letters_after m y) is
    ∙ append_assoc word (c ∷ []) (letters_after m y)
    ∙ ap (λ b. word ++ b ∷ letters_after m y) letter
    ∙ ap (λ z. word ++ sample_letter z ∷ letters_after m z) next
    ∙ ap (λ k. word ++ letters_after k x) (sym more)
    ∙ all

-- ---- targets

module _ (arcs : List ArcLine) (i : ℕ) (arc : ArcLine) (within : i < length arcs) (is : arc ≡ get_or arcs i arc) where
  rest : drop i arcs ≡ arc ∷ drop (i + 1) arcs
  rest = drop-cons arcs i arc within ∙ ap (λ n. get_or arcs i arc ∷ drop n arcs) (sym (add-one i))
      ∙ ap (λ x. x ∷ drop (i + 1) arcs) (sym is)

-- ---- states

abbrev pub pairs_at : StateLine → List (ℕ × ℕ)
pairs_at state = map (λ target. (state.node, target)) (targets_of state.arcs.items)

-- the pairs of the states that are left, of which this is the first
pub pairs_next : (states : List StateLine) (i : ℕ) (state : StateLine) → i < length states
    → state ≡ get_or states i state
    → pairs_of (drop i states) ≡ pairs_at state ++ pairs_of (drop (i + 1) states)
pairs_next states i state within is =
    ap pairs_of (drop-cons states i state within ∙ ap (λ n. get_or states i state ∷ drop n states) (sym (add-one i))
    ∙ ap (λ x. x ∷ drop (i + 1) states) (sym is))
    ∙ flat_map-cons pairs_at state (drop (i + 1) states)

-- what is put at the end of a list was the first of what is left
pub put_at_end : {X : Type 0} (old new added left rest whole : List X) → new ≡ old ++ added → left ≡ added ++ rest
    → old ++ left ≡ whole → new ++ rest ≡ whole
put_at_end old new added left rest whole is cut all =
    ap (λ xs. xs ++ rest) is ∙ append_assoc old added rest ∙ ap (λ xs. old ++ xs) (sym cut) ∙ all

-- ---- the text

-- what is written by a word and a number of pairs
pub text_is : (letters : ℕ) (answer : Answer) (faultless : Bool) (word : List ℕ) (pairs : ℕ)
    → word ≡ sample_word letters
    → pairs ≡ length (pairs_of answer.automaton.states.items)
    → line (codes "form " ++ word) ++ (shown_text answer
    ++ (line (codes "states " ++ decimal (length answer.automaton.states.items))
    ++ (line (codes "pairs " ++ decimal pairs) ++ line (codes "check " ++ yes_or_no faultless))))
    ≡ sample_text letters answer faultless
text_is letters answer faultless word pairs e f =
    ap₂ (λ (w : List ℕ) (n : ℕ). line (codes "form " ++ w) ++ (shown_text answer
    ++ (line (codes "states " ++ decimal (length answer.automaton.states.items))
    ++ (line (codes "pairs " ++ decimal n) ++ line (codes "check " ++ yes_or_no faultless))))) e f
