-- The lines of the states and their arcs, one by one.
use Rattle.std.proofs.Common.{◌≡◌, ℕ, suc, ◌+◌, ◌<◌, true, false, cond, List, [], ◌∷◌, ◌++◌, length, codes, Result}
use Rattle.std.proofs.{Common.{Err, refl, ap, sym, ◌∙◌, arith}, lemmas.List.Splits.join_with_byte-slice_split}
use Rattle.std.specs.List.{join_with_byte}
use Rattle.answer_reader.specs.{declared.answer_err.AnswerCause.TheVariants.ExtraBytes, Cuts.begins, Lines.end_line}
use Rattle.answer_reader.specs.States.{behind_states, in_state, with_arc, next_state, next_arc, at_end}
use Rattle.answer_reader.specs.{States.{state_or_end, states_from}, Steps.{At, at, go_on, line_then}}
use Rattle.timeline_text.specs.Bytes.{lines_of}
use Rattle.answer_text.specs.Values.{StateValue}
use Rattle.answer_reader.proofs.{Cutting.begins_line, Going.go_on_then}

-- a state that is to come
pub state_next : (width nodes more : ℕ) (states : List StateValue) (n : ℕ) (lines : List (List ℕ))
    → states_from width nodes (behind_states (suc more) states) n lines
    ≡ line_then (next_state nodes states) (λ state. states_from width nodes (in_state more states state)) n lines
state_next width nodes more states n [] = refl
state_next width nodes more states n (left ∷ []) = refl
state_next width nodes more states n (line ∷ next ∷ lines) =
    go_on_then (next_state nodes states line) n (next ∷ lines)
    (λ state ls. states_from width nodes (in_state more states state) (n + 1) ls)

-- the end behind the last state
pub end_next : (width nodes : ℕ) (states : List StateValue) (n : ℕ) (lines : List (List ℕ))
    → states_from width nodes (behind_states 0 states) n lines ≡ line_then end_line (λ done. at_end states) n lines
end_next width nodes states n [] = refl
end_next width nodes states n (left ∷ []) = refl
end_next width nodes states n (line ∷ next ∷ lines) = go_on_then (end_line line) n (next ∷ lines)
    (λ done ls. at_end states (n + 1) ls)

-- bytes behind the end
pub more_left : (bytes : List ℕ) → 0 < length bytes → (states : List StateValue) (n : ℕ)
    → at_end states n (lines_of bytes) ≡ Err (at n ExtraBytes)
more_left bytes l states n = by (lines_of bytes) refl
  where
    by : (lines : List (List ℕ)) → lines_of bytes ≡ lines → at_end states n lines ≡ Err (at n ExtraBytes)
    by [] e = refl
    by ([] ∷ []) e = let none : bytes ≡ [] = sym (join_with_byte-slice_split 10 bytes)
        ∙ ap (join_with_byte 10) e in let size = ap length none in absurd (omega arith)
    by ([] ∷ next ∷ lines) e = refl
    by ((b ∷ line) ∷ lines) e = refl

module _ (width nodes more : ℕ) (states : List StateValue) (state : StateValue) (n : ℕ) (bytes : List ℕ) where
  -- behind the arcs of the state
  abbrev behind_arcs : List ℕ → List (List ℕ) → Result (List StateValue) At
  behind_arcs line lines = state_or_end nodes more (states ++ state ∷ []) n line lines
      (λ place. states_from width nodes place (n + 1) lines)

  abbrev at_arc : List ℕ → List (List ℕ) → Result (List StateValue) At
  at_arc line lines = go_on (next_arc width nodes state.arcs line) n
      (λ arc. states_from width nodes (in_state more states (with_arc state arc)) (n + 1) lines)

  arc_at : (lines : List (List ℕ)) → lines_of bytes ≡ lines → begins (codes "arc ") bytes ≡ true
      → states_from width nodes (in_state more states state) n lines
      ≡ line_then (next_arc width nodes state.arcs)
      (λ arc. states_from width nodes (in_state more states (with_arc state arc))) n lines
  arc_at [] e h = refl
  arc_at (left ∷ []) e h = refl
  arc_at (line ∷ next ∷ lines) e h =
      ap (λ t. cond t (at_arc line (next ∷ lines)) (behind_arcs line (next ∷ lines)))
      (sym (begins_line (codes "arc ") bytes line next lines refl e) ∙ h)
      ∙ go_on_then (next_arc width nodes state.arcs line) n (next ∷ lines)
      (λ arc ls. states_from width nodes (in_state more states (with_arc state arc)) (n + 1) ls)

  -- an arc that comes next
  pub arc_next : begins (codes "arc ") bytes ≡ true
      → states_from width nodes (in_state more states state) n (lines_of bytes)
      ≡ line_then (next_arc width nodes state.arcs)
      (λ arc. states_from width nodes (in_state more states (with_arc state arc))) n (lines_of bytes)
  arc_next h = arc_at _ refl h

  other_at : (lines : List (List ℕ)) → lines_of bytes ≡ lines → begins (codes "arc ") bytes ≡ false
      → states_from width nodes (in_state more states state) n lines
      ≡ states_from width nodes (behind_states more (states ++ state ∷ [])) n lines
  other_at [] e h = refl
  other_at (left ∷ []) e h = refl
  other_at (line ∷ next ∷ lines) e h =
      ap (λ t. cond t (at_arc line (next ∷ lines)) (behind_arcs line (next ∷ lines)))
      (sym (begins_line (codes "arc ") bytes line next lines refl e) ∙ h)

  -- no arc comes next
  pub arcs_end : begins (codes "arc ") bytes ≡ false
      → states_from width nodes (in_state more states state) n (lines_of bytes)
      ≡ states_from width nodes (behind_states more (states ++ state ∷ [])) n (lines_of bytes)
  arcs_end h = other_at _ refl h
