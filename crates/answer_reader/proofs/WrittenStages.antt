-- The lines of the stages, as they are written, are read as the stages.
use Rattle.std.proofs.Common.{◌≡◌, ℕ, ◌+◌, ◌<◌, Bool, true, false, cond, List, [], ◌∷◌, ◌++◌, length, map, codes}
use Rattle.std.proofs.Common.{Result, Ok, Err, refl, ap, sym, ◌∙◌, arith, append_assoc, append-nil}
use Rattle.std.specs.{List.Sorted.IsStrictlySortedBy, Ordering.is_lt, declared.cmp.Ordering.Ordering}
use Rattle.tier_core.specs.{declared.shape.Shape.Shape, KindShapes.{free_count, stretch_count}}
use Rattle.answer_reader.specs.declared.answer_err.AnswerCause.{AnswerCause}
use Rattle.answer_reader.specs.{declared.answer_err.AnswerCause.TheVariants.BadOrder, Lines.{stage_of, automaton_of}}
use Rattle.answer_reader.specs.{Nodes.node_of, Orders.{follows, in_order, node_less}}
use Rattle.answer_reader.specs.Stages.{behind_stages, with_nodes, last_count, is_automaton, next_node, stages_read}
use Rattle.answer_reader.specs.{Stages.stages_from, Steps.{At, go_on, and_then, line_then}}
use Rattle.answer_text.specs.Values.{NodeValue}
use Rattle.answer_reader.proofs.{Sets.begins_front, StageSteps.node_next}

-- ---- going on

-- the number of the line behind these
abbrev pub after : ℕ → List (List ℕ) → ℕ
after n [] = n
after n (line ∷ lines) = after (n + 1) lines

pub after_both : (n : ℕ) (xs ys : List (List ℕ)) → after n (xs ++ ys) ≡ after (after n xs) ys
after_both n [] ys = refl
after_both n (x ∷ xs) ys = after_both (n + 1) xs ys

pub some_behind : (xs rest : List (List ℕ)) → 0 < length rest → 0 < length (xs ++ rest)
some_behind [] rest l = l
some_behind (x ∷ xs) rest l = omega arith

pub line_on : {X Y : Type 0} (of : List ℕ → Result X AnswerCause) (more : X → ℕ → List (List ℕ) → Result Y At) (n : ℕ)
    (line : List ℕ) (rest : List (List ℕ)) (x : X)
    → of line ≡ Ok x → 0 < length rest → line_then of more n (line ∷ rest) ≡ more x (n + 1) rest
line_on of more n line [] x h l = absurd (omega arith)
line_on {X} of more n line (next ∷ rest) x h l =
    ap (λ s. and_then (λ read. more read.0 (n + 1) read.1)
    (go_on s n (λ y. let r : Result (X × List (List ℕ)) At = Ok (y, next ∷ rest) in r))) h

-- each line says its value
abbrev pub AreSaid : {X : Type 0} → (List ℕ → Result X AnswerCause) → List X → List (List ℕ) → Type 0
AreSaid of [] [] = Unit {0}
AreSaid of [] (line ∷ lines) = ⊥
AreSaid of (x ∷ xs) [] = ⊥
AreSaid of (x ∷ xs) (line ∷ lines) = (of line ≡ Ok x) × AreSaid of xs lines

-- ---- what ascends

abbrev pub Ascends : {X : Type 0} → (X → X → Bool) → List X → List X → Type 0
Ascends less done [] = Unit {0}
Ascends less done (x ∷ xs) = (follows less done x ≡ true) × Ascends less (done ++ x ∷ []) xs

follows_push : {X : Type 0} (less : X → X → Bool) (done : List X) (last x : X) → follows less (done ++ last ∷ []) x
    ≡ less last x
follows_push less [] last x = refl
follows_push less (y ∷ []) last x = refl
follows_push less (y ∷ z ∷ done) last x = follows_push less (z ∷ done) last x

module _ {X K : Type 0} (cmp : K → K → Ordering) (key : X → K) where
  abbrev is_less : X → X → Bool
  is_less a b = is_lt (cmp (key a) (key b))

  behind_last : (done : List X) (last : X) (xs : List X) → IsStrictlySortedBy cmp (map key (last ∷ xs))
      → Ascends is_less (done ++ last ∷ []) xs
  unfolding IsStrictlySortedBy
  behind_last done last [] s = tt
  behind_last done last (x ∷ xs) s =
      (follows_push is_less done last x ∙ ap is_lt s.0.0, behind_last (done ++ last ∷ []) x xs s.1)

  pub ascends : (xs : List X) → IsStrictlySortedBy cmp (map key xs) → Ascends is_less [] xs
  ascends [] s = tt
  ascends (x ∷ xs) s = (refl, behind_last [] x xs s)

pub in_its_place : {X : Type 0} (less : X → X → Bool) (done : List X) (x : X) (said : Result X AnswerCause) → said
    ≡ Ok x → follows less done x ≡ true → in_order less done said ≡ Ok x
in_its_place less done x said h f = ap (in_order less done) h ∙ ap (λ t. cond t (Ok x) (Err BadOrder)) f

-- ---- nodes

module _ (shape : Shape) (columns : ℕ) (stages : List (List NodeValue)) where
  abbrev node_here : List ℕ → Result NodeValue AnswerCause
  node_here line = node_of (free_count shape) (stretch_count shape (length stages)) columns line

  pub nodes_back : (xs done : List NodeValue) (lines : List (List ℕ)) → AreSaid node_here xs lines
      → Ascends node_less done xs → (rest : List (List ℕ)) → 0 < length rest → (n : ℕ)
      → stages_from shape columns (with_nodes stages (length xs) done) n (lines ++ rest)
      ≡ stages_from shape columns (behind_stages (stages ++ (done ++ xs) ∷ [])) (after n lines) rest
  nodes_back [] done [] said asc rest l n = ap
      (λ ys. stages_from shape columns (behind_stages (stages ++ ys ∷ [])) n rest) (sym (append-nil done))
  nodes_back [] done (line ∷ lines) said asc rest l n = absurd said
  nodes_back (x ∷ xs) done [] said asc rest l n = absurd said
  nodes_back (x ∷ xs) done (line ∷ lines) said asc rest l n = node_next shape columns stages (length xs) done n
      (line ∷ (lines ++ rest)) ∙ line_on (next_node shape columns (length stages) done)
      (λ node. stages_from shape columns (with_nodes stages (length xs) (done ++ node ∷ []))) n line (lines ++ rest) x
      (in_its_place node_less done x (node_here line) said.0 asc.0) (some_behind lines rest l) ∙ nodes_back xs _ lines
      said.1 asc.1 rest l _ ∙ ap (λ ys. stages_from shape columns (behind_stages (stages ++ ys ∷ []))
      (after (n + 1) lines) rest) (append_assoc done (x ∷ []) xs)

  no_automaton : (ss : List (List NodeValue)) (word : List ℕ) → is_automaton ss (codes "stage " ++ word) ≡ false
  no_automaton [] word = refl
  no_automaton (s ∷ ss) word = refl

  an_automaton : (ss : List (List NodeValue)) (word : List ℕ) → 0 < length ss
      → is_automaton ss (codes "automaton " ++ word) ≡ true
  an_automaton [] word l = absurd (omega arith)
  an_automaton (s ∷ ss) word l = begins_front (codes "automaton ") word

  stage_on : (word : List ℕ) (count n : ℕ) (rest : List (List ℕ))
      → stage_of (length shape.phases.items) (length stages) (codes "stage " ++ word) ≡ Ok count → 0 < length rest
      → stages_from shape columns (behind_stages stages) n ((codes "stage " ++ word) ∷ rest)
      ≡ stages_from shape columns (with_nodes stages count []) (n + 1) rest
  stage_on word count n [] h l = absurd (omega arith)
  stage_on word count n (next ∷ rest) h l = ap
      (λ t. cond t (go_on (automaton_of (last_count stages) (codes "stage " ++ word)) n
      (stages_read stages (n + 1) (next ∷ rest)))
      (go_on (stage_of (length shape.phases.items) (length stages) (codes "stage " ++ word)) n
      (λ nodes. stages_from shape columns (with_nodes stages nodes []) (n + 1) (next ∷ rest)))) (no_automaton _ word)
      ∙ ap (λ s. go_on s n (λ nodes. stages_from shape columns (with_nodes stages nodes []) (n + 1) (next ∷ rest))) h

  -- the automaton behind the stages
  pub automaton_on : (word : List ℕ) (states n : ℕ) (rest : List (List ℕ)) → 0 < length stages
      → automaton_of (last_count stages) (codes "automaton " ++ word) ≡ Ok states → 0 < length rest
      → stages_from shape columns (behind_stages stages) n ((codes "automaton " ++ word) ∷ rest)
      ≡ stages_read stages (n + 1) rest states
  automaton_on word states n [] some h l = absurd (omega arith)
  automaton_on word states n (next ∷ rest) some h l =
      ap (λ t. cond t (go_on (automaton_of (last_count stages) (codes "automaton " ++ word)) n
      (stages_read stages (n + 1) (next ∷ rest)))
      (go_on (stage_of (length shape.phases.items) (length stages) (codes "automaton " ++ word)) n
      (λ nodes. stages_from shape columns (with_nodes stages nodes []) (n + 1) (next ∷ rest))))
      (an_automaton stages word some)
      ∙ ap (λ s. go_on s n (stages_read stages (n + 1) (next ∷ rest))) h

  -- a stage
  pub whole_stage : (xs : List NodeValue) (word : List ℕ) (lines : List (List ℕ))
      → stage_of (length shape.phases.items) (length stages) (codes "stage " ++ word) ≡ Ok (length xs)
      → AreSaid node_here xs lines → Ascends node_less [] xs → (rest : List (List ℕ)) → 0 < length rest → (n : ℕ)
      → stages_from shape columns (behind_stages stages) n (((codes "stage " ++ word) ∷ lines) ++ rest)
      ≡ stages_from shape columns (behind_stages (stages ++ xs ∷ [])) (after n ((codes "stage " ++ word) ∷ lines))
      rest
  whole_stage xs word lines h said asc rest l n = stage_on word (length xs) n (lines ++ rest) h
      (some_behind _ _ l) ∙ nodes_back xs [] _ said asc _ l _
