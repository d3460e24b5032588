-- The lines of the states and their arcs, as they are written, are read as the states.
use Rattle.std.proofs.Common.{◌≡◌, ℕ, suc, ◌+◌, ◌<◌, ◌≤◌, Bool, true, false, cond, nat_lt, List, [], ◌∷◌, ◌++◌}
use Rattle.std.proofs.Common.{length, map, codes, Result, Ok, refl, ap, sym, ◌∙◌, subst, arith, append_assoc}
use Rattle.std.proofs.{Common.append-nil, lemmas.Simd.map-map, lemmas.Bool.Decides.nat_tests}
use Rattle.std.specs.{Fmt.decimal, List.{AllByRecursion, flat_map}, List.Sorted.IsStrictlySortedBy}
use Rattle.std.specs.{Ordering.{nat_cmp, ordering_then, is_lt}, Cmp.Lexicographic.slice_cmp}
use Rattle.std.specs.{declared.cmp.Ordering.Ordering, declared.cmp.Ordering.TheVariants.Less}
use Rattle.tier_core.specs.Classes.{sets_of}
use Rattle.answer_text.specs.{declared.automaton.ArcLine.ArcLine, declared.automaton.StateLine.StateLine}
use Rattle.answer_text.specs.{Right.{arc_cmp, numbers_of}, Text.{arc_line, final_mark, state_lines, class_text}}
use Rattle.answer_text.specs.Values.{ArcValue, StateValue, arc_value, state_value}
use Rattle.answer_reader.specs.{Cuts.begins, LineWords.{bare_state, with_arcs}, Lines.{state_of, arc_of}}
use Rattle.answer_reader.specs.Orders.{follows, arc_less, state_less}
use Rattle.answer_reader.specs.States.{behind_states, in_state, next_state, next_arc, state_or_end, states_from}
use Rattle.answer_reader.specs.Steps.{At, go_on}
use Rattle.answer_reader.proofs.{Sets.begins_front, StateLoops.{follows_node, told_less}, StateSteps.state_next}
use Rattle.answer_reader.proofs.WrittenLines.{AreFull, arc_back, state_back}
use Rattle.answer_reader.proofs.WrittenStages.{after, Ascends, ascends, in_its_place, line_on, some_behind}

-- ---- arcs

abbrev pub arc_order : ArcValue → ArcValue → Ordering
arc_order a b = ordering_then (nat_cmp a.target b.target) (slice_cmp nat_cmp a.sets b.sets)

-- arcs that are right for so many nodes, to be read again
pub record IsArcBack (width nodes : ℕ) (arc : ArcLine) : Type 0 where
  pub there : arc.target < nodes
  pub wide : length (sets_of arc.class) ≡ width
  pub full : AreFull (sets_of arc.class)

-- the end of the text
abbrev pub the_end : List (List ℕ)
the_end = codes "end" ∷ [] ∷ []

-- the lines of states, and the end
abbrev pub lines_from : List StateLine → List (List ℕ)
lines_from states = flat_map state_lines states ++ the_end

module _ (width nodes : ℕ) (few : nodes ≤ 65536) where
  arc_said : (arc : ArcLine) → IsArcBack width nodes arc → arc_of width nodes (arc_line arc) ≡ Ok (arc_value arc)
  arc_said arc is =
      ap (λ w. arc_of width nodes (codes "arc " ++ w))
      (append_assoc (decimal arc.target) (32 ∷ []) (class_text (sets_of arc.class)))
      ∙ arc_back arc.target nodes (sets_of arc.class) is.there (omega (arith, is.there)) is.full width is.wide

  begins_arc : (arc : ArcLine) → begins (codes "arc ") (arc_line arc) ≡ true
  begins_arc arc = begins_front (codes "arc ") (decimal arc.target ++ codes " " ++ class_text (sets_of arc.class))

  module _ (more : ℕ) (states : List StateValue) (st : ℕ × Bool) where
    abbrev from_here : List ArcValue → ℕ → List (List ℕ) → Result (List StateValue) At
    from_here arcs = states_from width nodes (in_state more states (with_arcs st arcs))

    arc_on : (done : List ArcValue) (x : ArcValue) (line : List ℕ) (rest : List (List ℕ)) (n : ℕ)
        → begins (codes "arc ") line ≡ true → arc_of width nodes line ≡ Ok x → follows arc_less done x ≡ true
        → 0 < length rest → from_here done n (line ∷ rest) ≡ from_here (done ++ x ∷ []) (n + 1) rest
    arc_on done x line [] n b h f l = absurd (omega arith)
    arc_on done x line (next ∷ rest) n b h f l = ap
        (λ t. cond t (go_on (next_arc width nodes done line) n (λ arc. from_here (done ++ arc ∷ []) (n + 1)
        (next ∷ rest))) (state_or_end nodes more (states ++ with_arcs st done ∷ []) n line (next ∷ rest)
        (λ place. states_from width nodes place (n + 1) (next ∷ rest)))) b ∙ ap
        (λ s. go_on s n (λ arc. from_here (done ++ arc ∷ []) (n + 1) (next ∷ rest))) (in_its_place arc_less done x _ h
        f)

    pub arcs_back : (arcs : List ArcLine) (done : List ArcValue) → AllByRecursion (IsArcBack width nodes) arcs
        → Ascends arc_less done (map arc_value arcs) → (rest : List (List ℕ)) → 0 < length rest → (n : ℕ)
        → from_here done n (map arc_line arcs ++ rest)
        ≡ from_here (done ++ map arc_value arcs) (after n (map arc_line arcs)) rest
    arcs_back [] done are asc rest l n = ap (λ xs. from_here xs n rest) (sym (append-nil done))
    arcs_back (arc ∷ arcs) done are asc rest l n =
        arc_on done (arc_value arc) (arc_line arc) (map arc_line arcs ++ rest) n (begins_arc arc) (arc_said arc are.0)
        asc.0 (some_behind (map arc_line arcs) rest l)
        ∙ arcs_back arcs (done ++ arc_value arc ∷ []) are.1 asc.1 rest l (n + 1)
        ∙ ap (λ xs. from_here xs (after (n + 1) (map arc_line arcs)) rest)
        (append_assoc done (arc_value arc ∷ []) (map arc_value arcs))

    -- behind the arcs
    pub arcs_off : (arcs : List ArcValue) (line : List ℕ) (tail : List (List ℕ)) (n : ℕ) → begins (codes "arc ") line
        ≡ false → 0 < length tail
        → from_here arcs n (line ∷ tail)
        ≡ states_from width nodes (behind_states more (states ++ with_arcs st arcs ∷ [])) n (line ∷ tail)
    arcs_off arcs line [] n b l = absurd (omega arith)
    arcs_off arcs line (next ∷ tail) n b l =
        ap (λ t. cond t (go_on (next_arc width nodes arcs line) n
        (λ arc. from_here (arcs ++ arc ∷ []) (n + 1) (next ∷ tail)))
        (state_or_end nodes more (states ++ with_arcs st arcs ∷ []) n line (next ∷ tail)
        (λ place. states_from width nodes place (n + 1) (next ∷ tail)))) b

  -- ---- states

  -- a state that is right for so many nodes, to be read again
  pub record IsStateBack (state : StateLine) : Type 0 where
    pub there : state.node < nodes
    pub arcs : AllByRecursion (IsArcBack width nodes) state.arcs.items
    pub ascending : Ascends arc_less [] (map arc_value state.arcs.items)

  some_lines : (states : List StateLine) → 0 < length (lines_from states)
  some_lines states = some_behind (flat_map state_lines states) the_end (omega arith)

  -- behind the arcs of a state no arc comes
  no_arc : (more : ℕ) (done : List StateValue) (st : ℕ × Bool) (arcs : List ArcValue) (states : List StateLine) (n : ℕ)
      → from_here more done st arcs n (lines_from states)
      ≡ states_from width nodes (behind_states more (done ++ with_arcs st arcs ∷ [])) n (lines_from states)
  no_arc more done st arcs [] n = arcs_off more done st arcs (codes "end") ([] ∷ []) n refl (omega arith)
  no_arc more done st arcs (state ∷ states) n = arcs_off _ _ st _ _ _ n refl
      (some_behind (map arc_line state.arcs.items ++ flat_map state_lines states) the_end (omega arith))

  pub states_back : (states : List StateLine) (done : List StateValue) → AllByRecursion IsStateBack states
      → Ascends state_less done (map state_value states) → (n : ℕ)
      → states_from width nodes (behind_states (length states) done) n (lines_from states)
      ≡ Ok (done ++ map state_value states)
  states_back [] done are asc n = ap (λ (xs : List StateValue). let r : Result (List StateValue) At = Ok xs in r)
      (sym (append-nil done))
  states_back (state ∷ states) done are asc n =
      let said = in_its_place state_less done (bare_state (state.node, state.accepting))
      (state_of nodes (codes "state " ++ (decimal state.node ++ final_mark state.accepting)))
      (state_back state.node nodes are.0.there (let l = are.0.there in omega arith) state.accepting)
      (follows_node done (bare_state (state.node, state.accepting)) (state_value state) refl ∙ asc.0) in
      let lines = append_assoc (map arc_line state.arcs.items) (flat_map state_lines states) the_end in
      state_next width nodes (length states) done n
      ((codes "state " ++ (decimal state.node ++ final_mark state.accepting)) ∷ ((map arc_line state.arcs.items
      ++ flat_map state_lines states) ++ the_end))
      ∙ line_on (next_state nodes done) (λ s. states_from width nodes (in_state (length states) done s)) n
      (codes "state " ++ (decimal state.node ++ final_mark state.accepting))
      ((map arc_line state.arcs.items ++ flat_map state_lines states) ++ the_end)
      (bare_state (state.node, state.accepting)) said
      (some_behind (map arc_line state.arcs.items ++ flat_map state_lines states) the_end (omega arith))
      ∙ ap (from_here (length states) done (state.node, state.accepting) [] (n + 1)) lines
      ∙ arcs_back (length states) done (state.node, state.accepting) state.arcs.items [] are.0.arcs are.0.ascending
      (lines_from states) (some_lines states) (n + 1)
      ∙ no_arc (length states) done (state.node, state.accepting) (map arc_value state.arcs.items) states
      (after (n + 1) (map arc_line state.arcs.items))
      ∙ states_back states (done ++ state_value state ∷ []) are.1 asc.1 (after (n + 1) (map arc_line state.arcs.items))
      ∙ ap (λ (xs : List StateValue). let r : Result (List StateValue) At = Ok xs in r)
      (append_assoc done (state_value state ∷ []) (map state_value states))

-- ---- orders

pub sorted_map : {X Y : Type 0} (cmp : Y → Y → Ordering) (f : X → Y) (xs : List X)
    → IsStrictlySortedBy (λ a b. cmp (f a) (f b)) xs → IsStrictlySortedBy cmp (map f xs)
unfolding IsStrictlySortedBy
sorted_map {X = X} cmp f [] s = tt
sorted_map {X = X} cmp f (x ∷ xs) s = (each xs s.0, sorted_map cmp f xs s.1)
  where
    each : (ys : List X) → AllByRecursion (λ y. cmp (f x) (f y) ≡ Less) ys
        → AllByRecursion (λ y. cmp (f x) y ≡ Less) (map f ys)
    each [] a = tt
    each (y ∷ ys) a = (a.0, each ys a.1)

pub arcs_ascend : (arcs : List ArcLine) → IsStrictlySortedBy arc_cmp arcs → Ascends arc_less [] (map arc_value arcs)
arcs_ascend arcs s = ascends arc_order (λ (a : ArcValue). a) (map arc_value arcs)
    (sorted_map _ _ _ (sorted_map _ _ _ s))

less_told : (m n : ℕ) → is_lt (nat_cmp m n) ≡ nat_lt m n
less_told m n = grind (arith, nat_tests)

follows_same : {X : Type 0} (less other : X → X → Bool) → ((a b : X) → less a b ≡ other a b) → (done : List X) (x : X)
    → follows less done x ≡ follows other done x
follows_same less other e [] x = refl
follows_same less other e (y ∷ []) x = e y x
follows_same less other e (y ∷ z ∷ done) x = follows_same less other e (z ∷ done) x

ascends_same : {X : Type 0} (less other : X → X → Bool) → ((a b : X) → less a b ≡ other a b) → (done xs : List X)
    → Ascends less done xs → Ascends other done xs
ascends_same less other e done [] a = tt
ascends_same less other e done (x ∷ xs) a =
    (sym (follows_same less other e done x) ∙ a.0, ascends_same less other e _ xs a.1)

pub states_ascend : (states : List StateLine) → IsStrictlySortedBy nat_cmp (numbers_of states)
    → Ascends state_less [] (map state_value states)
states_ascend states s = ascends_same _ _ (λ a b. less_told _ _) [] _
    (ascends _ _ _ (subst (IsStrictlySortedBy nat_cmp) (sym (map-map (λ (v : StateValue). v.node) state_value states))
    s))

-- ---- no more states than nodes

above : (a m : ℕ) (ns : List ℕ) → a ≤ m → AllByRecursion (λ n. nat_cmp m n ≡ Less) ns
    → AllByRecursion (λ n. suc a ≤ n) ns
above a m [] l h = tt
above a m (n ∷ ns) l h = (let k = told_less m n h.0 in omega arith, above a m ns l h.1)

pub few_below : (a b : ℕ) (ns : List ℕ) → IsStrictlySortedBy nat_cmp ns → a ≤ b → AllByRecursion (λ n. a ≤ n) ns
    → AllByRecursion (λ n. n < b) ns → a + length ns ≤ b
unfolding IsStrictlySortedBy
few_below a b [] s l h k = omega arith
few_below a b (n ∷ ns) s l h k =
    let one = h.0 in
    let two = k.0 in
    let rest = few_below _ b ns s.1 (omega arith) (above a n ns one s.0) k.1 in
    omega arith
