-- Tests of the automaton of an answer, by what is seen of it, and what each decides.
use Rattle.std.proofs.Common.{◌≡◌, ◌↔◌, ℕ, zero, suc, ◌+◌, ◌==◌, ◌<◌, IsTrue, Bool, true, false, not, ◌&&◌, List}
use Rattle.std.proofs.Common.{[], ◌∷◌, map, length, refl, sym, ap, ◌∙◌, subst, arith, All, AllPairs, Contains}
use Rattle.std.proofs.{Common.{Decides, unwrap_or, is_some}, lemmas.Bool.false≢true}
use Rattle.std.proofs.lemmas.Bool.Decides.{Decides-and, Decides-not, Decides-eqb}
use Rattle.std.specs.{Bool.beq, List.{list_all, list_any}, List.Sorted.IsStrictlySortedBy, Ordering.nat_cmp}
use Rattle.tier_core.specs.{declared.sym.Sym.Sym, Classes.{has, sets_of, sets_have, AreDisjoint}, Kinds.PrefixKind}
use Rattle.violation.specs.{Moves.{next_kind, is_final}, Problems.{Problem, last_stage}}
use Rattle.answer_text.specs.{declared.automaton.ArcLine.ArcLine, declared.automaton.StateLine.StateLine}
use Rattle.answer_text.specs.{declared.stage.Node.Node, declared.stage.Stage.Stage, Acceptance.HasArc}
use Rattle.answer_text.specs.Right.{nodes_at, numbers_of, IsNodeOf}
use Rattle.answer_text.specs.Certified.{IsKeptBelow, IsCertifiedAutomaton, AreStatesInOrder}
use Rattle.answer_text.specs.Seen.{node_seen, nodes_seen}
use Rattle.answer_text.specs.Values.{ArcValue, NodeValue, StateValue, arc_value, state_value}
use Rattle.tier_core.proofs.{Members.{contains_map, contains_of_map}, ClassLemmas.same_width}
use Rattle.answer_examples.proofs.Tests.{Decides-by, both, implied, Decides-both, Decides-implied, Decides-true}
use Rattle.answer_examples.proofs.Tests.{all_seen, each_seen, some_seen, pairs_pass, pairs_seen, ascends}
use Rattle.answer_examples.proofs.Tests.{Decides-ascends, below, Decides-below, every_column, Decides-columns}
use Rattle.answer_examples.proofs.Same.{Decides-flag, same_kind, Decides-kind}
use Rattle.answer_examples.proofs.StageTests.{Listing, is_kept, Decides-kept}

-- the node of a number has a kind
abbrev pub is_node : List NodeValue → ℕ → PrefixKind → Bool
is_node [] n k = false
is_node (x ∷ seen) zero k = same_kind x.kind k
is_node (x ∷ seen) (suc n) k = is_node seen n k

-- the node of a number passes, if there is one
abbrev pub node_passes : (PrefixKind → Bool) → List NodeValue → ℕ → Bool
node_passes test [] n = true
node_passes test (x ∷ seen) zero = test x.kind
node_passes test (x ∷ seen) (suc n) = node_passes test seen n

module _ (problem : Problem) where
  abbrev last : ℕ
  last = last_stage problem

  abbrev see : Node → NodeValue
  see = node_seen problem last

  -- the first node is the one of number 0
  same_node : (node : Node) (nodes : List Node) (k : PrefixKind) (h : IsNodeOf problem (node ∷ nodes) 0 k)
      → (see node).kind ≡ k
  same_node node nodes k h =
      let one : node ≡ h.node = ap (λ o. unwrap_or o node) h.numbered in
      ap (λ (m : Node). (see m).kind) one ∙ h.tells

  next_node : (node : Node) (nodes : List Node) (n : ℕ) (k : PrefixKind)
      → IsNodeOf problem (node ∷ nodes) (suc n) k → IsNodeOf problem nodes n k
  next_node node nodes n k h = record { node = h.node; numbered = h.numbered; tells = h.tells }

  later_node : (node : Node) (nodes : List Node) (n : ℕ) (k : PrefixKind)
      → IsNodeOf problem nodes n k → IsNodeOf problem (node ∷ nodes) (suc n) k
  later_node node nodes n k h = record { node = h.node; numbered = h.numbered; tells = h.tells }

  pub Decides-node : (nodes : List Node) (n : ℕ) (k : PrefixKind)
      → Decides (is_node (map see nodes) n k) (IsNodeOf problem nodes n k)
  Decides-node [] n k = (λ e. absurd (false≢true e), λ h. absurd (false≢true (ap is_some h.numbered)))
  Decides-node (node ∷ nodes) zero k =
      Decides-by (Decides-kind (see node).kind k)
      (λ e. record { node = node; numbered = refl; tells = e })
      (same_node node nodes k)
  Decides-node (node ∷ nodes) (suc n) k =
      Decides-by (Decides-node nodes n k)
      (later_node node nodes n k)
      (next_node node nodes n k)

  pub node_within : (nodes : List Node) (n : ℕ) (k : PrefixKind) → IsNodeOf problem nodes n k
      → n < length (map see nodes)
  node_within [] n k h = absurd (false≢true (ap is_some h.numbered))
  node_within (node ∷ nodes) zero k h = omega arith
  node_within (node ∷ nodes) (suc n) k h =
      omega (arith, node_within nodes n k (next_node node nodes n k h))

  module _ (test : PrefixKind → Bool) (P : PrefixKind → Type 0) (each : (k : PrefixKind) → Decides (test k) (P k)) where
    pub Decides-at_node : (nodes : List Node) (n : ℕ)
        → Decides (node_passes test (map see nodes) n) ((k : PrefixKind) → IsNodeOf problem nodes n k → P k)
    Decides-at_node [] n = (λ e k h. absurd (false≢true (ap is_some h.numbered)), λ h. refl)
    Decides-at_node (node ∷ nodes) zero =
        Decides-by (each (see node).kind)
        (λ p k h. subst P (same_node node nodes k h) p)
        (λ h. h (see node).kind (record { node = node; numbered = refl; tells = refl }))
    Decides-at_node (node ∷ nodes) (suc n) =
        Decides-by (Decides-at_node nodes n)
        (λ h k m. h k (next_node node nodes n k m))
        (λ h k m. h k (later_node node nodes n k m))

-- a state has this number
abbrev pub has_number : List StateValue → ℕ → Bool
has_number states n = list_any (λ z. z.node == n) states

pub Decides-number : (states : List StateLine) (n : ℕ)
    → Decides (has_number (map state_value states) n) (Contains (numbers_of states) n)
Decides-number states n =
    Decides-by (some_seen state_value (λ z. z.node == n) (λ s. s.node ≡ n) (λ s. Decides-eqb s.node n) states)
    (λ w. subst (Contains (numbers_of states)) w.1.1 (contains_map (λ (s : StateLine). s.node) states w.0 w.1.0))
    (λ c. contains_of_map (λ (s : StateLine). s.node) states n c)

-- a state has an arc to a target on a column
abbrev pub leads_on : ℕ → List Sym → ArcValue → Bool
leads_on m column a = (a.target == m) && sets_have a.sets column

abbrev pub has_arc : List StateValue → ℕ → ℕ → List Sym → Bool
has_arc states n m column = list_any (λ z. (z.node == n) && list_any (leads_on m column) z.arcs) states

pub Decides-arc : (states : List StateLine) (n m : ℕ) (column : List Sym)
    → Decides (has_arc (map state_value states) n m column) (HasArc states n m column)
Decides-arc states n m column =
    Decides-by (some_seen state_value (λ z. (z.node == n) && list_any (leads_on m column) z.arcs)
    (λ s. (s.node ≡ n) × ((a : ArcLine) × (Contains s.arcs.items a × ((a.target ≡ m) × IsTrue (has a.class column)))))
    (λ s. Decides-and (s.node == n) (list_any (leads_on m column) (map arc_value s.arcs.items)) (Decides-eqb s.node n)
    (some_seen arc_value (leads_on m column) (λ a. (a.target ≡ m) × IsTrue (has a.class column))
    (λ a. Decides-and (a.target == m) (has a.class column) (Decides-eqb a.target m)
    (Decides-true (has a.class column))) s.arcs.items)) states)
    (λ w. record {
      state = w.0;
      arc = w.1.1.1.0;
      listed = w.1.0;
      from = w.1.1.0;
      leaves = w.1.1.1.1.0;
      to = w.1.1.1.1.1.0;
      holds = w.1.1.1.1.1.1;
    })
    (λ h. (h.state, (h.listed, (h.from, (h.arc, (h.leaves, (h.to, h.holds)))))))

-- the columns of a class
abbrev pub each_column : List ℕ → (List Sym → Bool) → Bool
each_column sets test = every_column (length sets) (λ column. implied (sets_have sets column) (λ _. test column))

pub Decides-class : (sets : List ℕ) (test : List Sym → Bool) (P : List Sym → Type 0)
    → ((column : List Sym) → Decides (test column) (P column))
    → Decides (each_column sets test) ((column : List Sym) → IsTrue (sets_have sets column) → P column)
Decides-class sets test P each =
    Decides-by (Decides-columns (length sets) (λ column. implied (sets_have sets column) (λ _. test column))
    (λ column. IsTrue (sets_have sets column) → P column)
    (λ column. Decides-implied (sets_have sets column) (λ _. test column) (Decides-true (sets_have sets column))
    (each column)))
    (λ h column s. h column (same_width sets column s) s)
    (λ h column l s. h column s)

-- no column is in both
abbrev pub are_disjoint : List ℕ → List ℕ → Bool
are_disjoint c d = each_column c (λ column. not (sets_have d column))

Decides-disjoint : (c d : List ℕ)
    → Decides (are_disjoint c d)
    ((column : List Sym) → IsTrue (sets_have c column) → IsTrue (sets_have d column) → ⊥)
Decides-disjoint c d =
    Decides-class c (λ column. not (sets_have d column)) (λ column. IsTrue (sets_have d column) → ⊥)
    (λ column. Decides-not (sets_have d column) (Decides-true (sets_have d column)))

-- what is asked of an automaton
abbrev pub targets_pass : List StateValue → Bool
targets_pass states = list_all (λ z. list_all (λ a. has_number states a.target) z.arcs) states

abbrev pub finals_agree : Problem → Listing → List StateValue → Bool
finals_agree problem at states =
    list_all (λ z. node_passes (λ k. beq z.accepting (is_final problem k)) (at (last_stage problem)) z.node) states

abbrev pub arcs_differ : List StateValue → Bool
arcs_differ states = list_all (λ z. pairs_pass (λ a b. are_disjoint a.sets b.sets) z.arcs) states

-- each arc is a move that is kept at the end, and leads to the node of its target
abbrev pub is_arc_kept : Problem → Listing → PrefixKind → ArcValue → Bool
is_arc_kept problem at k a =
    each_column a.sets (λ column. both (is_kept problem at (last_stage problem + 1) k column)
    (λ _. is_node (at (last_stage problem)) a.target (next_kind problem (last_stage problem) k column)))

abbrev pub arcs_kept : Problem → Listing → List StateValue → Bool
arcs_kept problem at states =
    list_all (λ z. node_passes (λ k. list_all (is_arc_kept problem at k) z.arcs) (at (last_stage problem)) z.node)
    states

-- and each such move has an arc
abbrev pub arc_to : Problem → Listing → List StateValue → ℕ → PrefixKind → List Sym → ℕ → Bool
arc_to problem at states n k column m =
    implied (is_node (at (last_stage problem)) m (next_kind problem (last_stage problem) k column))
    (λ _. has_arc states n m column)

abbrev pub has_move : Problem → Listing → List StateValue → ℕ → PrefixKind → List Sym → Bool
has_move problem at states n k column =
    implied (is_kept problem at (last_stage problem + 1) k column)
    (λ _. below (length (at (last_stage problem))) (arc_to problem at states n k column))

abbrev pub moves_have_arcs : Problem → Listing → List StateValue → Bool
moves_have_arcs problem at states =
    list_all (λ z. node_passes (λ k. every_column problem.tiers.width (has_move problem at states z.node k))
    (at (last_stage problem)) z.node) states

abbrev pub automaton_passes : Problem → Listing → List StateValue → Bool
automaton_passes problem at states =
    has_number states 0 && (targets_pass states && (finals_agree problem at states && (arcs_differ states
    && (arcs_kept problem at states && moves_have_arcs problem at states))))

-- what is known of the states of every answer that is read
abbrev pub states_ascend : ℕ → List StateValue → Bool
states_ascend width states =
    ascends nat_cmp (map (λ z. z.node) states)
    && list_all (λ z. list_all (λ a. length a.sets == width) z.arcs) states

module _ (problem : Problem) (stages : List Stage) (states : List StateLine) where
  abbrev end : ℕ
  end = last_stage problem

  abbrev nodes : List Node
  nodes = nodes_at stages end

  abbrev at : Listing
  at = nodes_seen problem stages

  abbrev seen : List StateValue
  seen = map state_value states

  Decides-targets : Decides (targets_pass seen)
      (All (λ state. All (λ arc. Contains (numbers_of states) arc.target) state.arcs.items) states)
  Decides-targets =
      all_seen state_value (λ z. list_all (λ a. has_number seen a.target) z.arcs)
      (λ state. All (λ arc. Contains (numbers_of states) arc.target) state.arcs.items)
      (λ state. all_seen arc_value (λ a. has_number seen a.target) (λ arc. Contains (numbers_of states) arc.target)
      (λ arc. Decides-number states arc.target) state.arcs.items) states

  Decides-finals : Decides (finals_agree problem at seen)
      ((state : StateLine) (k : PrefixKind) → Contains states state → IsNodeOf problem nodes state.node k
      → state.accepting ≡ is_final problem k)
  Decides-finals =
      Decides-by (each_seen state_value (λ z. node_passes (λ k. beq z.accepting (is_final problem k)) (at end) z.node)
      (λ state. (k : PrefixKind) → IsNodeOf problem nodes state.node k → state.accepting ≡ is_final problem k)
      (λ state. Decides-at_node problem (λ k. beq state.accepting (is_final problem k))
      (λ k. state.accepting ≡ is_final problem k) (λ k. Decides-flag state.accepting (is_final problem k))
      nodes state.node) states)
      (λ h state k c node. h state c k node)
      (λ h state c k node. h state k c node)

  Decides-differ : Decides (arcs_differ seen)
      (All (λ state. AllPairs (λ a b. AreDisjoint a.class b.class) state.arcs.items) states)
  Decides-differ =
      all_seen state_value (λ z. pairs_pass (λ a b. are_disjoint a.sets b.sets) z.arcs)
      (λ state. AllPairs (λ a b. AreDisjoint a.class b.class) state.arcs.items)
      (λ state. pairs_seen arc_value (λ a b. are_disjoint a.sets b.sets) (λ a b. AreDisjoint a.class b.class)
      (λ a b. Decides-disjoint (sets_of a.class) (sets_of b.class)) state.arcs.items) states

  abbrev IsKept : PrefixKind → List Sym → Type 0
  IsKept k column = IsKeptBelow problem stages (end + 1) k column

  abbrev Reaches : ℕ → PrefixKind → List Sym → Type 0
  Reaches m k column = IsNodeOf problem nodes m (next_kind problem end k column)

  abbrev AreKept : Type 0
  AreKept = (state : StateLine) → Contains states state → (k : PrefixKind) → IsNodeOf problem nodes state.node k
      → (a : ArcLine) → Contains state.arcs.items a → (column : List Sym) → IsTrue (has a.class column)
      → IsKept k column × Reaches a.target k column

  Decides-arcs_kept : Decides (arcs_kept problem at seen) AreKept
  Decides-arcs_kept =
      each_seen state_value (λ z. node_passes (λ k. list_all (is_arc_kept problem at k) z.arcs) (at end) z.node)
      (λ state. (k : PrefixKind) → IsNodeOf problem nodes state.node k → (a : ArcLine) → Contains state.arcs.items a
      → (column : List Sym) → IsTrue (has a.class column) → IsKept k column × Reaches a.target k column)
      (λ state. Decides-at_node problem (λ k. list_all (is_arc_kept problem at k) (map arc_value state.arcs.items))
      (λ k. (a : ArcLine) → Contains state.arcs.items a
      → (column : List Sym) → IsTrue (has a.class column) → IsKept k column × Reaches a.target k column)
      (λ k. each_seen arc_value (is_arc_kept problem at k)
      (λ a. (column : List Sym) → IsTrue (has a.class column) → IsKept k column × Reaches a.target k column)
      (λ a. one_arc k a) state.arcs.items) nodes state.node) states
    where
      one_arc : (k : PrefixKind) (a : ArcLine) → Decides (is_arc_kept problem at k (arc_value a))
          ((column : List Sym) → IsTrue (has a.class column) → IsKept k column × Reaches a.target k column)
      one_arc k a =
          Decides-class (sets_of a.class)
          (λ column. both (is_kept problem at (end + 1) k column)
          (λ _. is_node (at end) a.target (next_kind problem end k column)))
          (λ column. IsKept k column × Reaches a.target k column)
          (λ column. Decides-both (is_kept problem at (end + 1) k column)
          (λ _. is_node (at end) a.target (next_kind problem end k column))
          (Decides-kept problem stages (end + 1) k column)
          (Decides-node problem nodes a.target (next_kind problem end k column)))

  abbrev HasMove : ℕ → PrefixKind → List Sym → Type 0
  HasMove n k column = IsKept k column → (m : ℕ) → m < length (at end) → Reaches m k column
      → HasArc states n m column

  Decides-move : (n : ℕ) (k : PrefixKind) (column : List Sym)
      → Decides (has_move problem at seen n k column) (HasMove n k column)
  Decides-move n k column =
      Decides-implied (is_kept problem at (end + 1) k column)
      (λ _. below (length (at end)) (arc_to problem at seen n k column))
      (Decides-kept problem stages (end + 1) k column)
      (Decides-below (arc_to problem at seen n k column) (λ m. Reaches m k column → HasArc states n m column)
      (λ m. Decides-implied (is_node (at end) m (next_kind problem end k column)) (λ _. has_arc seen n m column)
      (Decides-node problem nodes m (next_kind problem end k column)) (Decides-arc states n m column))
      (length (at end)))

  abbrev HaveArcs : Type 0
  HaveArcs = (state : StateLine) → Contains states state → (k : PrefixKind) → IsNodeOf problem nodes state.node k
      → (column : List Sym) → length column ≡ problem.tiers.width → HasMove state.node k column

  Decides-have_arcs : Decides (moves_have_arcs problem at seen) HaveArcs
  Decides-have_arcs =
      each_seen state_value
      (λ z. node_passes (λ k. every_column problem.tiers.width (has_move problem at seen z.node k))
      (at end) z.node)
      (λ state. (k : PrefixKind) → IsNodeOf problem nodes state.node k
      → (column : List Sym) → length column ≡ problem.tiers.width → HasMove state.node k column)
      (λ state. Decides-at_node problem
      (λ k. every_column problem.tiers.width (has_move problem at seen state.node k))
      (λ k. (column : List Sym) → length column ≡ problem.tiers.width → HasMove state.node k column)
      (λ k. Decides-columns problem.tiers.width (has_move problem at seen state.node k)
      (λ column. HasMove state.node k column) (λ column. Decides-move state.node k column))
      nodes state.node) states

  -- arcs are just the moves that are kept
  abbrev AreMoves : Type 0
  AreMoves = (n m : ℕ) (k : PrefixKind) (column : List Sym) → Contains (numbers_of states) n
      → IsNodeOf problem nodes n k → HasArc states n m column ↔ (IsKept k column × Reaches m k column)

  to_moves : AreKept × HaveArcs → AreMoves
  to_moves h n m k column c node = (
    λ arc.
        let from : IsNodeOf problem nodes arc.state.node k =
        subst (λ i. IsNodeOf problem nodes i k) (sym arc.from) node in
        let kept = h.0 arc.state arc.listed k from arc.arc arc.leaves column arc.holds in
        (kept.0, subst (λ i. Reaches i k column) arc.to kept.1),
    λ move.
        let z = contains_of_map (λ (s : StateLine). s.node) states n c in
        let from : IsNodeOf problem nodes z.0.node k =
        subst (λ i. IsNodeOf problem nodes i k) (sym z.1.1) node in
        subst (λ i. HasArc states i m column) z.1.1
        (h.1 z.0 z.1.0 k from column move.0.fits.width move.0 m
        (node_within problem nodes m (next_kind problem end k column) move.1) move.1),
  )

  from_moves : AreMoves → AreKept × HaveArcs
  from_moves h = (
    λ state c k node a l column s.
        (h state.node a.target k column (contains_map (λ (s : StateLine). s.node) states state c) node).0
        (record { state = state; arc = a; listed = c; from = refl; leaves = l; to = refl; holds = s }),
    λ state c k node column w kept m l reaches.
        (h state.node m k column (contains_map (λ (s : StateLine). s.node) states state c) node).1 (kept, reaches),
  )

  pub Decides-automaton : Decides (automaton_passes problem at seen) (IsCertifiedAutomaton problem stages states)
  Decides-automaton =
      let arcs : Bool = arcs_kept problem at seen && moves_have_arcs problem at seen in
      Decides-by (Decides-and (has_number seen 0)
      (targets_pass seen && (finals_agree problem at seen && (arcs_differ seen && arcs)))
      (Decides-number states 0)
      (Decides-and (targets_pass seen) (finals_agree problem at seen && (arcs_differ seen && arcs)) Decides-targets
      (Decides-and (finals_agree problem at seen) (arcs_differ seen && arcs) Decides-finals
      (Decides-and (arcs_differ seen) arcs Decides-differ
      (Decides-and (arcs_kept problem at seen) (moves_have_arcs problem at seen) Decides-arcs_kept
      Decides-have_arcs)))))
      (λ h. record {
        start = h.0;
        targets = h.1.0;
        finals = h.1.1.0;
        once = h.1.1.1.0;
        arcs = to_moves h.1.1.1.1;
      })
      (λ a. (a.start, (a.targets, (a.finals, (a.once, from_moves a.arcs)))))

node_numbers : (states : List StateLine) → numbers_of states ≡ map (λ z. z.node) (map state_value states)
node_numbers [] = refl
node_numbers (z ∷ states) = ap (λ ns. z.node ∷ ns) (node_numbers states)

pub Decides-in_order : (width : ℕ) (states : List StateLine)
    → Decides (states_ascend width (map state_value states)) (AreStatesInOrder width states)
Decides-in_order width states =
    Decides-by (Decides-and (ascends nat_cmp (map (λ z. z.node) (map state_value states)))
    (list_all (λ z. list_all (λ a. length a.sets == width) z.arcs) (map state_value states))
    (Decides-ascends nat_cmp (map (λ z. z.node) (map state_value states)))
    (all_seen state_value (λ z. list_all (λ a. length a.sets == width) z.arcs)
    (λ state. All (λ arc. length (sets_of arc.class) ≡ width) state.arcs.items)
    (λ state. all_seen arc_value (λ a. length a.sets == width) (λ arc. length (sets_of arc.class) ≡ width)
    (λ arc. Decides-eqb (length (sets_of arc.class)) width) state.arcs.items) states))
    (λ h. record { ascending = subst (IsStrictlySortedBy nat_cmp) (sym (node_numbers states)) h.0; one_width = h.1 })
    (λ o. (subst (IsStrictlySortedBy nat_cmp) (node_numbers states) o.ascending, o.one_width))
