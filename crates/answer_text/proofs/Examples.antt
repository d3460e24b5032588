-- Lines, shapes, and what an automaton of two states accepts, as tests say them.
use Rattle.std.proofs.Common.{◌⊎◌, inl, inr, ⊎_elim, zero, suc, ◌≡◌, ℕ, ◌+◌, ◌<◌, ◌≤◌, true, false, List, [], ◌∷◌}
use Rattle.std.proofs.{Common.{get_or, refl, ap, sym, ◌∙◌, subst, arith}, lemmas.Bool.false≢true}
use Rattle.std.specs.{List.Contains, Prelude.{codes, ◌++◌}}
use Rattle.tier_core.specs.{declared.sym.Sym.Sym, declared.sym.Sym.TheVariants.{Outside, Start, End}}
use Rattle.tier_core.specs.{Classes.{sets_have, sets_of}, Kinds.{PrefixKind, prefix_kind}, Shapes.NeverFalls}
use Rattle.answer_text.specs.{declared.automaton.ArcLine.ArcLine, declared.automaton.StateLine.StateLine}
use Rattle.answer_text.specs.{declared.stage.Node.Node, Text.{after_space, kind_text, node_line}}
use Rattle.answer_text.specs.Acceptance.{HasArc, IsFinalState, Accepts}

-- a line of a node by what the node tells
pub node_line_is : (free stretches : ℕ) (node : Node) (k : PrefixKind) (potential : ℕ)
    → prefix_kind free stretches node.kind ≡ k → node.potential ≡ potential
    → node_line free stretches node ≡ codes "node " ++ kind_text k ++ after_space potential
node_line_is free stretches node k potential e p =
    ap (λ x. codes "node " ++ kind_text x ++ after_space node.potential) e
    ∙ ap (λ n. codes "node " ++ kind_text k ++ after_space n) p

-- The start is final, and opens a constituent of the second tier. The other state ends it, or ends it
-- and starts the next.
pub record IsTwoStates (states : List StateLine) (start inside : StateLine)
    (opens closes turns : ArcLine) : Type 0 where
  pub listed : states ≡ start ∷ inside ∷ []
  pub start_node : start.node ≡ 0
  pub start_final : start.accepting ≡ true
  pub start_arcs : start.arcs.items ≡ opens ∷ []
  pub inside_node : inside.node ≡ 1
  pub inside_final : inside.accepting ≡ false
  pub inside_arcs : inside.arcs.items ≡ closes ∷ turns ∷ []
  pub opens_to : opens.target ≡ 1
  pub opens_on : sets_of opens.class ≡ 1 ∷ 4 ∷ []
  pub closes_to : closes.target ≡ 0
  pub closes_on : sets_of closes.class ≡ 1 ∷ 8 ∷ []
  pub turns_to : turns.target ≡ 1
  pub turns_on : sets_of turns.class ≡ 1 ∷ 16 ∷ []

first_of : {X : Type 0} (xs ys : List X) (x : X) → xs ≡ x ∷ ys → Contains xs x
first_of xs ys x e = subst (λ l. Contains l x) (sym e) (0, omega arith, refl)

second_of : {X : Type 0} (xs : List X) (y x : X) → xs ≡ y ∷ x ∷ [] → Contains xs x
second_of xs y x e = subst (λ l. Contains l x) (sym e) (1, omega arith, refl)

at_one : {X : Type 0} (k : ℕ) (y x : X) → k < 1 → get_or (y ∷ []) k x ≡ x → y ≡ x
at_one zero y x l e = e
at_one (suc k) y x l e = absurd (omega arith)

only_one : {X : Type 0} (xs : List X) (y x : X) → xs ≡ y ∷ [] → Contains xs x → y ≡ x
only_one xs y x e h = let p : Contains (y ∷ []) x = subst (λ l. Contains l x) e h in at_one p.0 y x p.1 p.2

at_two : {X : Type 0} (k : ℕ) (y z x : X) → k < 2 → get_or (y ∷ z ∷ []) k x ≡ x → (y ≡ x) ⊎ (z ≡ x)
at_two zero y z x l e = inl e
at_two (suc zero) y z x l e = inr e
at_two (suc (suc k)) y z x l e = absurd (omega arith)

one_of_two : {X : Type 0} (xs : List X) (y z x : X) → xs ≡ y ∷ z ∷ [] → Contains xs x → (y ≡ x) ⊎ (z ≡ x)
one_of_two xs y z x e h = let p : Contains (y ∷ z ∷ []) x = subst (λ l. Contains l x) e h in at_two p.0 y z x p.1 p.2

-- the state with each number
zero_is : {states : List StateLine} {start inside : StateLine} {opens closes turns : ArcLine}
    (t : IsTwoStates states start inside opens closes turns) (state : StateLine) → Contains states state
    → state.node ≡ 0 → start ≡ state
zero_is {states} {start} {inside} t state h e = ⊎_elim (λ a. a)
    (λ b. let n : 1 ≡ 0 = sym t.inside_node ∙ ap (λ x. x.node) b ∙ e in absurd (omega arith))
    (one_of_two states start inside state t.listed h)

one_is : {states : List StateLine} {start inside : StateLine} {opens closes turns : ArcLine}
    (t : IsTwoStates states start inside opens closes turns) (state : StateLine) → Contains states state
    → state.node ≡ 1 → inside ≡ state
one_is {states} {start} {inside} t state h e = ⊎_elim
    (λ a. let n : 0 ≡ 1 = sym t.start_node ∙ ap (λ x. x.node) a ∙ e in absurd (omega arith)) (λ b. b)
    (one_of_two states start inside state t.listed h)

pub empty_is_accepted : {states : List StateLine} {start inside : StateLine} {opens closes turns : ArcLine}
    → IsTwoStates states start inside opens closes turns → Accepts states []
empty_is_accepted {states} {start} {inside} t = record {
  last = 0;
  leads = refl;
  final = record {
    state = start;
    listed = first_of states (inside ∷ []) start t.listed;
    numbered = t.start_node;
    final = t.start_final;
  };
}

opening : {states : List StateLine} {start inside : StateLine} {opens closes turns : ArcLine}
    → IsTwoStates states start inside opens closes turns → HasArc states 0 1 (Outside ∷ Start ∷ [])
opening {states} {start} {inside} {opens} t = record {
  state = start;
  arc = opens;
  listed = first_of states (inside ∷ []) start t.listed;
  from = t.start_node;
  leaves = first_of start.arcs.items [] opens t.start_arcs;
  to = t.opens_to;
  holds = ap (λ sets. sets_have sets (Outside ∷ Start ∷ [])) t.opens_on;
}

closing : {states : List StateLine} {start inside : StateLine} {opens closes turns : ArcLine}
    → IsTwoStates states start inside opens closes turns → HasArc states 1 0 (Outside ∷ End ∷ [])
closing {states} {start} {inside} {opens} {closes} {turns} t = record {
  state = inside;
  arc = closes;
  listed = second_of states start inside t.listed;
  from = t.inside_node;
  leaves = first_of inside.arcs.items (turns ∷ []) closes t.inside_arcs;
  to = t.closes_to;
  holds = ap (λ sets. sets_have sets (Outside ∷ End ∷ [])) t.closes_on;
}

pub constituent_is_accepted : {states : List StateLine} {start inside : StateLine} {opens closes turns : ArcLine}
    → IsTwoStates states start inside opens closes turns
    → Accepts states ((Outside ∷ Start ∷ []) ∷ (Outside ∷ End ∷ []) ∷ [])
constituent_is_accepted {states} {start} {inside} t = record {
  last = 0;
  leads = (1, (opening t, (0, (closing t, refl))));
  final = record {
    state = start;
    listed = first_of states (inside ∷ []) start t.listed;
    numbered = t.start_node;
    final = t.start_final;
  };
}

-- from the start there is no way but to the other state
only_inside : {states : List StateLine} {start inside : StateLine} {opens closes turns : ArcLine}
    (t : IsTwoStates states start inside opens closes turns) (next : ℕ) (column : List Sym)
    → HasArc states 0 next column → next ≡ 1
only_inside {states} {start} {inside} {opens} t next column a =
    let here : start ≡ a.state = zero_is t a.state a.listed a.from in
    let arc : opens ≡ a.arc = only_one start.arcs.items opens a.arc t.start_arcs
    (subst (λ s. Contains s.arcs.items a.arc) (sym here) a.leaves) in
    sym a.to ∙ ap (λ x. x.target) (sym arc) ∙ t.opens_to

-- the other state is not final
not_at_inside : {states : List StateLine} {start inside : StateLine} {opens closes turns : ArcLine}
    (t : IsTwoStates states start inside opens closes turns) → IsFinalState states 1 → ⊥
not_at_inside {states} {start} {inside} t f =
    let here : inside ≡ f.state = one_is t f.state f.listed f.numbered in
    false≢true (sym t.inside_final ∙ ap (λ x. x.accepting) here ∙ f.final)

pub start_alone_is_refused : {states : List StateLine} {start inside : StateLine} {opens closes turns : ArcLine}
    → IsTwoStates states start inside opens closes turns → Accepts states ((Outside ∷ Start ∷ []) ∷ []) → ⊥
start_alone_is_refused {states} t a =
    let last : a.last ≡ 1 = sym a.leads.1.1 ∙ only_inside t a.leads.0 (Outside ∷ Start ∷ []) a.leads.1.0 in
    not_at_inside t (subst (IsFinalState states) last a.final)

-- numbers of stretch implications
rises : (r : ℕ) → r + 1 < 4 → get_or (0 ∷ 0 ∷ 1 ∷ 2 ∷ []) r 0 ≤ get_or (0 ∷ 0 ∷ 1 ∷ 2 ∷ []) (r + 1) 0
rises zero h = omega arith
rises (suc zero) h = omega arith
rises (suc (suc zero)) h = omega arith
rises (suc (suc (suc r))) h = absurd (omega arith)

most : (r : ℕ) → r < 4 → get_or (0 ∷ 0 ∷ 1 ∷ 2 ∷ []) r 0 ≤ 24
most zero h = omega arith
most (suc zero) h = omega arith
most (suc (suc zero)) h = omega arith
most (suc (suc (suc zero))) h = omega arith
most (suc (suc (suc (suc r)))) h = absurd (omega arith)

pub four_never_fall : NeverFalls (0 ∷ 0 ∷ 1 ∷ 2 ∷ [])
four_never_fall = record { begins = refl; rises = rises; most = most }

most_of_one : (r : ℕ) → r < 1 → get_or (0 ∷ []) r 0 ≤ 24
most_of_one zero h = omega arith
most_of_one (suc r) h = absurd (omega arith)

pub one_never_falls : NeverFalls (0 ∷ [])
one_never_falls = record { begins = refl; rises = λ r h. absurd (omega arith); most = most_of_one }
