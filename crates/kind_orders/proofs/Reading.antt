-- The lines of a table read what the table reads.
use Rattle.std.proofs.Common.{◌≡◌, ◌≢◌, ℕ, ◌<◌, true, false, List, [], ◌∷◌, map, length, get_or, refl, ap, sym, ◌∙◌}
use Rattle.std.proofs.Common.{subst, arith, ⊎_elim, inl, inr, All, AllPairs, Contains, IsTrue}
use Rattle.std.proofs.lemmas.Bool.{false≢true, cases_lt, cases_order}
use Rattle.std.proofs.lemmas.List.{get_or_default, get_or_past, length-map}
use Rattle.std.proofs.lemmas.List.Elements.{All-contains, Contains-get_or}
use Rattle.tier_core.specs.{declared.sym.Sym.Sym, Classes.{sets_of, has}}
use Rattle.tier_core.proofs.{ClassLemmas.same_width, Members.{contains_map, contains_of_map, All-from_members}}
use Rattle.weight_law.specs.declared.Weight.{Ghosts}
use Rattle.arc_table.specs.{declared.arc.TableArc.TableArc, declared.state.TableState.TableState}
use Rattle.arc_table.specs.{Conditions.{TargetsExist, ClassesDisjoint}, Moves.{moves_at, accepting_at}}
use Rattle.arc_table.specs.Runs.{IsRun, IsPath, Reads, Accepts as IsAccepted}
use Rattle.arc_table.proofs.Push.{moves_exist}
use Rattle.answer_text.specs.{declared.automaton.ArcLine.ArcLine, declared.automaton.StateLine.StateLine}
use Rattle.answer_text.specs.{Acceptance.{IsFinalState, Leads, Accepts}, Right.{numbers_of, AreRightArcs}}
use Rattle.kind_orders.specs.{AutomatonLines.{IsLineOf, AreLinesOf}, JoinedArcs.{AreJoined, HaveJoinedArcs}}
use Rattle.kind_orders.specs.Automata.{HasWidth, ReadsTo, IsAutomatonOf}
use Rattle.kind_orders.proofs.ArcOrder.{arcs_apart, arcs_filled, move_from, arc_from}

module _ {W : Type 0} {g : Ghosts W} (kept : List (TableState W g)) where
  -- a state that accepts is there
  accepting_exists : (s : ℕ) → accepting_at kept s ≡ true → s < length kept
  accepting_exists s h =
      ⊎_elim (λ l. l)
      (λ past. absurd
      (false≢true (sym (get_or_past (map (λ (state : TableState W g). state.accepting) kept) s false
      (omega (arith, length-map kept (λ (state : TableState W g). state.accepting)))) ∙ h)))
      (cases_lt s (length kept))

  -- a run is a path to a state that accepts
  run_path : (s : ℕ) (arcs : List (TableArc W g)) → IsRun kept s arcs
      → (t : ℕ) × (IsPath kept s arcs t × (accepting_at kept t ≡ true))
  run_path s [] run = (s, (refl, run))
  run_path s (arc ∷ arcs) run = let rest = run_path arc.target arcs run.1 in (rest.0, ((run.0, rest.1.0), rest.1.1))

  path_run : (s t : ℕ) (arcs : List (TableArc W g)) → IsPath kept s arcs t → accepting_at kept t ≡ true
      → IsRun kept s arcs
  path_run s t [] path h = ap (accepting_at kept) path ∙ h
  path_run s t (arc ∷ arcs) path h = (path.0, path_run arc.target t arcs path.1 h)

module _ {W : Type 0} {g : Ghosts W} (kept : List (TableState W g)) (exist : TargetsExist kept) (nodes : List ℕ)
    (count : length nodes ≡ length kept) (once : AllPairs (λ a b. a ≢ b) nodes)
    (lines : List StateLine) (are : AreLinesOf kept nodes lines) where
  abbrev node : ℕ → ℕ
  node s = get_or nodes s 0

  -- states of one node number are one
  same_state : (s t : ℕ) → s < length kept → t < length kept → node s ≡ node t → s ≡ t
  same_state s t ls lt e = elim (cases_order s t) [
    | inl same ↦ same
    | inr other ↦ elim other [
      | inl less ↦ absurd (once s t 0 less (omega arith) e)
      | inr more ↦ absurd (once t s 0 more (omega arith) (sym e))
    ]
  ]

  -- the line that has the node number of a state is that of the state
  line_is : (line : StateLine) (s : ℕ) → Contains lines line → s < length kept → line.node ≡ node s
      → IsLineOf kept nodes s line
  line_is line s c l e = let h = are.each line c in subst (λ t. IsLineOf kept nodes t line)
      (same_state h.0 s h.1 l (sym h.2.node ∙ e)) h.2

  path_leads : (s t : ℕ) (T : List (List Sym)) (arcs : List (TableArc W g)) → IsPath kept s arcs t → Reads arcs T
      → Leads lines (node s) T (node t)
  path_leads s t [] [] path reads = ap node path
  path_leads s t (column ∷ T) [] path reads = absurd reads
  path_leads s t [] (arc ∷ arcs) path reads = absurd reads
  path_leads s t (column ∷ T) (arc ∷ arcs) path reads =
      let l = are.every s (moves_exist kept s arc path.0) in
      let leaves = arc_from nodes (moves_at kept s) l.0.arcs.items l.2.arcs arc column path.0 reads.0 in (
        node arc.target,
        (
          record {
            state = l.0;
            arc = leaves.0;
            listed = l.1;
            from = l.2.node;
            leaves = leaves.1.0;
            to = leaves.1.1.0;
            holds = leaves.1.1.1;
          },
          path_leads arc.target t T arcs path.1 reads.1,
        ),
      )

  leads_path : (s m : ℕ) (T : List (List Sym)) → s < length kept → Leads lines (node s) T m
      → (t : ℕ) × ((t < length kept) × ((node t ≡ m) ×
      ((arcs : List (TableArc W g)) × (IsPath kept s arcs t × Reads arcs T))))
  leads_path s m [] l leads = (s, (l, (leads, ([], (refl, tt)))))
  leads_path s m (column ∷ T) l leads =
      let a = leads.1.0 in
      let is = line_is a.state s a.listed l a.from in
      let b = move_from nodes (moves_at kept s) a.state.arcs.items is.arcs a.arc column a.leaves a.holds in
      let target : leads.0 ≡ node b.0.target = sym a.to ∙ sym b.1.1.0 in
      let rest = leads_path b.0.target m T (exist s b.0 b.1.0) (subst (λ n. Leads lines n T m) target leads.1.1) in
      (rest.0, (rest.1.0, (rest.1.1.0, (b.0 ∷ rest.1.1.1.0, ((b.1.0, rest.1.1.1.1.0), (b.1.1.1, rest.1.1.1.1.1))))))

  -- a final line is that of a state that accepts
  final_from : (t : ℕ) → accepting_at kept t ≡ true → IsFinalState lines (node t)
  final_from t h =
      let l = are.every t (accepting_exists kept t h) in
      record { state = l.0; listed = l.1; numbered = l.2.node; final = l.2.final ∙ h }

  from_final : (t : ℕ) → t < length kept → IsFinalState lines (node t) → accepting_at kept t ≡ true
  from_final t l f = sym (line_is f.state t f.listed l f.numbered).final ∙ f.final

  -- ---- where the start has node number 0

  module _ (zeroth : node 0 ≡ 0) (some : 0 < length kept) where
    pub table_leads : (T : List (List Sym)) (s : ℕ) → ReadsTo kept T s → Leads lines 0 T (node s)
    table_leads T s r = subst (λ n. Leads lines n T (node s)) zeroth (path_leads 0 s T r.0 r.1 r.2)

    pub lines_reach : (T : List (List Sym)) (m : ℕ) → Leads lines 0 T m
        → (s : ℕ) × (s < length kept) × (node s ≡ m) × ReadsTo kept T s
    lines_reach T m leads =
        let h = leads_path 0 m T some (subst (λ n. Leads lines n T m) (sym zeroth) leads) in
        (h.0, h.1.0, h.1.1.0, (h.1.1.1.0, h.1.1.1.1.0, h.1.1.1.1.1))

    pub table_accepts : (T : List (List Sym)) → IsAccepted kept T → Accepts lines T
    table_accepts T a =
        let p = run_path kept 0 a.0 a.1.run in
        record { last = node p.0; leads = table_leads T p.0 (a.0, p.1.0, a.1.reads); final = final_from p.0 p.1.1 }

    pub lines_accept : (T : List (List Sym)) → Accepts lines T → IsAccepted kept T
    lines_accept T a =
        let h = lines_reach T a.last a.leads in
        let accepting = from_final h.0 h.1 (subst (IsFinalState lines) (sym h.2) a.final) in
        (h.3.0, record { run = path_run kept 0 h.0 h.3.0 h.3.1 accepting; reads = h.3.2 })

  -- ---- node numbers and arcs

  number_has : (s : ℕ) → s < length kept → Contains (numbers_of lines) (node s)
  number_has s l =
      let h = are.every s l in
      subst (Contains (numbers_of lines)) h.2.node (contains_map (λ (line : StateLine). line.node) lines h.0 h.1)

  pub numbers_from : (n : ℕ) → Contains (numbers_of lines) n → Contains nodes n
  numbers_from n c =
      let r = contains_of_map (λ (line : StateLine). line.node) lines n c in
      let h = are.each r.0 r.1.0 in
      let inside : h.0 < length nodes = omega (arith, h.1) in
      subst (Contains nodes) (sym h.2.node ∙ r.1.1) (Contains-get_or nodes h.0 0 inside)

  pub numbers_to : (n : ℕ) → Contains nodes n → Contains (numbers_of lines) n
  numbers_to n c =
      let inside : c.0 < length kept = omega (arith, c.1) in
      subst (Contains (numbers_of lines)) (get_or_default nodes c.0 0 n c.1 ∙ c.2) (number_has c.0 inside)

  -- each arc goes where a move of the same width goes
  arc_move : (s : ℕ) (line : StateLine) → IsLineOf kept nodes s line → (arc : ArcLine)
      → Contains line.arcs.items arc
      → (move : TableArc W g) × (Contains (moves_at kept s) move
      × ((node move.target ≡ arc.target) × (length (sets_of move.class) ≡ length (sets_of arc.class))))
  arc_move s line is arc c =
      let arcs = line.arcs.items in
      let have = All-contains (λ (a : ArcLine). (column : List Sym) × IsTrue (has a.class column)) arcs arc
      (arcs_filled nodes (moves_at kept s) arcs is.arcs) c in
      let m = move_from nodes (moves_at kept s) arcs is.arcs arc have.0 c have.1 in (
        m.0,
        (
          m.1.0,
          (
            m.1.1.0,
            sym (same_width (sets_of m.0.class) have.0 m.1.1.1) ∙ same_width (sets_of arc.class) have.0 have.1,
          ),
        ),
      )

  pub right_arcs : ClassesDisjoint kept → (width : ℕ) → HasWidth width kept
      → All (λ (state : StateLine). AreRightArcs width (numbers_of lines) state.arcs.items) lines
  right_arcs disjoint width wide = All-from_members
      (λ (state : StateLine). AreRightArcs width (numbers_of lines) state.arcs.items) lines (λ line c.
      let h = are.each line c in
      let moves = moves_at kept h.0 in
      let arcs = line.arcs.items in
      record {
        apart = arcs_apart nodes moves arcs h.2.arcs (disjoint h.0);
        filled = arcs_filled nodes moves arcs h.2.arcs;
        one_width = All-from_members (λ (arc : ArcLine). length (sets_of arc.class) ≡ width) arcs
            (λ arc m. let a = arc_move h.0 line h.2 arc m in sym a.1.1.1 ∙ wide h.0 a.0 a.1.0);
        targets = All-from_members (λ (arc : ArcLine). Contains (numbers_of lines) arc.target) arcs
            (λ arc m. let a = arc_move h.0 line h.2 arc m in subst (Contains (numbers_of lines)) a.1.1.0
            (number_has a.0.target (exist h.0 a.0 a.1.0)));
        in_order = h.2.in_order;
      })

  -- and they are joined
  pub joined_arcs : HaveJoinedArcs lines
  joined_arcs = All-from_members (λ (state : StateLine). AreJoined state.arcs.items) lines
      (λ line c. (are.each line c).2.arcs.joined)

  pub automaton_is : 0 < length kept → ClassesDisjoint kept → IsAutomatonOf kept nodes lines
  automaton_is some disjoint = record {
    lines = are;
    numbers = λ n. (numbers_from n, numbers_to n);
    accepts = λ zeroth T. (lines_accept zeroth some T, table_accepts zeroth some T);
    leads = λ zeroth T s r. table_leads zeroth some T s r;
    reached = λ zeroth T m l. lines_reach zeroth some T m l;
    arcs = λ width wide. right_arcs disjoint width wide;
  }
