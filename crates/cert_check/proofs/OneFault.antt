-- Two faults that come first are one.
use Rattle.std.proofs.Common.{◌≡◌, ℕ, zero, suc, ◌+◌, ◌<◌, ◌⊎◌, Bool, IsTrue, List, [], ◌∷◌, length, get_or}
use Rattle.std.proofs.Common.{slice_get, Some, None, Option, refl, sym, ap, ap₂, ◌∙◌, subst, arith, inl, inr}
use Rattle.std.proofs.lemmas.Bool.{cases_eq, cases_order}
use Rattle.std.specs.List.Sorted.{IsStrictlySortedBy}
use Rattle.tier_core.specs.{declared.sym.Sym.Sym, declared.kind.Kind.Kind, Classes.has}
use Rattle.tier_core.specs.{Kinds.{PrefixKind, kind_order}, Symbols.rank}
use Rattle.tier_core.proofs.SetLemmas.{rank_same}
use Rattle.violation.specs.{Moves.{next_kind, cost_of}, Prefixes.kind_of_bits, Problems.{Problem, last_stage}}
use Rattle.answer_text.specs.{declared.stage.Node.Node, declared.automaton.ArcLine.ArcLine}
use Rattle.answer_text.specs.{declared.automaton.StateLine.StateLine, declared.answer.Answer.Answer}
use Rattle.answer_text.specs.{Right.{nodes_at, kinds_at}, Certified.{AreStatesInOrder}}
use Rattle.check_laws.proofs.{Leading.one_state, Listing.{one_potential, one_number, one_kind}}
use Rattle.cert_check.specs.{declared.fault.Fault.Fault, declared.fault.Fault.TheVariants.{FormWrong, StageMissing}}
use Rattle.cert_check.specs.declared.fault.Fault.TheVariants.{ExampleWrong, CountsDiffer, NodeWrong, StartMissing}
use Rattle.cert_check.specs.declared.fault.Fault.TheVariants.{FinalPotential, NotClosed, Potential, StartPotential}
use Rattle.cert_check.specs.declared.fault.Fault.TheVariants.{StateMissing, FinalsDiffer, ArcsTwice, ArcsDiffer}
use Rattle.cert_check.specs.Places.{IsBefore, column_place, at_node, at_move, at_twice, at_arcs}
use Rattle.cert_check.specs.Faults.{LacksStage, HasWrongCount, HasNode, HasWrongNode, HasFinalPotential}
use Rattle.cert_check.specs.Faults.{IsNotClosed, HasHighPotential, HasWrongStart, HasState, LacksTarget}
use Rattle.cert_check.specs.Faults.{HasWrongMark, HasTwice, IsListedTarget, IsKeptTarget, HasWrongArcs}
use Rattle.cert_check.specs.FirstFaults.{IsFault, IsFirstFault}
use Rattle.cert_check.proofs.{ArcLists.one_target, Decisions.so_unless, Faultless.some_same}
use Rattle.cert_check.proofs.{Ascending.ascends_unless, KindMasks.same_told}

-- ---- places are in one order

abbrev InOrder : List ℕ → List ℕ → Type 0
InOrder p q = (p ≡ q) ⊎ (IsBefore p q ⊎ IsBefore q p)

ordered : (p q : List ℕ) → InOrder p q
ordered [] [] = inl refl
ordered [] (n ∷ ns) = inr (inl tt)
ordered (m ∷ ms) [] = inr (inr tt)
ordered (m ∷ ms) (n ∷ ns) = elim (cases_order m n) [
  | inl same ↦ rest same (ordered ms ns)
  | inr other ↦ elim other [
    | inl less ↦ inr (inl (inl less))
    | inr more ↦ inr (inr (inl more))
  ]
]
  where
    rest : m ≡ n → InOrder ms ns → InOrder (m ∷ ms) (n ∷ ns)
    rest e (inl f) = inl (ap₂ (λ k ks. k ∷ ks) e f)
    rest e (inr (inl b)) = inr (inl (inr (e, b)))
    rest e (inr (inr b)) = inr (inr (inr (sym e, b)))

same_column : (c d : List Sym) → column_place c ≡ column_place d → c ≡ d
same_column [] [] e = refl
same_column [] (s ∷ d) e = cc
same_column (s ∷ c) [] e = cc
same_column (s ∷ c) (t ∷ d) e =
    let head : rank s ≡ rank t = cc in
    let tail : column_place c ≡ column_place d = cc in
    ap₂ (λ x xs. x ∷ xs) (rank_same s t head) (same_column c d tail)

-- ---- what is at a place

-- A fault of a node's moves on a column.
abbrev IsMoveFault : Problem → Answer → ℕ → ℕ → List Sym → Fault → Type 0
IsMoveFault problem answer stage node column fault =
    ((missing : Kind) × ((fault ≡ NotClosed stage node missing) × IsNotClosed problem answer stage node column missing))
    ⊎ ((listed : ℕ) × ((allowed : ℕ) × ((fault ≡ Potential stage node listed allowed)
    × HasHighPotential problem answer stage node column listed allowed)))

abbrev AtNode : Problem → Answer → ℕ → ℕ → List ℕ → Fault → Type 0
AtNode problem answer stage node [] fault = ⊥
AtNode problem answer stage node (zero ∷ rest) fault = (listed : ℕ) ×
    ((fault ≡ FinalPotential stage node listed) × HasFinalPotential problem answer stage node listed)
AtNode problem answer stage node (suc n ∷ rest) fault = (n ≡ 0) × ((column : List Sym) ×
    ((rest ≡ column_place column) × IsMoveFault problem answer stage node column fault))

abbrev AtStage : Problem → Answer → ℕ → List ℕ → Fault → Type 0
AtStage problem answer stage [] fault = ⊥
AtStage problem answer stage (zero ∷ rest) fault = (node : ℕ) ×
    ((rest ≡ node ∷ []) × ((fault ≡ NodeWrong stage node) × HasWrongNode problem answer stage node))
AtStage problem answer stage (suc zero ∷ rest) fault = fault ≡ StartMissing stage
AtStage problem answer stage (suc (suc zero) ∷ []) fault = ⊥
AtStage problem answer stage (suc (suc zero) ∷ node ∷ rest) fault = AtNode problem answer stage node rest fault
AtStage problem answer stage (suc (suc (suc n)) ∷ rest) fault = (listed : ℕ) × ((count : ℕ) ×
    ((fault ≡ StartPotential stage listed count) × HasWrongStart answer stage listed count))

abbrev AtState : Problem → Answer → ℕ → List ℕ → Fault → Type 0
AtState problem answer state [] fault = ⊥
AtState problem answer state (zero ∷ rest) fault = (arc : ℕ) × ((target : ℕ) × ((rest ≡ arc ∷ [])
    × ((fault ≡ StateMissing state target) × LacksTarget answer state arc target)))
AtState problem answer state (suc zero ∷ rest) fault = (listed : Bool) ×
    ((fault ≡ FinalsDiffer state listed) × HasWrongMark problem answer state listed)
AtState problem answer state (suc (suc zero) ∷ rest) fault = (column : List Sym) ×
    ((rest ≡ column_place column) × (fault ≡ ArcsTwice state column))
AtState problem answer state (suc (suc (suc n)) ∷ rest) fault = (column : List Sym) × ((rest ≡ column_place column)
    × ((listed : Option ℕ) × ((kept : Option ℕ) ×
    ((fault ≡ ArcsDiffer state column listed kept) × HasWrongArcs problem answer state column listed kept))))

abbrev AtPlace : Problem → Answer → List ℕ → Fault → Type 0
AtPlace problem answer [] fault = ⊥
AtPlace problem answer (zero ∷ rest) fault = fault ≡ FormWrong
AtPlace problem answer (suc zero ∷ rest) fault = (listed : ℕ) × ((wanted : ℕ) ×
    ((fault ≡ StageMissing listed wanted) × LacksStage problem answer listed wanted))
AtPlace problem answer (suc (suc zero) ∷ rest) fault = fault ≡ ExampleWrong
AtPlace problem answer (suc (suc (suc zero)) ∷ rest) fault = (constraint : ℕ) × ((listed : ℕ) × ((counted : ℕ) ×
    ((rest ≡ constraint ∷ []) × ((fault ≡ CountsDiffer constraint listed counted)
    × HasWrongCount problem answer constraint listed counted))))
AtPlace problem answer (suc (suc (suc (suc zero))) ∷ []) fault = ⊥
AtPlace problem answer (suc (suc (suc (suc zero))) ∷ stage ∷ rest) fault = AtStage problem answer stage rest fault
AtPlace problem answer (suc (suc (suc (suc (suc zero)))) ∷ rest) fault = fault ≡ StateMissing 0 0
AtPlace problem answer (suc (suc (suc (suc (suc (suc n))))) ∷ []) fault = ⊥
AtPlace problem answer (suc (suc (suc (suc (suc (suc n))))) ∷ state ∷ rest) fault =
    AtState problem answer state rest fault

module _ (problem : Problem) (answer : Answer) where
  at_place : (fault : Fault) (place : List ℕ) → IsFault problem answer fault place → AtPlace problem answer place fault
  at_place fault place h = rw ((own fault place h).1.0) (own _ _ h).1.1
    where
      own : (f : Fault) (p : List ℕ) → IsFault problem answer f p
          → (q : List ℕ) × ((p ≡ q) × AtPlace problem answer q f)
      own FormWrong p h = (0 ∷ [], (h.1, refl))
      own (StageMissing listed wanted) p h = (1 ∷ [], (h.1, (listed, (wanted, (refl, h.0)))))
      own ExampleWrong p h = (2 ∷ [], (h.1, refl))
      own (CountsDiffer constraint listed counted) p h =
          (3 ∷ constraint ∷ [], (h.1, (constraint, (listed, (counted, (refl, (refl, h.0)))))))
      own (NodeWrong stage node) p h = (4 ∷ stage ∷ 0 ∷ node ∷ [], (h.1, (node, (refl, (refl, h.0)))))
      own (StartMissing stage) p h = (4 ∷ stage ∷ 1 ∷ [], (h.1, refl))
      own (FinalPotential stage node listed) p h =
          (4 ∷ stage ∷ 2 ∷ node ∷ 0 ∷ [], (h.1, (listed, (refl, h.0))))
      own (NotClosed stage node missing) p h = (
        at_move stage node h.0,
        (h.1.1, (refl, (h.0, (refl, inl (missing, (refl, h.1.0)))))),
      )
      own (Potential stage node listed allowed) p h = (
        at_move stage node h.0,
        (h.1.1, (refl, (h.0, (refl, inr (listed, (allowed, (refl, h.1.0))))))),
      )
      own (StartPotential stage listed count) p h =
          (4 ∷ stage ∷ 3 ∷ [], (h.1, (listed, (count, (refl, h.0)))))
      own (StateMissing state target) p (inl h) = (5 ∷ [], (h.3, both _ _ h.0 h.1))
        where
          both : (m n : ℕ) → m ≡ 0 → n ≡ 0 → StateMissing m n ≡ StateMissing 0 0
          both m n e f = ap₂ (λ x y. StateMissing x y) e f
      own (StateMissing state target) p (inr h) =
          (6 ∷ state ∷ 0 ∷ h.0 ∷ [], (h.1.1, (h.0, (target, (refl, (refl, h.1.0))))))
      own (FinalsDiffer state listed) p h = (6 ∷ state ∷ 1 ∷ [], (h.1, (listed, (refl, h.0))))
      own (ArcsTwice state column) p h = (at_twice state column, (h.1, (column, (refl, refl))))
      own (ArcsDiffer state column listed kept) p h =
          (at_arcs state column, (h.1, (column, (refl, (listed, (kept, (refl, h.0)))))))

  -- a node has one number
  one_node : (stage n : ℕ) (a b : Node) → HasNode answer stage n a → HasNode answer stage n b → a ≡ b
  one_node stage n a b h k = some_same (sym h.numbered ∙ k.numbered)

  abbrev IsListed : ℕ → ℕ → Type 0
  IsListed n w = (n ≡ length answer.stages.items) ⊎
      ((length answer.stages.items ≡ w) × (n ≡ length answer.counts.items + 1))

  one_lack : (listed other wanted more : ℕ) → LacksStage problem answer listed wanted
      → LacksStage problem answer other more → (listed ≡ other) × (wanted ≡ more)
  one_lack listed other wanted more a b = (numbers a.listed_is b.listed_is, a.wanted_is ∙ sym b.wanted_is)
    where
      numbers : IsListed listed wanted → IsListed other more → listed ≡ other
      numbers (inl e) (inl f) = e ∙ sym f
      numbers (inl e) (inr f) = absurd (a.differs (e ∙ f.0 ∙ b.wanted_is ∙ sym a.wanted_is))
      numbers (inr e) (inl f) = absurd (b.differs (f ∙ e.0 ∙ a.wanted_is ∙ sym b.wanted_is))
      numbers (inr e) (inr f) = e.1 ∙ sym f.1

  one_count : (constraint listed counted other more : ℕ) → HasWrongCount problem answer constraint listed counted
      → HasWrongCount problem answer constraint other more → (listed ≡ other) × (counted ≡ more)
  one_count constraint listed counted other more a b =
      (a.listed_is ∙ sym b.listed_is, a.counted_is ∙ sym b.counted_is)

  one_final : (stage n listed other : ℕ) → HasFinalPotential problem answer stage n listed
      → HasFinalPotential problem answer stage n other → listed ≡ other
  one_final stage n listed other a b = a.listed_is ∙ ap (λ (x : Node). x.potential) (one_node _ n _ _ a.is b.is) ∙ sym
      b.listed_is

  one_start : (stage listed count other more : ℕ) → HasWrongStart answer stage listed count
      → HasWrongStart answer stage other more → (listed ≡ other) × (count ≡ more)
  one_start stage listed count other more a b = (
    a.listed_is ∙ ap (λ (x : Node). x.potential) (one_node _ 0 _ _ a.is b.is) ∙ sym b.listed_is,
    a.count_is ∙ sym b.count_is,
  )

  -- of a node's moves on a column
  module _ (stage n : ℕ) (column : List Sym) where
    abbrev next : Node → PrefixKind
    next node = next_kind problem stage (kind_of_bits problem stage node.kind) column

    one_missing : (kind other : Kind) → IsNotClosed problem answer stage n column kind
        → IsNotClosed problem answer stage n column other → kind ≡ other
    one_missing kind other a b = same_told _ _ _ _ _ (rw (one_node stage n a.node b.node a.is b.is) at a.leads) b.leads

    not_both : (kind : Kind) (listed allowed : ℕ) → IsNotClosed problem answer stage n column kind
        → HasHighPotential problem answer stage n column listed allowed → ⊥
    not_both kind listed allowed a b = a.unlisted b.next (rw (one_node stage n b.node a.node b.is a.is) at b.leads)

    one_potential_fault : ((m : ℕ) → HasWrongNode problem answer stage m → ⊥) → (listed allowed other more : ℕ)
        → HasHighPotential problem answer stage n column listed allowed
        → HasHighPotential problem answer stage n column other more → (listed ≡ other) × (allowed ≡ more)
    one_potential_fault right listed allowed other more a b =
        let same = one_node _ n _ _ a.is b.is in
        let nexts = one_potential _ _ _ (ascends_unless _ _ _ a.is.within right) _ _ _ (rw same at a.leads) b.leads in (
          a.listed_is ∙ ap (λ (x : Node). x.potential) same ∙ sym b.listed_is,
          a.allowed_is
              ∙ ap₂ (λ (x : Node) (q : ℕ). cost_of problem stage (kind_of_bits problem stage x.kind) column + q)
              same nexts ∙ sym b.allowed_is,
        )

    one_move : ((m : ℕ) → HasWrongNode problem answer stage m → ⊥) → (f g : Fault)
        → IsMoveFault problem answer stage n column f → IsMoveFault problem answer stage n column g → f ≡ g
    one_move right f g (inl a) (inl b) = a.1.0 ∙ ap (λ k. NotClosed stage n k) (one_missing _ _ a.1.1 b.1.1) ∙ sym b.1.0
    one_move right f g (inl a) (inr b) = absurd (not_both _ _ _ a.1.1 b.1.1.1)
    one_move right f g (inr a) (inl b) = absurd (not_both _ _ _ b.1.1 a.1.1.1)
    one_move right f g (inr a) (inr b) =
        let same = one_potential_fault right _ _ _ _ a.1.1.1 b.1.1.1 in
        a.1.1.0 ∙ ap₂ (λ x y. Potential stage n x y) same.0 same.1 ∙ sym b.1.1.0

  one_in_node : (stage n : ℕ) → ((m : ℕ) → HasWrongNode problem answer stage m → ⊥) → (rest : List ℕ) (f g : Fault)
      → AtNode problem answer stage n rest f → AtNode problem answer stage n rest g → f ≡ g
  one_in_node stage n right [] f g a b = absurd a
  one_in_node stage n right (zero ∷ rest) f g a b = a.1.0
      ∙ ap (λ x. FinalPotential stage n x) (one_final stage n a.0 b.0 a.1.1 b.1.1) ∙ sym b.1.0
  one_in_node stage n right (suc m ∷ rest) f g a b = one_move stage n b.1.0 right f g
      (rw (same_column a.1.0 b.1.0 (sym a.1.1.0 ∙ b.1.1.0)) at a.1.1.1) b.1.1.1

  same_head : (m n : ℕ) (rest : List ℕ) → rest ≡ m ∷ [] → rest ≡ n ∷ [] → m ≡ n
  same_head m n rest e f = ap (λ xs. get_or xs 0 0) (sym e ∙ f)

  one_in_stage : (stage : ℕ) (rest : List ℕ) (f g : Fault)
      → ((m : ℕ) → HasWrongNode problem answer stage m → IsBefore (0 ∷ m ∷ []) rest → ⊥)
      → AtStage problem answer stage rest f → AtStage problem answer stage rest g → f ≡ g
  one_in_stage stage [] f g none a b = absurd a
  one_in_stage stage (zero ∷ rest) f g none a b = a.1.1.0 ∙ ap (λ n. NodeWrong stage n) (same_head _ _ _ a.1.0 b.1.0) ∙
      sym b.1.1.0
  one_in_stage stage (suc zero ∷ rest) f g none a b = a ∙ sym b
  one_in_stage stage (suc (suc zero) ∷ []) f g none a b = absurd a
  one_in_stage stage (suc (suc zero) ∷ n ∷ rest) f g none a b =
      one_in_node stage n (λ m w. none m w (inl (omega arith))) rest f g a b
  one_in_stage stage (suc (suc (suc n)) ∷ rest) f g none a b =
      let same = one_start _ _ _ _ _ a.1.1.1 b.1.1.1 in
      a.1.1.0 ∙ ap₂ (λ x y. StartPotential stage x y) same.0 same.1 ∙ sym b.1.1.0

  abbrev LastAscends : Type 0
  LastAscends = IsStrictlySortedBy kind_order
      (kinds_at problem (last_stage problem) (nodes_at answer.stages.items (last_stage problem)))

  -- of a state
  module _ (states : AreStatesInOrder problem.tiers.width answer.automaton.states.items) where
    one_line : (n : ℕ) (a b : StateLine) → HasState answer n a → HasState answer n b → a ≡ b
    one_line n a b h k = one_state _ states.ascending a b h.listed k.listed (h.numbered ∙ sym k.numbered)

    one_lacking : (state arc target other : ℕ) → LacksTarget answer state arc target
        → LacksTarget answer state arc other → target ≡ other
    one_lacking state arc target other a b =
        let line = one_line _ _ _ a.is b.is in
        let same = some_same (sym a.numbered ∙ ap (λ (x : StateLine). slice_get x.arcs.items arc) line ∙ b.numbered) in
        a.target_is ∙ ap (λ (x : ArcLine). x.target) same ∙ sym b.target_is

    one_mark : (state : ℕ) (listed other : Bool) → HasWrongMark problem answer state listed
        → HasWrongMark problem answer state other → listed ≡ other
    one_mark state listed other a b = a.listed_is ∙ ap (λ (x : StateLine). x.accepting) (one_line _ _ _ a.is b.is) ∙ sym
        b.listed_is

    module _ (state : ℕ) (column : List Sym) (line : StateLine) (is : HasState answer state line)
        (once : HasTwice answer state column → ⊥) where
      twice : (i j : ℕ) (a b : ArcLine) → i < j → slice_get line.arcs.items i ≡ Some a
          → slice_get line.arcs.items j ≡ Some b → IsTrue (has a.class column) → IsTrue (has b.class column) → ⊥
      twice i j a b l e f h k = once (record {
        line = line;
        is = is;
        first = i;
        second = j;
        ascending = l;
        first_arc = a;
        first_is = e;
        second_arc = b;
        second_is = f;
        in_first = h;
        in_second = k;
      })

      one_listed : (m n : Option ℕ) → IsListedTarget line.arcs.items column m
          → IsListedTarget line.arcs.items column n → m ≡ n
      one_listed None None a b = refl
      one_listed None (Some n) a b = absurd (a b.0 b.1.0 b.1.1)
      one_listed (Some m) None a b = absurd (b a.0 a.1.0 a.1.1)
      one_listed (Some m) (Some n) a b = ap (λ (x : ℕ). Some x) (one_target line.arcs.items column twice m n a b)

    one_kept : LastAscends → (k : PrefixKind) (column : List Sym) (m n : Option ℕ)
        → IsKeptTarget problem answer k column m
        → IsKeptTarget problem answer k column n → m ≡ n
    one_kept ascending k column None None a b = refl
    one_kept ascending k column None (Some n) a b = absurd (a b.0)
    one_kept ascending k column (Some m) None a b = absurd (b a.0)
    one_kept ascending k column (Some m) (Some n) a b = ap (λ (x : ℕ). Some x) (one_number _ _ ascending _ m n a.1 b.1)

    one_arcs : LastAscends → (state : ℕ) (column : List Sym) → (HasTwice answer state column → ⊥)
        → (listed other kept more : Option ℕ) → HasWrongArcs problem answer state column listed kept
        → HasWrongArcs problem answer state column other more → (listed ≡ other) × (kept ≡ more)
    one_arcs ascending state column once listed other kept more a b =
        let line = one_line state a.line b.line a.is b.is in
        let kind = one_kind problem (nodes_at answer.stages.items (last_stage problem)) a.kind b.kind state a.of_kind
        b.of_kind in (
          one_listed state column b.line b.is once listed other
              (subst (λ (x : StateLine). IsListedTarget x.arcs.items column listed) line a.listed_is) b.listed_is,
          one_kept ascending b.kind column kept more
              (subst (λ x. IsKeptTarget problem answer x column kept) kind a.kept_is) b.kept_is,
        )

    one_in_state : (state : ℕ) (rest : List ℕ) (f g : Fault) → LastAscends
        → ((column : List Sym) → HasTwice answer state column → IsBefore (2 ∷ column_place column) rest → ⊥)
        → AtState problem answer state rest f → AtState problem answer state rest g → f ≡ g
    one_in_state state [] f g ascending none a b = absurd a
    one_in_state state (zero ∷ rest) f g ascending none a b =
        let same = same_head _ _ _ a.1.1.0 b.1.1.0 in
        a.1.1.1.0 ∙ ap (λ n. StateMissing state n) (one_lacking _ _ _ _ (rw same at a.1.1.1.1) b.1.1.1.1) ∙ sym
        b.1.1.1.0
    one_in_state state (suc zero ∷ rest) f g ascending none a b = a.1.0 ∙ ap (λ x. FinalsDiffer state x)
        (one_mark _ _ _ a.1.1 b.1.1) ∙ sym b.1.0
    one_in_state state (suc (suc zero) ∷ rest) f g ascending none a b = a.1.1 ∙ ap (λ c. ArcsTwice state c)
        (same_column _ _ (sym a.1.0 ∙ b.1.0)) ∙ sym b.1.1
    one_in_state state (suc (suc (suc n)) ∷ rest) f g ascending none a b =
        let column = same_column _ _ (sym a.1.0 ∙ b.1.0) in
        let same = one_arcs ascending _ _ (λ w. none b.0 w (inl (omega arith))) _ _ _ _ (rw column at a.1.1.1.1.1)
        b.1.1.1.1.1 in
        a.1.1.1.1.0 ∙ ap₂ (λ c x. ArcsDiffer state c x a.1.1.1.0) column same.0
        ∙ ap (λ x. ArcsDiffer state b.0 b.1.1.0 x) same.1 ∙ sym b.1.1.1.1.0

    abbrev IsNothingBefore : List ℕ → Type 0
    IsNothingBefore place = (other : Fault) (before : List ℕ) → IsFault problem answer other before
        → IsBefore before place → ⊥

    later : (n : ℕ) (ms ns : List ℕ) → IsBefore ms ns
        → IsBefore (6 ∷ ms) (suc (suc (suc (suc (suc (suc n))))) ∷ ns)
    later zero ms ns b = inr (refl, b)
    later (suc n) ms ns b = inl (omega arith)

    -- the last stage ascends where no node is wrong and no stage is missing
    last_ascends : (n : ℕ) (rest : List ℕ) → IsNothingBefore (suc (suc (suc (suc (suc (suc n))))) ∷ rest) → LastAscends
    last_ascends n rest none =
        let count = so_unless (cases_eq (length answer.stages.items) (last_stage problem + 1)) (λ no. none
        (StageMissing (length answer.stages.items) (last_stage problem + 1)) (1 ∷ [])
        (record { wanted_is = refl; differs = no; listed_is = inl refl }, refl) (inl (omega arith))) in
        ascends_unless _ _ (last_stage problem) (omega (arith, count))
        (λ m w. none (NodeWrong (last_stage problem) m) (at_node (last_stage problem) m) (w, refl) (inl (omega arith)))

    one_at : (place : List ℕ) (f g : Fault) → IsNothingBefore place → AtPlace problem answer place f
        → AtPlace problem answer place g → f ≡ g
    one_at [] f g none a b = absurd a
    one_at (zero ∷ rest) f g none a b = a ∙ sym b
    one_at (suc zero ∷ rest) f g none a b =
        let same = one_lack _ _ _ _ a.1.1.1 b.1.1.1 in
        a.1.1.0 ∙ ap₂ (λ x y. StageMissing x y) same.0 same.1 ∙ sym b.1.1.0
    one_at (suc (suc zero) ∷ rest) f g none a b = a ∙ sym b
    one_at (suc (suc (suc zero)) ∷ rest) f g none a b =
        let head = same_head _ _ _ a.1.1.1.0 b.1.1.1.0 in
        let same = one_count _ _ a.1.1.0 b.1.0 b.1.1.0
        (subst (λ n. HasWrongCount problem answer n a.1.0 a.1.1.0) head a.1.1.1.1.1) b.1.1.1.1.1 in
        a.1.1.1.1.0 ∙ ap₂ (λ n x. CountsDiffer n x a.1.1.0) head same.0
        ∙ ap (λ x. CountsDiffer b.0 b.1.0 x) same.1 ∙ sym b.1.1.1.1.0
    one_at (suc (suc (suc (suc zero))) ∷ []) f g none a b = absurd a
    one_at (suc (suc (suc (suc zero))) ∷ stage ∷ rest) f g none a b =
        one_in_stage stage rest f g
        (λ m w before. none (NodeWrong stage m) (at_node stage m) (w, refl) (inr (refl, inr (refl, before)))) a b
    one_at (suc (suc (suc (suc (suc zero)))) ∷ rest) f g none a b = a ∙ sym b
    one_at (suc (suc (suc (suc (suc (suc n))))) ∷ []) f g none a b = absurd a
    one_at (suc (suc (suc (suc (suc (suc n))))) ∷ state ∷ rest) f g none a b =
        one_in_state state rest f g (last_ascends n (state ∷ rest) none)
        (λ column w before. none (ArcsTwice state column) (at_twice state column) (w, refl)
        (later n (state ∷ 2 ∷ column_place column) (state ∷ rest) (inr (refl, before)))) a b

    pub one_first : (fault other : Fault) → IsFirstFault problem answer fault → IsFirstFault problem answer other
        → fault ≡ other
    one_first fault other a b = by (ordered _ _)
      where
        by : InOrder a.place b.place → fault ≡ other
        by (inl e) = one_at _ _ _ b.first (at_place _ _ (rw e at a.is)) (at_place _ _ b.is)
        by (inr (inl before)) = absurd (b.first fault a.place a.is before)
        by (inr (inr before)) = absurd (a.first other b.place b.is before)
