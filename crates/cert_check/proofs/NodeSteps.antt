-- The faults of one node: of its potential, and of its moves.
use Rattle.std.proofs.Common.{◌≡◌, ◌≢◌, ℕ, zero, suc, ◌+◌, ◌<◌, ◌≤◌, true, false, IsTrue, List, [], ◌∷◌, length}
use Rattle.std.proofs.lemmas.Option.{slice_get_within}
use Rattle.std.proofs.Common.{get_or, slice_get, Some, refl, sym, ap, ◌∙◌, subst, arith, ⊎_elim, inl, inr}
use Rattle.std.proofs.lemmas.Bool.{cases_lt, false≢true, both_ways, or_cases}
use Rattle.std.proofs.{lemmas.List.{get_or_default, get_or-map, length-map}, lemmas.List.Folds.list_any_at}
use Rattle.std.specs.List.Sorted.{IsStrictlySortedBy}
use Rattle.tier_core.specs.{declared.class.Class.Class, declared.kind.Kind.Kind, declared.sym.Sym.Sym, Classes.has}
use Rattle.tier_core.specs.{Kinds.{PrefixKind, kind_order}, Filled.is_filled, FirstColumn.first_column}
use Rattle.symbol_class.specs.Held.{some_has}
use Rattle.tier_core.proofs.Filled.{has-first_column, first_column_least}
use Rattle.violation.specs.{Moves.{next_kind, cost_of, is_final}, Prefixes.kind_of_bits, Problems.Problem}
use Rattle.answer_text.specs.{declared.answer.Answer.Answer, declared.stage.Node.Node, declared.stage.Stage.Stage}
use Rattle.answer_text.specs.{Right.{nodes_at, kinds_at}, Certified.{IsKeptBelow, Lists}}
use Rattle.check_laws.proofs.Listing.{lists_kind, one_potential}
use Rattle.cert_check.specs.declared.fault.Fault.{Fault}
use Rattle.cert_check.specs.declared.fault.Fault.TheVariants.{FinalPotential, NotClosed, Potential}
use Rattle.cert_check.specs.declared.kept_piece.MoveTarget.{MoveTarget}
use Rattle.cert_check.specs.declared.kept_piece.MoveTarget.TheVariants.{Node as NodeOf, Unlisted}
use Rattle.cert_check.specs.Faults.{HasNode, IsNotClosed, HasHighPotential}
use Rattle.cert_check.specs.{declared.kept_piece.KeptPiece.KeptPiece, Kept.{AreKeptPieces, IsKeptPiece, IsTargetOf}}
use Rattle.cert_check.specs.Kept.{kept_classes, kinds_of}
use Rattle.cert_check.specs.Nodes.{IsRightNode, IsRightPart, IsFirstInNode, IsMoveFault, AreWrongOn, AreRightOn}
use Rattle.cert_check.specs.{Nodes.{IsNotAfter, IsLeastWrong}, Parts.{InNode, IsWrongMove}}
use Rattle.cert_check.specs.Places.{IsBefore, column_place}
use Rattle.cert_check.proofs.{ColumnPlaces.{before_or, not_both_before, not_after_is}, Parts.none_before}
use Rattle.cert_check.proofs.{Faultless.some_same, TightSteps.lists_there}

-- a number is that of one node
pub one_node : (answer : Answer) (stage n : ℕ) (a b : Node) → HasNode answer stage n a → HasNode answer stage n b → a
    ≡ b
one_node answer stage n a b h k = some_same (sym h.numbered ∙ k.numbered)

-- the node to which a piece leads tells where its moves lead
pub leads_to : (problem : Problem) (stages : List Stage) (stage : ℕ) (k : PrefixKind) (piece : KeptPiece) (target : ℕ)
    → IsKeptPiece problem stages stage k piece → piece.target ≡ NodeOf target → (column : List Sym)
    → IsTrue (has piece.class column)
    → slice_get (kinds_of problem stages stage) target ≡ Some (next_kind problem stage k column)
leads_to problem stages stage k piece target kept to column h = subst
    (λ t. IsTargetOf problem stages stage t (next_kind problem stage k column)) to (kept.leads column h)

-- the number of that node is below their number
pub node_below : (problem : Problem) (stages : List Stage) (stage : ℕ) (k : PrefixKind) (piece : KeptPiece)
    (target : ℕ) → IsKeptPiece problem stages stage k piece → piece.target ≡ NodeOf target → (column : List Sym)
    → IsTrue (has piece.class column) → target < length (nodes_at stages stage)
node_below problem stages stage k piece target kept to column h = omega (
  arith,
  slice_get_within (kinds_of problem stages stage) target _
      (leads_to problem stages stage k piece target kept to column h),
  length-map (nodes_at stages stage) (λ (x : Node). kind_of_bits problem stage x.kind),
)

module _ (problem : Problem) (answer : Answer) (stage n : ℕ) (node : Node) (is : HasNode answer stage n node) where
  abbrev kind : PrefixKind
  kind = kind_of_bits problem stage node.kind

  -- ---- the potential of a final node

  pub right_where_open : is_final problem (kind_of_bits problem stage node.kind) ≡ false
      → IsRightPart problem answer stage n 0
  right_where_open e rest w =
      let h = w.1.0 in
      both_ways _ e (rw (one_node answer stage n h.node node h.is is) at h.final)

  pub first_final : is_final problem (kind_of_bits problem stage node.kind) ≡ true → node.potential ≢ 0
      → IsFirstInNode problem answer stage n (FinalPotential stage n node.potential)
  first_final e some = record {
    place = 0 ∷ [];
    is = (record { node = node; is = is; final = e; listed_is = refl; differs = some }, refl);
    first = none_before _ 0 [] (λ m l. absurd (omega arith)) (λ rest w b. b);
  }

  -- ---- moves that are kept on the columns of a class, and lead to one target

  module _ (class : Class) (target : MoveTarget) (cost : ℕ)
      (kept : (column : List Sym) → IsTrue (has class column)
      → IsKeptBelow problem answer.stages.items stage (kind_of_bits problem stage node.kind) column)
      (leads : (column : List Sym) → IsTrue (has class column)
      → IsTargetOf problem answer.stages.items stage target
      (next_kind problem stage (kind_of_bits problem stage node.kind) column))
      (costs : (column : List Sym) → IsTrue (has class column)
      → cost_of problem stage (kind_of_bits problem stage node.kind) column ≡ cost) where
    pub not_closed : (missing : Kind) → target ≡ Unlisted missing
        → IsMoveFault problem answer stage n class (NotClosed stage n missing)
    not_closed missing e column h =
        let to = subst (λ t. IsTargetOf problem answer.stages.items stage t
        (next_kind problem stage (kind_of_bits problem stage node.kind) column)) e (leads column h) in
        let wrong : IsNotClosed problem answer stage n column missing = record {
          node = node;
          is = is;
          kept = kept column h;
          leads = to.0;
          unlisted = λ p l. to.1 (lists_kind _ _ _ _ _ l);
        } in
        (inl (missing, wrong), (column, (wrong, refl)))

    module _ (number next : ℕ) (to : target ≡ NodeOf number)
        (of : (other : Node) → next ≡ (get_or (nodes_at answer.stages.items stage) number other).potential) where
      listed_at : (column : List Sym) → IsTrue (has class column)
          → Lists problem answer.stages.items stage
          (next_kind problem stage (kind_of_bits problem stage node.kind) column) next
      listed_at column h = lists_there problem answer.stages.items stage _ number next (subst
          (λ t. IsTargetOf problem answer.stages.items stage t
          (next_kind problem stage (kind_of_bits problem stage node.kind) column)) to (leads column h)) of

      pub too_high : cost + next < node.potential
          → IsMoveFault problem answer stage n class (Potential stage n node.potential (cost + next))
      too_high above column h =
          let wrong : HasHighPotential problem answer stage n column node.potential (cost + next) = record {
            node = node;
            is = is;
            kept = kept column h;
            next = next;
            leads = listed_at _ h;
            listed_is = refl;
            allowed_is = ap (λ m. m + next) (sym (costs column h));
            above = above;
          } in
          (inr (node.potential, (cost + next, wrong)), (column, (wrong, refl)))

      pub none_wrong : IsStrictlySortedBy kind_order (kinds_at problem stage (nodes_at answer.stages.items stage))
          → node.potential ≤ cost + next → AreRightOn problem answer stage n class
      none_wrong ascends low column h (inl w) =
          let f = w.1 in
          f.unlisted next (rw (one_node answer stage n node f.node is f.is) at (listed_at _ h))
      none_wrong ascends low column h (inr w) =
          let f = w.1.1 in
          let same = one_node _ _ n _ _ f.is is in
          let to : Lists problem answer.stages.items stage
          (next_kind problem stage (kind_of_bits problem stage node.kind) column) f.next =
          rw same at f.leads in
          let one = one_potential _ _ _ ascends _ _ _ to (listed_at _ h) in
          let here =
          ap (λ (x : Node). cost_of problem stage (kind_of_bits problem stage x.kind) column) same ∙ costs column h in
          let potential = ap (λ (x : Node). x.potential) same in
          omega (arith, f.above, f.listed_is, f.allowed_is, one, here, potential, low)

-- ---- the least column with a wrong move

some_index : (classes : List Class) (column : List Sym) (d : Class) → some_has classes column ≡ true
    → (i : ℕ) × ((i < length classes) × (has (get_or classes i d) column ≡ true))
some_index [] column d h = absurd (false≢true h)
some_index (class ∷ classes) column d h = ⊎_elim (λ here. (zero, (omega arith, here)))
    (λ there. let rest = some_index classes column d there in (suc rest.0, (omega (arith, rest.1.0), rest.1.1)))
    (or_cases _ _ h)

module _ {problem : Problem} {answer : Answer} {stage n : ℕ} {classes : List Class} where
  module _ {best next : ℕ} (so_far : IsLeastWrong problem answer stage n classes next best)
      (inside : next < length classes) (class : Class) (e : class ≡ get_or classes next class) where
    at_next : (P : Class → Type 0) (d : Class) → P class → P (get_or classes next d)
    at_next P d p = subst P (e ∙ default next _ d) p
      where
        default : (m : ℕ) (a b : Class) → get_or classes next a ≡ get_or classes next b
        default m a b = get_or_default _ _ a b inside

    -- nothing is wrong on the next class
    pub least_same : AreRightOn problem answer stage n class
        → IsLeastWrong problem answer stage n classes (next + 1) best
    least_same right = record {
      within = so_far.within;
      wrong = so_far.wrong;
      others = λ m d l. ⊎_elim (λ below. so_far.others m d below)
          (λ above. let same : next ≡ m = omega arith in
          inl (subst (λ i. AreRightOn problem answer stage n (get_or classes i d)) same
          (at_next (AreRightOn problem answer stage n) d right)))
          (cases_lt m next);
    }

    -- the next class is the first on which something is wrong
    pub least_first : AreWrongOn problem answer stage n class → best ≡ length classes
        → IsLeastWrong problem answer stage n classes (next + 1) next
    least_first wrong none = record {
      within = omega (arith, inside);
      wrong = λ d l. at_next (AreWrongOn problem answer stage n) d wrong;
      others = λ m d l. ⊎_elim
          (λ below. ⊎_elim (λ right. inl right) (λ later. absurd (omega (arith, later.0, none)))
          (so_far.others m d below))
          (λ above. let same : m ≡ next = omega arith in
          inr (
            inside,
            rw same (λ b. not_both_before _ _ b b),
          ))
          (cases_lt m next);
    }

    -- its least column comes before that of the class so far
    pub least_next : (first : Class) → first ≡ get_or classes best first → best < length classes
        → AreWrongOn problem answer stage n class
        → IsBefore (column_place (first_column class)) (column_place (first_column first))
        → IsLeastWrong problem answer stage n classes (next + 1) next
    least_next first f some wrong before = record {
      within = omega (arith, inside);
      wrong = λ d l. at_next (AreWrongOn problem answer stage n) d wrong;
      others = λ m d l. ⊎_elim
          (λ below. ⊎_elim (λ right. inl right) (λ later. inr (
            inside,
            λ b.
                let mine = at_next (λ c. IsBefore (column_place (first_column c))
                (column_place (first_column first))) d before in
                let best_is = f ∙ get_or_default _ _ _ d some in
                let mine =
                subst (λ c. IsBefore (column_place (first_column (get_or classes next d)))
                (column_place (first_column c))) best_is mine in
                ⊎_elim (λ x. later.1 x) (λ x. not_both_before _ _ x mine) (before_or _ _ _ b),
          )) (so_far.others m d below))
          (λ above. let same : m ≡ next = omega arith in
          inr (
            inside,
            rw same (λ b. not_both_before _ _ b b),
          ))
          (cases_lt m next);
    }

    -- it does not
    pub least_later : (first : Class) → first ≡ get_or classes best first → best < length classes
        → IsNotAfter first class
        → IsLeastWrong problem answer stage n classes (next + 1) best
    least_later first f some later = record {
      within = so_far.within;
      wrong = so_far.wrong;
      others = λ m d l. ⊎_elim (λ below. so_far.others m d below)
          (λ above. let same : next ≡ m = omega arith in
          let best_is = f ∙ get_or_default _ _ _ d some in
          inr (
            some,
            subst (λ i. IsNotAfter (get_or classes best d) (get_or classes i d)) same
                (at_next (IsNotAfter (get_or classes best d)) d (rw best_is at later)),
          ))
          (cases_lt m next);
    }

  module _ {node : Node} (is : HasNode answer stage n node) {best count : ℕ}
      (least : IsLeastWrong problem answer stage n classes count best) (all : length classes ≤ count)
      (held : (column : List Sym) → IsKeptBelow problem answer.stages.items stage
      (kind_of_bits problem stage node.kind) column → IsTrue (some_has classes column)) where
    -- a wrong move is on a column of some class
    of_wrong : (column : List Sym) → IsWrongMove problem answer stage n column → IsTrue (some_has classes column)
    of_wrong column (inl w) = held column (rw (one_node answer stage n w.1.node node w.1.is is) at w.1.kept)
    of_wrong column (inr w) = held column (rw (one_node answer stage n w.1.1.node node w.1.1.is is) at w.1.1.kept)

    -- none is chosen, so nothing is wrong
    pub right_where_no_best : best ≡ length classes → IsRightPart problem answer stage n 1
    right_where_no_best none rest w = by _ refl
      where
        by : (cs : List Class) → cs ≡ classes → ⊥
        by [] e = false≢true (ap (λ xs. some_has xs w.0) e ∙ of_wrong _ w.1.0)
        by (d ∷ cs) e =
            let i = some_index _ _ d (of_wrong _ w.1.0) in
            ⊎_elim (λ right. right w.0 i.1.1 w.1.0) (λ later. absurd (omega (arith, later.0, none)))
            (least.others i.0 d (omega (arith, i.1.0, all)))

    -- the fault of the chosen class comes first
    pub first_move : (class : Class) (fault : Fault) → best < length classes → class ≡ get_or classes best class
        → IsTrue (is_filled class) → IsRightPart problem answer stage n 0
        → IsMoveFault problem answer stage n class fault → IsFirstInNode problem answer stage n fault
    first_move class fault some e filled potential faulty = record {
      place = 1 ∷ column_place (first_column class);
      is = (faulty (first_column class) (has-first_column _ filled)).1;
      first = none_before _ 1 _ lower here;
    }
      where
        lower : (m : ℕ) → m < 1 → (rest : List ℕ) → InNode problem answer stage n m rest → ⊥
        lower zero l = potential
        lower (suc m) l = absurd (omega arith)

        here : (rest : List ℕ) → InNode problem answer stage n 1 rest
            → IsBefore rest (column_place (first_column class)) → ⊥
        here rest w b =
            let column = w.0 in
            let i = some_index _ _ _ (of_wrong _ w.1.0) in
            let other = get_or classes i.0 class in
            let before : IsBefore (column_place column) (column_place (first_column class)) =
            rw w.1.1 at b in
            ⊎_elim (λ right. right column i.1.1 w.1.0) (λ later. ⊎_elim
            (λ x. not_after_is _ _ (first_column_least _ _ i.1.1) x)
            (λ x. subst (λ c. IsNotAfter c other) (sym e) later.1 x) (before_or _ _ _ before))
            (least.others i.0 class (omega (arith, i.1.0, all)))

-- a node is right where its parts are
pub right_node : (problem : Problem) (answer : Answer) (stage n : ℕ) → IsRightPart problem answer stage n 0
    → IsRightPart problem answer stage n 1 → IsRightNode problem answer stage n
right_node problem answer stage n a b zero rest w = a rest w
right_node problem answer stage n a b (suc zero) rest w = b rest w
right_node problem answer stage n a b (suc (suc part)) rest w = w

-- something is wrong on the class that is chosen
pub never_none : {problem : Problem} {answer : Answer} {stage n : ℕ} {classes : List Class} {best count : ℕ}
    → IsLeastWrong problem answer stage n classes count best → (class : Class) → best < length classes
    → class ≡ get_or classes best class → IsTrue (is_filled class) → AreRightOn problem answer stage n class
    → {A : Type 0} → A
never_none {problem} {answer} {stage} {n} least class some e filled right =
    let wrong : AreWrongOn problem answer stage n class =
    rw e (least.wrong class some) in
    let held = has-first_column _ filled in
    absurd (right (first_column class) held (wrong (first_column class) held))

-- ---- the pieces that are kept

-- a piece at a place among pieces that are kept
pub record IsPieceAt (problem : Problem) (stages : List Stage) (stage : ℕ) (k : PrefixKind)
    (pieces : List KeptPiece) (n : ℕ) (piece : KeptPiece) : Type 0 where
  pub within : n < length (kept_classes pieces)
  pub class : piece.class ≡ get_or (kept_classes pieces) n piece.class
  pub filled : IsTrue (is_filled piece.class)
  pub keeps : (column : List Sym) → IsTrue (has piece.class column) → IsKeptBelow problem stages stage k column
  pub told : IsKeptPiece problem stages stage k piece

pub piece_at : {problem : Problem} {stages : List Stage} {stage : ℕ} {k : PrefixKind} {pieces : List KeptPiece}
    → AreKeptPieces problem stages stage k pieces → (n : ℕ) (piece : KeptPiece) → n < length pieces
    → piece ≡ get_or pieces n piece → IsPieceAt problem stages stage k pieces n piece
piece_at {problem} {stage = stage} {k = k} {pieces} kept n piece inside is =
    let within : n < length (kept_classes pieces) =
    omega (arith, inside, length-map pieces (λ (p : KeptPiece). p.class)) in
    let class = ap (λ (p : KeptPiece). p.class) is ∙ sym (get_or-map _ _ n _ _ inside) in
    record {
      within = within;
      class = class;
      filled = rw class (kept.pieces.filled n piece.class within);
      keeps = λ column h. (kept.columns column).0
          (list_any_at _ _ n _ within (ap (λ class. has class column) (sym class) ∙ h));
      told = rw is (kept.each n piece inside);
    }

-- a piece that is chosen is one of the pieces
pub best_below : {problem : Problem} {answer : Answer} {stage n next best : ℕ} (pieces : List KeptPiece)
    → IsLeastWrong problem answer stage n (kept_classes pieces) next best → best ≢ length pieces
    → best < length pieces
best_below pieces least some = omega (arith, least.within, length-map pieces (λ (p : KeptPiece). p.class), some)
