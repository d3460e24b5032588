-- What is left of the moves of a node after its stage.
use Rattle.std.proofs.Common.{◌≡◌, ◌↔◌, ℕ, zero, suc, ◌+◌, ◌==◌, ◌<◌, ◌≤◌, ◌||◌, Bool, IsTrue, List, [], ◌∷◌, ◌++◌}
use Rattle.std.proofs.Common.{length, get_or, slice_get, Some, refl, sym, ap, ◌∙◌, subst, arith, inl, inr, ⊎_elim}
use Rattle.std.proofs.Common.{All, ◌⊎◌, length-append}
use Rattle.std.proofs.{lemmas.Bool.{cases_lt, ne_eqb}, lemmas.List.{get_or_default, length-map, map-append}}
use Rattle.std.proofs.lemmas.List.Elements.{All-from_recursion, All-push}
use Rattle.std.proofs.lemmas.Option.{slice_get_within, get_or_from_slice_get}
use Rattle.std.specs.Global.{Vec}
use Rattle.tier_core.specs.{declared.sym.Sym.Sym, Classes.{sets_of, has}}
use Rattle.tier_core.specs.{Kinds.PrefixKind, FirstColumn.first_column}
use Rattle.tier_core.proofs.Filled.{has-first_column}
use Rattle.violation.specs.{Moves.{next_kind, cost_of, cut_kind}, Prefixes.kind_of_bits, Problems.{Problem, last_stage}}
use Rattle.answer_text.specs.{declared.automaton.ArcLine.ArcLine, declared.stage.Node.Node, declared.stage.Stage.Stage}
use Rattle.answer_text.specs.{ArcClasses.arc_classes, Certified.{IsKeptBelow, IsTightAt, Lists}, Right.nodes_at}
use Rattle.cert_check.specs.{declared.kept_piece.KeptPiece.KeptPiece, declared.subject.Subject.Subject}
use Rattle.cert_check.specs.declared.kept_piece.MoveTarget.{MoveTarget}
use Rattle.cert_check.specs.declared.kept_piece.MoveTarget.TheVariants.{Node as NodeOf, Unlisted}
use Rattle.cert_check.specs.{Faults.HasNode, Kept.AreKeptPieces, Nodes.IsRightPart}
use Rattle.cert_check.specs.Kept.{kept_classes, kinds_of}
use Rattle.cert_check.specs.Left.{AddsLeft, AreLeft, AreLeftAt, AreLeftOfFirst, IsLeadingArc, IsListedPiece, StaysKept}
use Rattle.cert_check.specs.{Places.column_place, Subjects.{IsReady, AscendsAt, problem_of, stage_kinds, stage_nodes}}
use Rattle.cert_check.proofs.ChosenClasses.{ChosenOf, chosen_of_none, chosen_of_same, chosen_of_more, chosen_of_all}
use Rattle.cert_check.proofs.Faultless.{node_kind as kind_of_node, some_same}
use Rattle.cert_check.proofs.{NodeSteps.{IsPieceAt, node_below, not_closed}, Subjects.{cut_told, readable_stage}}
use Rattle.cert_check.proofs.TightSteps.{lists_there, tight_by}

-- ---- one move

-- a node of a stage is listed there with its potential, also as the cut of its kind
lists_node : (problem : Problem) (stages : List Stage) (stage n : ℕ) (node : Node)
    → slice_get (nodes_at stages stage) n ≡ Some node
    → Lists problem stages stage (cut_kind problem stage (kind_of_bits problem stage node.kind)) node.potential
lists_node problem stages stage n node e = record {
  node = node;
  listed = (n, slice_get_within _ n _ e, get_or_from_slice_get _ n _ node e);
  tells = cut_told problem node.kind node.kind stage stage (omega arith) refl refl (λ i l. refl);
  potential = refl;
}

-- whether a move is kept after its stage, by the potentials of its two nodes
pub stays_by : (s : Subject) (stage n : ℕ) (node : Node) → AscendsAt s stage → HasNode s.answer.now stage n node
    → (column : List Sym) (target cost : ℕ)
    → slice_get (kinds_of (problem_of s) s.answer.now.stages.items stage) target
    ≡ Some (next_kind (problem_of s) stage (kind_of_bits (problem_of s) stage node.kind) column)
    → cost_of (problem_of s) stage (kind_of_bits (problem_of s) stage node.kind) column ≡ cost
    → (b : Bool) → ((other : Node) → b
    ≡ (stage == 0 || node.potential == (cost + (get_or (stage_nodes s stage) target other).potential)))
    → IsTrue b ↔ StaysKept (problem_of s) s.answer.now.stages.items stage
    (kind_of_bits (problem_of s) stage node.kind) column
stays_by s zero n node ascends is column target cost leads costs b told =
    (λ h one. absurd (omega (arith, one)), λ h. told node)
stays_by s (suc r) n node ascends is column target cost leads costs b told =
    let problem : Problem = problem_of s in
    let stages : List Stage = s.answer.now.stages.items in
    let k : PrefixKind = kind_of_bits problem (suc r) node.kind in
    let nodes : List Node = stage_nodes s (suc r) in
    let own : k ≡ cut_kind problem (suc r) k =
    cut_told problem node.kind node.kind (suc r) (suc r) (omega arith) refl refl (λ i l. refl) in
    let inside : target < length nodes = omega (
      arith,
      slice_get_within _ target _ leads,
      length-map nodes (λ (x : Node). kind_of_bits problem (suc r) x.kind),
    ) in
    let after : ℕ = (get_or nodes target node).potential in
    let arrives = lists_there problem stages (suc r) _ target after leads
    (λ d. ap (λ (x : Node). x.potential) (get_or_default nodes target node d inside)) in
    let same = tight_by s (suc r) ascends k column node.potential after cost
    (lists_node problem stages (suc r) n node is.numbered)
    (subst (λ l. Lists problem stages (suc r) (next_kind problem (suc r) l column) after) own arrives)
    (sym costs ∙ ap (λ l. cost_of problem (suc r) l column) own) in
    let so = told node
    ∙ ap (λ z. z || node.potential == (cost + after)) (ne_eqb (suc r) 0 (λ e. absurd (omega (arith, e)))) in (
      λ h one. same.0 (sym so ∙ h),
      λ h. so ∙ same.1 (h (omega arith)),
    )

-- the number of a kind of a stage is below 65,536
pub kinds_few : (s : Subject) → IsReady s → (stage : ℕ) → stage ≤ last_stage (problem_of s) → (n : ℕ) (k : PrefixKind)
    → slice_get (stage_kinds s stage) n ≡ Some k → n < 65536
kinds_few s ready stage within n k e = omega (
  arith,
  slice_get_within (stage_kinds s stage) n k e,
  length-map (stage_nodes s stage) (λ (node : Node). kind_of_bits (problem_of s) stage node.kind),
  (readable_stage s ready _ within).few,
)

-- what is kept below the next stage is kept at this one, and stays
pub kept_after : (problem : Problem) (stages : List Stage) (stage : ℕ) (k : PrefixKind) (column : List Sym)
    → IsKeptBelow problem stages (stage + 1) k column
    ↔ (IsKeptBelow problem stages stage k column × StaysKept problem stages stage k column)
kept_after problem stages stage k column = (
  λ b. (
    record { fits = b.fits; tight = λ j one less. b.tight j one (omega (arith, less)) },
    λ one. b.tight stage one (omega arith),
  ),
  λ p. record {
    fits = p.0.fits;
    tight = λ j one less. ⊎_elim (λ below. p.0.tight j one below)
        (λ above. let is : stage ≡ j = omega (arith, less, above) in
        subst (λ i. IsTightAt problem stages i k column) is (p.1 (omega (arith, one, is)))) (cases_lt j stage);
  },
)

-- ---- the pieces of a node of which nothing is wrong

-- each leads to a node
pub listed_piece : (s : Subject) (stage n i : ℕ) (node : Node) (pieces : List KeptPiece) (piece : KeptPiece)
    → HasNode s.answer.now stage n node → IsRightPart (problem_of s) s.answer.now stage n 1
    → IsPieceAt (problem_of s) s.answer.now.stages.items stage (kind_of_bits (problem_of s) stage node.kind) pieces i
    piece → IsListedPiece s stage piece
listed_piece s stage n i node pieces piece is right here = by _ refl
  where
    column : List Sym
    column = first_column piece.class

    held : IsTrue (has piece.class column)
    held = has-first_column piece.class here.filled

    by : (target : MoveTarget) → piece.target ≡ target → IsListedPiece s stage piece
    by (NodeOf m) e =
        (m, (e, node_below (problem_of s) s.answer.now.stages.items stage _ piece m here.told e column held))
    by (Unlisted kind) e =
        let wrong = not_closed _ _ stage n node is piece.class piece.target piece.cost here.keeps here.told.leads
        here.told.costs kind e column held in
        absurd (right (column_place column) (column, (wrong.0, refl)))

module _ (problem : Problem) (stages : List Stage) (stage : ℕ) (k : PrefixKind) (pieces : List KeptPiece) where
  abbrev Stays : List Sym → Type 0
  Stays column = StaysKept problem stages stage k column

  -- so far these arcs are left, of the first pieces
  pub record LeftOf (n : ℕ) (arcs : List ArcLine) : Type 0 where
    pub chosen : ChosenOf (λ column. StaysKept problem stages stage k column) problem.tiers.width
        (kept_classes pieces) n (arc_classes arcs)
    pub leads : All (IsLeadingArc problem stages stage k) arcs

  pub left_none : (arcs : List ArcLine) → arcs ≡ [] → LeftOf 0 arcs
  left_none arcs e = rw e (record {
    chosen = chosen_of_none Stays problem.tiers.width (kept_classes pieces) [] refl;
    leads = All-from_recursion (IsLeadingArc problem stages stage k) [] tt;
  })

  pub left_more : (n : ℕ) (piece : KeptPiece) (old new : List ArcLine)
      → AreKeptPieces problem stages stage k pieces → IsPieceAt problem stages stage k pieces n piece → LeftOf n old
      → AddsLeft problem stages stage k piece.class old new → LeftOf (n + 1) new
  left_more n piece old new kept here so_far (inl none) = record {
    chosen = chosen_of_same Stays problem.tiers.width (kept_classes pieces) n piece.class here.within here.class
        (arc_classes old) (arc_classes new) so_far.chosen (ap arc_classes none.0) none.1;
    leads = rw none.0 so_far.leads;
  }
  left_more n piece old new kept here so_far (inr some) = record {
    chosen = chosen_of_more Stays problem.tiers.width (kept_classes pieces) n piece.class here.within here.class
        (arc_classes old) (arc_classes new) so_far.chosen
        (ap (λ d. length (sets_of d)) here.class ∙ kept.pieces.one_width n piece.class here.within) here.filled
        (ap arc_classes some.1.1 ∙ map-append (λ (x : ArcLine). x.class) old (some.0 ∷ [])
        ∙ ap (λ c. arc_classes old ++ c ∷ []) some.1.0.same_class) some.1.0.stays;
    leads = rw some.1.1 (All-push (IsLeadingArc problem stages stage k) old some.0 so_far.leads some.1.0.leads);
  }

  pub left_all : (n : ℕ) (arcs : List ArcLine) → AreKeptPieces problem stages stage k pieces → length pieces ≤ n
      → LeftOf n arcs → AreLeft problem stages stage k arcs
  left_all n arcs kept l so_far =
      let all = chosen_of_all Stays problem.tiers.width (kept_classes pieces) n (arc_classes arcs) kept.pieces
      (omega (arith, l, length-map pieces (λ (p : KeptPiece). p.class))) so_far.chosen in
      record {
        pieces = all.pieces;
        columns = λ column. (
          λ h. let r = (all.columns column).0 h in
              (kept_after problem stages stage k column).1 ((kept.columns column).0 r.0, r.1),
          λ b. let r = (kept_after problem stages stage k column).0 b in
              (all.columns column).1 ((kept.columns column).1 r.0, r.1),
        );
        leads = so_far.leads;
      }

-- ---- the nodes of a stage

-- a list at the end of lists
at_end : {X : Type 0} (xs : List X) (x y : X) (n : ℕ) → slice_get (xs ++ x ∷ []) n ≡ Some y
    → ((n < length xs) × (slice_get xs n ≡ Some y)) ⊎ ((n ≡ length xs) × (x ≡ y))
at_end [] x y zero e = inr (refl, some_same e)
at_end [] x y (suc n) e = let no = e in cc
at_end (z ∷ xs) x y zero e = inl (omega arith, e)
at_end (z ∷ xs) x y (suc n) e = ⊎_elim (λ h. inl (omega (arith, h.0), h.1)) (λ h. inr (omega (arith, h.0), h.1))
    (at_end xs x y n e)

pub left_of_none : (s : Subject) (stage : ℕ) (lists : List (Vec ArcLine)) → lists ≡ [] → AreLeftOfFirst s stage 0 lists
left_of_none s stage lists e = rw e (record { number = refl; each = λ n k arcs f g. let no = g in cc })

pub left_of_more : (s : Subject) (stage n : ℕ) (node : Node) (arcs : Vec ArcLine) (old new : List (Vec ArcLine))
    → HasNode s.answer.now stage n node → AreLeftOfFirst s stage n old → new ≡ old ++ arcs ∷ []
    → AreLeft (problem_of s) s.answer.now.stages.items stage (kind_of_bits (problem_of s) stage node.kind) arcs.items
    → AreLeftOfFirst s stage (n + 1) new
left_of_more s stage n node arcs old new is so_far e left = record {
  number = ap (λ (xs : List (Vec ArcLine)). length xs) e ∙ length-append old (arcs ∷ [])
      ∙ ap (λ m. m + 1) so_far.number;
  each = λ m k other f g. ⊎_elim (λ below. so_far.each m k other f below.1)
      (λ here.
      let same = kind_of_node (problem_of s) s.answer.now stage n node is in
      let at : n ≡ m = omega (arith, here.0, so_far.number) in
      let kind = some_same (sym same ∙ ap (slice_get (stage_kinds s stage)) at ∙ f) in
      rw here.1 at (rw kind at left))
      (at_end old arcs other m (ap (λ (xs : List (Vec ArcLine)). slice_get xs m) (sym e) ∙ g));
}

pub left_of_all : (s : Subject) (stage n : ℕ) (lists : List (Vec ArcLine)) → AreLeftOfFirst s stage n lists
    → n ≡ length (stage_nodes s stage) → AreLeftAt s stage lists
left_of_all s stage n lists so_far all = record {
  number = omega (
    arith,
    so_far.number,
    all,
    length-map (stage_nodes s stage) (λ (node : Node). kind_of_bits (problem_of s) stage node.kind),
  );
  each = so_far.each;
}
