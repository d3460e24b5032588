-- Pieces all columns of which go on alike.
use Rattle.std.proofs.Common.{◌≡◌, ℕ, ◌+◌, ◌-◌, ◌<◌, Bool, cond, List, [], ◌∷◌, map, take, length, get_or, refl, ap}
use Rattle.std.proofs.{Common.{sym, ◌∙◌, subst, All}, lemmas.Bool.{eq-eqb, ne_eqb}}
use Rattle.std.proofs.lemmas.List.Elements.{All-take, All-from_recursion}
use Rattle.std.specs.List.{AllByRecursion}
use Rattle.tier_core.specs.{declared.class.Class.Class, declared.constraint.Constraint.Constraint}
use Rattle.tier_core.specs.{declared.kind.Kind.Kind, declared.sym.Sym.Sym, Kinds.{PrefixKind, Phase, phases}}
use Rattle.tier_core.specs.{Scan.opens, Timelines.{symbol, has_edge}}
use Rattle.symbol_class.specs.{Held.ArePieces, Parts.ArePartedBy}
use Rattle.symbol_class.proofs.{PartSteps.{parted_same, parted_then}, Times.some_from_same}
use Rattle.grammar_reader.proofs.OverTiers.{over_tiers}
use Rattle.violation.specs.{Conditions.IsOverTiers, Moves.{input_of, move_costs, next_kind, next_phases}}
use Rattle.violation.proofs.SplitLemmas.{tiers_split}
use Rattle.kind_moves.specs.{declared.frame.Frame.Frame, Fitting.{AreFitting, IsReadAlike}}
use Rattle.kind_moves.specs.Frames.{problem_in, tiers_in, constraints_in, stretches_in, kind_at_stage}
use Rattle.kind_moves.specs.Pieces.{opened_by, cost_under}
use Rattle.kind_moves.proofs.PhaseAlike.{open_alike}

-- pieces that fit are parted, and still fit
pub fitting_parts : {X : Type 0} (frame : Frame) (stage : ℕ) (kind : Kind) (class : Class) (test : List Sym → X)
    (xs ys : List Class) → AreFitting frame stage kind class xs
    → ArePartedBy (tiers_in frame).width test xs ys → AreFitting frame stage kind class ys
fitting_parts frame stage kind class test xs ys f p = record {
  pieces = p.pieces;
  columns = λ column.
      let same = some_from_same ys xs column (p.held column) in
      (λ h. (f.columns column).0 (sym same ∙ h), λ h. same ∙ (f.columns column).1 h);
}

free_alike : (tiers : List ℕ) (width : ℕ) (c d : List Sym) → AllByRecursion (λ t. t < width) tiers
    → opened_by width c ≡ opened_by width d
    → map (λ t. opens (symbol c t)) tiers ≡ map (λ t. opens (symbol d t)) tiers
free_alike [] width c d below same = refl
free_alike (t ∷ ts) width c d below same =
    ap (λ flag. flag ∷ map (λ t. opens (symbol c t)) ts) (open_alike width c d same t below.0)
    ∙ ap (λ flags. opens (symbol d t) ∷ flags) (free_alike ts width c d below.1 same)

pair_same : (a b : Bool) (xs ys : List Bool) → a ≡ b → xs ≡ ys → (let p : Bool × List Bool = (a, xs) in p) ≡ (b, ys)
pair_same a b xs ys p q = cc

module _ (frame : Frame) (stage : ℕ) (kind : Kind) where
  abbrev is_read : List Sym → Bool
  is_read column = has_edge (input_of (tiers_in frame) column)

  abbrev phases_then : List Sym → List Phase
  phases_then column = next_phases (stretches_in frame stage) (phases (length (stretches_in frame stage)) kind) column

  abbrev kind_of_parts : ℕ → List Bool → List Phase → PrefixKind
  kind_of_parts place opened phases = record { place = place; opened = opened; phases = phases }

  same_moved : (c d : List Sym) → is_read c ≡ is_read d → opened_by (tiers_in frame).width c
      ≡ opened_by (tiers_in frame).width d → phases_then c ≡ phases_then d
      → next_kind (problem_in frame) stage (kind_at_stage frame stage kind) c
      ≡ next_kind (problem_in frame) stage (kind_at_stage frame stage kind) d
  same_moved c d read opened phased =
      ap (λ b. kind_of_parts (kind.place + cond b 1 0) (map (λ t. opens (symbol c t)) (tiers_in frame).free)
      (phases_then c)) read
      ∙ ap (λ flags. kind_of_parts (kind.place + cond (is_read d) 1 0) flags (phases_then c))
      (free_alike (tiers_in frame).free (tiers_in frame).width c d
      (tiers_split frame.grammar.now.tiers.kinds.items).free_below opened)
      ∙ ap (λ ps. kind_of_parts (kind.place + cond (is_read d) 1 0)
      (map (λ t. opens (symbol d t)) (tiers_in frame).free) ps) phased

  pub parted_moves : (xs ys zs : List Class) → ArePieces (tiers_in frame).width xs → All (IsReadAlike frame) xs
      → ArePartedBy (tiers_in frame).width (opened_by (tiers_in frame).width) xs ys
      → ArePartedBy (tiers_in frame).width phases_then ys zs
      → ArePartedBy (tiers_in frame).width (next_kind (problem_in frame) stage (kind_at_stage frame stage kind)) xs zs
  parted_moves xs ys zs pieces read opened phased =
      parted_then {X = Bool × List Bool} (tiers_in frame).width
      (λ column. (is_read column, opened_by (tiers_in frame).width column)) phases_then
      (next_kind (problem_in frame) stage (kind_at_stage frame stage kind)) xs ys zs
      (λ c d _ _ both p. same_moved c d (ap (λ (x : Bool × List Bool). x.0) both)
      (ap (λ (x : Bool × List Bool). x.1) both) p)
      (parted_then {Z = Bool × List Bool} (tiers_in frame).width is_read (opened_by (tiers_in frame).width)
      (λ column. (is_read column, opened_by (tiers_in frame).width column)) xs xs ys
      (λ c d _ _ p q. pair_same (is_read c) (is_read d) (opened_by (tiers_in frame).width c)
      (opened_by (tiers_in frame).width d) p q)
      (parted_same (tiers_in frame).width is_read xs pieces read) opened)
      phased

-- the first constraints are over the tiers of their grammar
pub first_over : (frame : Frame) (stage width : ℕ) (xs : List Constraint) → xs ≡ constraints_in frame
    → width ≡ (tiers_in frame).width → All (IsOverTiers width) (take stage xs)
first_over frame stage width xs same wide =
    subst (λ w. All (IsOverTiers w) (take stage xs)) (sym wide)
    (All-take (IsOverTiers (tiers_in frame).width) stage xs
    (subst (All (IsOverTiers (tiers_in frame).width)) (sym same)
    (All-from_recursion (IsOverTiers (tiers_in frame).width) (constraints_in frame) (over_tiers frame.grammar.now))))

-- ---- what the columns of pieces cost

pub free_cost : (frame : Frame) (stage constraint : ℕ) (kind : Kind) (column : List Sym) → constraint ≡ 0
    → cost_under frame stage constraint kind column ≡ 0
free_cost frame stage constraint kind column none =
    ap (λ b. cond b 0 (get_or (move_costs (problem_in frame) stage (kind_at_stage frame stage kind) column)
    (constraint - 1) 0)) (eq-eqb constraint 0 none)

pub cost_is : (frame : Frame) (stage constraint : ℕ) (kind : Kind) (column : List Sym) (n : ℕ) → (constraint ≡ 0 → ⊥)
    → n ≡ get_or (move_costs (problem_in frame) stage (kind_at_stage frame stage kind) column) (constraint - 1) 0
    → cost_under frame stage constraint kind column ≡ n
cost_is frame stage constraint kind column n some is =
    ap (λ b. cond b 0 (get_or (move_costs (problem_in frame) stage (kind_at_stage frame stage kind) column)
    (constraint - 1) 0)) (ne_eqb constraint 0 some) ∙ sym is

pub same_cost : (frame : Frame) (stage constraint : ℕ) (kind : Kind) (c d : List Sym) (a b : Bool)
    → cost_under frame stage constraint kind c ≡ cond a 1 0 → cost_under frame stage constraint kind d ≡ cond b 1 0
    → a ≡ b → cost_under frame stage constraint kind c ≡ cost_under frame stage constraint kind d
same_cost frame stage constraint kind c d a b ec ed same = ec ∙ ap (λ x. cond x 1 0) same ∙ sym ed

-- ---- pieces that fit
