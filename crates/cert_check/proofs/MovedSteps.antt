-- The kind to which a column leads, by its bits, and what a column costs.
use Rattle.std.proofs.Common.{◌≡◌, ℕ, ◌+◌, ◌-◌, ◌^◌, ◌<◌, ◌≤◌, Bool, cond, List, ◌++◌, filter, map, drop, take}
use Rattle.std.proofs.Common.{length, get_or, sym, ap, ◌∙◌, subst, arith, length-take}
use Rattle.std.proofs.{lemmas.List.{get_or-take, get_or_default, take-take}, lemmas.List.Elements.All-from_recursion}
use Rattle.tier_core.specs.{declared.constraint.Constraint.Constraint, declared.kind.Kind.Kind, declared.sym.Sym.Sym}
use Rattle.tier_core.specs.{Kinds.{Phase, AreStretchesBelow, open_tiers, phases}, KindShapes.FitsShape, Scan.opens}
use Rattle.tier_core.specs.{Sides.is_stretch, Tiers.has_tier, Timelines.{symbol, has_edge}}
use Rattle.tier_core.proofs.{CountLemmas.all_append, KindTies.same_parts}
use Rattle.violation.specs.Conditions.{IsOverTiers}
use Rattle.violation.specs.Moves.{cost_of, costs, first_phase, is_tier_open, is_unmet_phase, next_kind, next_phases}
use Rattle.violation.specs.{Prefixes.{kind_of_bits, stretches}, Problems.{Problem, last_place, last_stage}}
use Rattle.violation.proofs.{ConstraintCosts.{cost_at, unmet_told}, CostLemmas.costs_agree}
use Rattle.cert_check.specs.{declared.subject.Subject.Subject, Faults.TellsKind, Opens.is_open_by}
use Rattle.cert_check.specs.Subjects.{IsReady, problem_of}
use Rattle.grammar_reader.proofs.OverTiers.{over_tiers}
use Rattle.cert_check.proofs.Subjects.{each_event, mask_agrees, stretch_same, stage_in}

-- bits that have the parts of the kind to which a column leads tell it
pub moved_told : (problem : Problem) (stage : ℕ) (kind result : Kind) (column : List Sym) (input free : List ℕ)
    (first : List Constraint) (place opened : ℕ) → input ≡ problem.tiers.input → free ≡ problem.tiers.free
    → first ≡ take stage problem.constraints → result.place ≡ place
    → place ≡ kind.place + cond (has_edge (map (symbol column) input)) 1 0 → result.opened ≡ opened
    → open_tiers (length free) opened ≡ map (λ t. opens (symbol column t)) free → opened < 2 ^ length free
    → phases (length (filter is_stretch first)) result
    ≡ next_phases (filter is_stretch first) (phases (length (filter is_stretch first)) kind) column
    → AreStretchesBelow (length (filter is_stretch first)) result
    → TellsKind problem stage result (next_kind problem stage (kind_of_bits problem stage kind) column)
moved_told problem stage kind result column input free first place opened ei ef ec p q o f l ph st = record {
  tells = same_parts _ _ _ _ _ _ (p ∙ q ∙ ap (λ ts. kind.place + cond (has_edge (map (symbol column) ts)) 1 0) ei)
      (ap (open_tiers (length problem.tiers.free)) o ∙ ap (λ (ts : List ℕ). open_tiers (length ts) opened) (sym ef) ∙ f
      ∙ ap (map (λ t. opens (symbol column t))) ef)
      (ap (λ cs. phases (length (filter is_stretch cs)) result) (sym ec) ∙ ph
      ∙ ap (λ cs. next_phases (filter is_stretch cs) (phases (length (filter is_stretch cs)) kind) column) ec);
  opened = rw o (rw ef at l);
  stretches = rw ec at st;
}

module _ (s : Subject) (ready : IsReady s) (stage : ℕ) (within : stage ≤ last_stage (problem_of s)) where
  -- the constraints of a grammar are over its tiers
  pub over_at : (n : ℕ) (c : Constraint) → n < last_stage (problem_of s) → c ≡ get_or (problem_of s).constraints n c
      → IsOverTiers (problem_of s).tiers.width c
  over_at n c l is = rw is (All-from_recursion (IsOverTiers (problem_of s).tiers.width) (problem_of s).constraints
      (over_tiers s.grammar.now) n c l)

  -- what a column costs under the last constraint of a stage
  pub cost_told : (kind : Kind) (column : List Sym) (mask place : ℕ) (c : Constraint) (is_unmet b : Bool) → 1 ≤ stage
      → FitsShape s.shape.now stage kind → kind.place ≤ last_place (problem_of s)
      → ((t : ℕ) → t < length s.grammar.now.tiers.kinds.items → has_tier mask t
      ≡ is_open_by s.grammar.now.tiers.kinds.items s.answer.now.form kind.place kind.opened t)
      → c ≡ get_or (problem_of s).constraints (stage - 1) c
      → place ≡ get_or s.shape.now.phases.items (stage - 1) place → is_unmet ≡ has_tier kind.unmet place
      → ((phase : Phase) → is_unmet ≡ is_unmet_phase phase
      → b ≡ costs c.family c.left c.right (has_tier mask) phase column)
      → cond b 1 0 ≡ cost_of (problem_of s) stage (kind_of_bits (problem_of s) stage kind) column
  cost_told kind column mask place c is_unmet b some fits at bits is count unmet on =
      let number = stage - 1 in
      let cs = (problem_of s).constraints in
      let k = kind_of_bits (problem_of s) stage kind in
      let ph = first_phase (drop place k.phases) in
      let over = over_at number c (omega arith) is in
      let size = length-take stage cs in
      let here = is ∙ sym (get_or-take _ cs _ c (omega arith)) in
      let before =
      count ∙ get_or_default _ _ _ 0 (stage_in s ready number (omega arith)) ∙ stretch_same s ready number (omega arith)
      ∙ ap (λ xs. length (filter is_stretch xs)) (sym (take-take number stage cs (omega arith))) in
      let below =
      subst (λ n. kind.unmet < 2 ^ n) (stretch_same s ready _ within) fits.stretches.unmet in
      ap (λ x. cond x 1 0)
      (on ph (unmet ∙ unmet_told kind (length (stretches (problem_of s) stage)) place below)
      ∙ costs_agree c.family c.left c.right (has_tier mask) (is_tier_open (problem_of s) k) ph column
      (each_event (problem_of s).tiers.width (has_tier mask) (is_tier_open (problem_of s) k)
      (λ t l. mask_agrees s ready stage kind at mask bits t l) (c.left ++ c.right)
      (all_append (λ e. e.tier < (problem_of s).tiers.width) c.left c.right over.left_below over.right_below)))
      ∙ cost_at (take stage cs) (is_tier_open (problem_of s) k) k.phases column number place c c
      (omega (arith, size)) here
      before
