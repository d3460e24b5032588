-- Moves that are tight at a stage, by what is listed there.
use Rattle.std.proofs.Common.{◌≡◌, ◌↔◌, ℕ, zero, suc, ◌+◌, ◌==◌, ◌<◌, ◌≤◌, Bool, true, false, cond, IsTrue}
use Rattle.std.proofs.Common.{List, [], ◌∷◌, length, filter, take, get_or, slice_get, Some, refl, sym, ap, ◌∙◌}
use Rattle.std.proofs.{Common.{arith, eq-eqb, eqb-true}}
use Rattle.std.proofs.{lemmas.List.{get_or-map, length-map}, lemmas.List.Elements.Contains-get_or}
use Rattle.std.proofs.lemmas.Option.{slice_get_within, get_or_from_slice_get}
use Rattle.tier_core.specs.{declared.constraint.Constraint.Constraint, declared.kind.Kind.Kind, declared.sym.Sym.Sym}
use Rattle.tier_core.specs.{Kinds.PrefixKind, KindShapes.FitsShape}
use Rattle.tier_core.specs.Sides.{is_stretch}
use Rattle.violation.specs.{Moves.{next_kind, cost_of, cut_kind}, Prefixes.{kind_of_bits}}
use Rattle.violation.specs.Problems.{Problem, last_stage}
use Rattle.answer_text.specs.{declared.stage.Node.Node, declared.stage.Stage.Stage, Right.{nodes_at, kinds_at}}
use Rattle.answer_text.specs.Certified.{IsTightAt, Lists}
use Rattle.check_laws.proofs.Listing.{one_potential}
use Rattle.cert_check.specs.{declared.subject.Subject.Subject, Faults.TellsKind}
use Rattle.cert_check.specs.Subjects.{IsReady, AscendsAt, problem_of}
use Rattle.cert_check.proofs.Subjects.{free_same, stretch_same, stage_in}

-- ---- what is listed

module _ (problem : Problem) (stages : List Stage) (j : ℕ) where
  -- a kind that stands at a number has the potential of the node there
  pub lists_at : (k : PrefixKind) (n p : ℕ) (d : Node) → slice_get (kinds_at problem j (nodes_at stages j)) n ≡ Some k
      → p ≡ (get_or (nodes_at stages j) n d).potential → Lists problem stages j k p
  lists_at k n p d e same =
      let inside : n < length (nodes_at stages j) = omega (
        arith,
        slice_get_within _ n k e,
        length-map (nodes_at stages j) (λ (node : Node). kind_of_bits problem j node.kind),
      ) in
      record {
        node = get_or (nodes_at stages j) n d;
        listed = Contains-get_or (nodes_at stages j) n d inside;
        tells = sym (get_or-map _ _ n d k inside) ∙ get_or_from_slice_get _ n k k e;
        potential = sym same;
      }

  pub lists_there : (k : PrefixKind) (n p : ℕ) → slice_get (kinds_at problem j (nodes_at stages j)) n ≡ Some k
      → ((d : Node) → p ≡ (get_or (nodes_at stages j) n d).potential) → Lists problem stages j k p
  lists_there k n p e same = by _ refl
    where
      by : (ns : List Node) → nodes_at stages j ≡ ns → Lists problem stages j k p
      by [] is = absurd (omega (
        arith,
        slice_get_within _ n k e,
        length-map (nodes_at stages j) (λ (node : Node). kind_of_bits problem j node.kind),
        ap (λ (xs : List Node). length xs) is,
      ))
      by (d ∷ ns) is = lists_at k n p d e (same d)

-- ---- tight moves

module _ (s : Subject) (j : ℕ) (ascends : AscendsAt s j) (k : PrefixKind) (column : List Sym) where
  abbrev stages : List Stage
  stages = s.answer.now.stages.items

  pub tight_by : (before after cost : ℕ) → Lists (problem_of s) stages j (cut_kind (problem_of s) j k) before
      → Lists (problem_of s) stages j (next_kind (problem_of s) j (cut_kind (problem_of s) j k) column) after
      → cost ≡ cost_of (problem_of s) j (cut_kind (problem_of s) j k) column
      → IsTrue (before == (cost + after)) ↔ IsTightAt (problem_of s) stages j k column
  tight_by before after cost leaves arrives e = (
    λ h. record {
      before = before;
      after = after;
      leaves = leaves;
      arrives = arrives;
      falls = eqb-true _ _ h ∙ ap (λ n. n + after) e;
    },
    λ t. eq-eqb _ _ (let first = one_potential _ j _ ascends _ _ _ leaves t.leaves in
        let last = one_potential _ j _ ascends _ _ _ arrives t.arrives in
        omega (arith, first, last, t.falls, e)),
  )

-- ---- kinds that are cut to an earlier stage

counted : (b : Bool) (x : Constraint) (xs ys : List Constraint) → length xs ≤ length ys
    → length (cond b (x ∷ xs) xs) ≤ length (cond b (x ∷ ys) ys)
counted true x xs ys l = omega arith
counted false x xs ys l = l

pub stretches_rise : (cs : List Constraint) (r n : ℕ) → r ≤ n
    → length (filter is_stretch (take r cs)) ≤ length (filter is_stretch (take n cs))
stretches_rise cs zero n l = omega arith
stretches_rise cs (suc r) zero l = absurd (omega arith)
stretches_rise [] (suc r) (suc n) l = omega arith
stretches_rise (c ∷ cs) (suc r) (suc n) l = counted _ c _ _ (stretches_rise cs r n (omega arith))

-- bits that tell a kind of a stage fit the shape there
pub tells_fit : (s : Subject) → IsReady s → (stage : ℕ) → stage ≤ last_stage (problem_of s) → (kind : Kind)
    (k : PrefixKind) → TellsKind (problem_of s) stage kind k → FitsShape s.shape.now stage kind
tells_fit s ready stage within kind k t = record {
  within = stage_in s ready _ within;
  opened = rw ((free_same s ready stage within)) t.opened;
  stretches = rw ((stretch_same s ready stage within)) t.stretches;
}
