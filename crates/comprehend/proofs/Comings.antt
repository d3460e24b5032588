-- The cells from which entering arcs lead are those with a step.
use Rattle.std.proofs.Common.{◌≡◌, ℕ, ◌+◌, ◌*◌, ◌<◌, List, length, refl, sym, ap, ◌∙◌, subst, arith, inl, inr}
use Rattle.std.proofs.Common.{IsTrue}
use Rattle.std.specs.{Prelude.{Contains, Some, slice_get}, Global.Vec}
use Rattle.tier_core.specs.{declared.sym.Sym.Sym, declared.class.Class.Class, Classes.has}
use Rattle.answer_text.specs.{declared.automaton.ArcLine.ArcLine, declared.automaton.StateLine.StateLine}
use Rattle.answer_text.specs.Right.{numbers_of}
use Rattle.comprehend.specs.{declared.entering.Entering.Entering, Steps.{Goes, Turns, test_has}}
use Rattle.comprehend.specs.Entering.{entering_at, AreReverseArcs, IsArcOf, ComesByOne, ComesBy}
use Rattle.comprehend.proofs.Cells.{one_cell}

module _ (states : List StateLine) (tests : List Class) (into : List (Vec Entering))
    (turned : AreReverseArcs (IsArcOf states) (numbers_of states) into) (w t q : ℕ) (cell : w ≡ t * length tests + q)
    (inside : q < length tests) where
  pub comes_goes : (v : ℕ) → ComesByOne tests (entering_at into t) q v
      → (column : List Sym) × Goes states tests v column w
  comes_goes v from = go from.2
    where
      entry : Entering
      entry = from.0

      own : (arc : ArcLine) × (IsArcOf states from.0.source arc × (arc.class ≡ from.0.class) ×
          (slice_get (numbers_of states) t ≡ Some arc.target))
      own = turned.sound t from.0 from.1

      holds : (column : List Sym) → IsTrue (has from.0.class column) → IsTrue (has own.0.class column)
      holds column h = (let P : Class → Type 0 = λ c. IsTrue (has c column) in subst P (sym own.1.1) h)

      go : ComesBy tests from.0.source from.0.class q v → (column : List Sym) × Goes states tests v column w
      go (inl stays) = (
        stays.0.0,
        record {
          source = from.0.source;
          target = t;
          place = q;
          next = q;
          leaves = stays.1;
          arrives = cell;
          before = inside;
          after = inside;
          arc = own.0;
          listed = own.1.0;
          leads = own.1.2;
          holds = holds stays.0.0 stays.0.1.0;
          turns = inl (refl, stays.0.1.1);
        },
      )
      go (inr on) = (
        on.1.1.0,
        record {
          source = from.0.source;
          target = t;
          place = on.0;
          next = q;
          leaves = on.1.2;
          arrives = cell;
          before = omega (arith, on.1.0, inside);
          after = inside;
          arc = own.0;
          listed = own.1.0;
          leads = own.1.2;
          holds = holds on.1.1.0 on.1.1.1.0;
          turns = inr (sym on.1.0, on.1.1.1.1);
        },
      )

  pub goes_comes : (v : ℕ) (column : List Sym) → Goes states tests v column w
      → ComesByOne tests (entering_at into t) q v
  goes_comes v column goes = (entry.0, entry.1.0, go goes.turns)
    where
      at : (goes.target ≡ t) × (goes.next ≡ q)
      at = one_cell goes.target goes.next t q (length tests) goes.after inside (sym goes.arrives ∙ cell)

      leads : slice_get (numbers_of states) t ≡ Some goes.arc.target
      leads = ap (slice_get (numbers_of states)) (sym at.0) ∙ goes.leads

      entry : (entry : Entering) × (Contains (entering_at into t) entry × (entry.source ≡ goes.source) ×
          (entry.class ≡ goes.arc.class))
      entry = turned.complete goes.source t goes.arc goes.listed leads

      holds : IsTrue (has entry.0.class column)
      holds = (let P : Class → Type 0 = λ c. IsTrue (has c column) in subst P (sym entry.1.2) goes.holds)

      leaves : v ≡ entry.0.source * length tests + goes.place
      leaves = goes.leaves ∙ ap (λ s. s * length tests + goes.place) (sym entry.1.1)

      go : Turns tests goes.place column goes.next → ComesBy tests entry.0.source entry.0.class q v
      go (inl stays) = inl (
        (column, (holds, stays.1)),
        leaves
            ∙ ap (λ p. entry.0.source * length tests + p) (sym stays.0 ∙ at.1),
      )
      go (inr on) =
          (let P : ℕ → Type 0 = λ k. IsTrue (test_has tests k column) in
          inr (goes.place, (sym on.0 ∙ at.1, (column, (holds, subst P at.1 on.1)), leaves)))
