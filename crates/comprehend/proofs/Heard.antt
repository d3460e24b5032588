-- The first timeline along the tests of a surface is the first accepted one that has it.
use Rattle.std.proofs.{Common.{◌≡◌, ◌≤◌, ◌*◌, ℕ, List, [], Option, Result, length, arith}, Math.Nat.mul-le-mul}
use Rattle.std.proofs.lemmas.List.Elements.{All-contains}
use Rattle.std.specs.Prelude.{Contains, MatchOption, IfOk}
use Rattle.tier_core.specs.{declared.sym.Sym.Sym, declared.class.Class.Class, declared.tier.TierKind.TierKind}
use Rattle.tier_core.specs.{Classes.sets_of, Orders.IsFirst, Tiers.{is_overt, numbers_from, tiers_by_kinds}}
use Rattle.answer_text.specs.{declared.automaton.ArcLine.ArcLine, declared.automaton.StateLine.StateLine}
use Rattle.answer_text.specs.{Right.numbers_of, Sound.AreSoundArcs}
use Rattle.comprehend.specs.Steps.{arcs_at, AreSearchable, AreApart, AreTestsApart, ReadsAlong}
use Rattle.comprehend.specs.{Surfaces.{AcceptsHeard, AreReadable, IsSurface}, Tests.AreTestsOf}
use Rattle.comprehend.proofs.{Levels.each_arcs, Results.{if_ok_then, match_then, first_same}}
use Rattle.comprehend.proofs.Readings.{AreTests, along_heard, heard_along}
use Rattle.comprehend.proofs.TestFacts.{test_widths, test_count, are_tests, tests_apart, width_at}

module _ (kinds : List TierKind) (states : List StateLine) (surface : List (List Sym)) (tests : List Class)
    (readable : AreReadable (length kinds) states) (few : length states ≤ 65536)
    (is_surface : IsSurface (tiers_by_kinds kinds) surface) (short : length surface ≤ 64)
    (are_of : AreTestsOf kinds surface tests) where
  are : AreTests (length kinds) (numbers_from is_overt 0 kinds) surface tests
  are = are_tests kinds surface tests are_of
      (λ p l. width_at (length (numbers_from is_overt 0 kinds)) surface p is_surface.well_formed.one_width l)

  no_arcs : AreSoundArcs (length kinds) (numbers_of states) []
  no_arcs = record {
    apart = λ i j d less l. absurd (omega (arith, l));
    one_width = λ k d l. absurd (omega (arith, l));
    targets = λ k d l. absurd (omega (arith, l));
  }

  arcs : (s : ℕ) → AreSoundArcs (length kinds) (numbers_of states) (arcs_at states s)
  arcs = each_arcs (AreSoundArcs (length kinds) (numbers_of states)) states no_arcs readable.arcs

  arc_widths : (s : ℕ) (arc : ArcLine) → Contains (arcs_at states s) arc → length (sets_of arc.class) ≡ length kinds
  arc_widths s arc here = All-contains (λ (a : ArcLine). length (sets_of a.class) ≡ length kinds)
      (arcs_at states s) arc (arcs s).one_width here

  targets : (s : ℕ) (arc : ArcLine) → Contains (arcs_at states s) arc → Contains (numbers_of states) arc.target
  targets s arc here = All-contains (λ (a : ArcLine). Contains (numbers_of states) a.target) (arcs_at states s) arc
      (arcs s).targets here

  pub searchable : AreSearchable (length kinds) states tests
  searchable =
      let count = test_count kinds surface tests are_of in
      let few_tests : length tests ≤ 65 = omega (arith, count, short) in
      let product : length states * length tests ≤ 65536 * 65 = mul-le-mul few few_tests in
      record {
        arc_widths = arc_widths;
        test_widths = test_widths kinds surface tests are_of;
        some_test = omega (arith, count);
        few_states = omega (arith, few);
        few_tests = omega (arith, count, short);
        few = omega (arith, product);
      }

  pub apart : AreApart states
  apart s = (arcs s).apart

  pub apart_tests : AreTestsApart tests
  apart_tests = tests_apart (length kinds) (numbers_from is_overt 0 kinds) surface tests are is_surface.reduced

  pub heard_first : {E : Type 0} (r : Result (Option (List (List Sym))) E)
      → IfOk r (λ first. MatchOption first ((T : List (List Sym)) → ReadsAlong states tests T → ⊥)
      (IsFirst (ReadsAlong states tests)))
      → IfOk r (λ first. MatchOption first
      ((T : List (List Sym)) → AcceptsHeard states (numbers_from is_overt 0 kinds) surface T → ⊥)
      (IsFirst (AcceptsHeard states (numbers_from is_overt 0 kinds) surface)))
  heard_first {E} r =
      let overt = numbers_from is_overt 0 kinds in
      let to = along_heard
      (length kinds) overt surface tests are is_surface.reduced states readable.distinct arc_widths targets in
      let back = heard_along
      (length kinds) overt surface tests are is_surface.reduced states readable.distinct arc_widths targets in
      let None : Type 0 = (T : List (List Sym)) → ReadsAlong states tests T → ⊥ in
      let NoneHeard : Type 0 = (T : List (List Sym)) → AcceptsHeard states overt surface T → ⊥ in
      if_ok_then (λ first. MatchOption first None (IsFirst (ReadsAlong states tests)))
      (λ first. MatchOption first NoneHeard (IsFirst (AcceptsHeard states overt surface)))
      (λ first h. match_then None NoneHeard (IsFirst (ReadsAlong states tests))
      (IsFirst (AcceptsHeard states overt surface)) (λ none T heard. none T (back T heard))
      (first_same (ReadsAlong states tests) (AcceptsHeard states overt surface) to back) first h)
      r
