use Rattle.std.proofs.Common.{◌≡◌, ◌+◌, ◌<◌, ℕ, length, get_or, sym, ap, ◌∙◌, subst, arith, inl, inr}
use Rattle.std.proofs.{lemmas.Bool.cases_lt, lemmas.List.get_or_read}
use Rattle.tier_core.specs.{declared.class.Class.Class, Classes.AreDisjoint}
use Rattle.definition_tests.proofs.Apart.{apart_later}
use Rattle.definition_tests.proofs.fit.all_apart.Goals as goal

pub loop-place-preserved : goal.loop-place-preserved
loop-place-preserved c i j d l less inside = elim (cases_lt i c.loop-place.place) [
  | inl lower ↦ c.loop-place.invariant i j d lower less inside
  | inr upper ↦
      (let arcs = c.args.arcs.now in
      let place = c.loop-place.place in
      let at : place ≡ i = omega arith in
      let read : c.index-arcs-place.result
      ≡ get_or arcs place d = get_or_read arcs place c.index-arcs-place.result c.loop-place-test.true
      c.index-arcs-place.is d in
      let P : Class → Type 0 = λ x. AreDisjoint x (get_or arcs j d).class in
      subst P (ap (λ x. x.class) (sym c.index-arcs-place.is ∙ (read ∙ ap (λ n. get_or arcs n d) at)))
      (apart_later arcs place (get_or arcs place c.index-arcs-place.result).class
      (c.apart_from.ensures c.if-not-apart_from.false) j d (omega arith) inside))
]
