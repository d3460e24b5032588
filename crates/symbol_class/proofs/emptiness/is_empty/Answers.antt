use Rattle.std.proofs.Common.{◌≡◌, Bool, true, false, ◌↔◌, not, IsTrue, refl, sym, ap, ◌∙◌, ⊎_elim}
use Rattle.std.proofs.lemmas.Bool.{false≢true, cases_Bool, not-true}
use Rattle.tier_core.specs.{declared.class.Class.Class, Sets.SomeEmpty, Classes.sets_of, Filled.is_filled}
use Rattle.tier_core.proofs.Filled.{empty_at, empty_holds, filled_each, filled_holds}
use Rattle.symbol_class.proofs.emptiness.is_empty.Goals as goal

-- a class is filled where no tier has the empty set
told : (class : Class) (b : Bool) → IsTrue b ↔ SomeEmpty (sets_of class) → b ≡ not (is_filled class)
told class true h = let at = h.0 refl in sym (ap not (empty_at class at.0 at.1 at.2))
told class false h = sym (ap not (filled_each class (λ t inside none. false≢true (h.1 (t, inside, none)))))

pub returns-clause-sets : goal.returns-clause-sets
returns-clause-sets c = told c.args.class.now c.has_empty_set.result c.has_empty_set.ensures

pub returns-clause-columns : goal.returns-clause-columns
returns-clause-columns c =
    let class = c.args.class.now in
    let is = told class c.has_empty_set.result c.has_empty_set.ensures in (
      λ h column _. empty_holds class column (not-true (is_filled class) (sym is ∙ h)),
      λ none. is ∙ ⊎_elim (λ filled. absurd (filled_holds class filled none)) (λ empty. ap not empty)
          (cases_Bool (is_filled class)),
    )
