use Rattle.std.proofs.Common.{◌∙◌, ◌∷◌, [], ap, map}
use Rattle.std.specs.List.{list_any}
use Rattle.tier_core.specs.Events.{is_there, meet}
use Rattle.definition_tests.specs.Spans.{interval}
use Rattle.definition_tests.proofs.MeetSteps.{any_map}
use Rattle.definition_tests.proofs.choices.is_met_by.Goals as goal

pub returns : goal.returns
returns c =
    c.meets_some.ensures
    ∙ any_map (λ x. is_there (meet (interval c.args.met ∷ x ∷ []))) interval c.deref.result.now
    ∙ ap (list_any (λ x. is_there (meet (interval c.args.met ∷ x ∷ []))))
    (ap (map interval) c.deref.ensures.value ∙ c.in_ok-spans.ensures)
