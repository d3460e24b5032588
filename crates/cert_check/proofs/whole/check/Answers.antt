use Rattle.std.proofs.Common.{refl}
use Rattle.violation.proofs.SplitLemmas.{tiers_split}
use Rattle.check_laws.proofs.{RightStates.certified_from_right, Soundness.sound_from_certified}
use Rattle.cert_check.proofs.{Certifying.certified_if_faultless, CheckSteps.states_in_order}
use Rattle.cert_check.proofs.{Faultless.faultless_if_certified, Stops.stop_said}
use Rattle.grammar_reader.proofs.OverTiers.{over_tiers}
use Rattle.cert_check.proofs.whole.check.Goals as goal

pub returns-in-Ok-clause-sound : goal.returns-in-Ok-clause-sound
returns-in-Ok-clause-sound c same =
    let g = c.args.grammar.now in
    sound_from_certified _ _ (tiers_split _) (over_tiers g) (certified_if_faultless _ _ c.in-Ok.ensures.ok refl)
    (states_in_order g _ c.requires)

pub returns-in-Err-Found-clause-right : goal.returns-in-Err-Found-clause-right
returns-in-Err-Found-clause-right c right form short =
    let g = c.args.grammar.now in
    let first =
    stop_said _ _ _ c.in-Err-Found.field-0-is c.in-Err-Found.ensures.err in
    absurd (faultless_if_certified _ _ (states_in_order g _ c.requires)
    (certified_from_right _ _ (record { split = tiers_split _; over = over_tiers g; form = form; right = right }) short)
    c.in-Err-Found.fault first.place first.is)
