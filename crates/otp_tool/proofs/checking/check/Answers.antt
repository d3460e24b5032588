use Rattle.std.proofs.Common.{◌≡◌, refl, sym, subst}
use Rattle.otp_tool.specs.{Files.IsHeld, Steps.change_of}
use Rattle.otp_tool.proofs.CheckLemmas.{judged, no_file_loaded}
use Rattle.otp_tool.proofs.checking.check.Goals as goal

pub returns-in-Ok-clause-work : goal.returns-in-Ok-clause-work
returns-in-Ok-clause-work g c =
    let same = c.deref.ensures.value in
    judged c.args.grammar.now _ _ _ (rw same c.in-Ok.ensures.ok) _ c.judge.ensures.step

pub returns-in-Err-clause-work : goal.returns-in-Err-clause-work
returns-in-Err-clause-work g c = no_file_loaded c.args.grammar.now _ _ refl _ c.in-Err.ensures.err
