use Rattle.std.proofs.Common.{refl}
use Rattle.command_line.specs.Commands.{generate, show}
use Rattle.otp_tool.proofs.ToldLemmas.{told_over, told_ready}
use Rattle.otp_tool.proofs.laws.budgets_are_told.Goals as goal

pub returns-clause-generate_ready : goal.returns-clause-generate_ready
returns-clause-generate_ready c words held file form budget g u are tells within =
    told_ready words held file form budget g u tells (generate file form budget) are refl (λ second x f. f) within

pub returns-clause-generate_over : goal.returns-clause-generate_over
returns-clause-generate_over c words held file form budget stage g u are tells over =
    told_over words held file form budget g u tells (generate file form budget) are refl (λ second x f. f) stage over

pub returns-clause-show_ready : goal.returns-clause-show_ready
returns-clause-show_ready c words held file form budget g u are tells within =
    told_ready words held file form budget g u tells (show file form budget) are refl (λ second x f. f) within

pub returns-clause-show_over : goal.returns-clause-show_over
returns-clause-show_over c words held file form budget stage g u are tells over =
    told_over words held file form budget g u tells (show file form budget) are refl (λ second x f. f) stage over
