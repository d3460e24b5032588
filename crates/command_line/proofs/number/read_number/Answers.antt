use Rattle.std.proofs.Common.{◌≡◌, ℕ, subst}
use Rattle.command_line.specs.Commands.{IsNumber}
use Rattle.command_line.proofs.Numbers.{read_so}
use Rattle.command_line.proofs.number.read_number.Goals as goal

pub returns-else-says : goal.returns-else-says
returns-else-says c = λ number is.
    let read = read_so c.args.most c.args.word.now number _ c.requires c.parse.ensures.value.0 is in
    let same : number ≡ c.in-Ok.number = cc read in
    absurd (cc (c.if-says.ensures.1 (subst (λ (n : ℕ). IsNumber c.args.most c.args.word.now n) same is)))

pub returns-in-Err : goal.returns-in-Err
returns-in-Err c = λ number is.
    absurd (cc (read_so c.args.most c.args.word.now number _ c.requires c.parse.ensures.value.0 is))
