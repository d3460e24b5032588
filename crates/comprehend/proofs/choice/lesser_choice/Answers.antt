use Rattle.std.proofs.Common.{inr}
use Rattle.first_paths.proofs.Order.{column_itself, not_before}
use Rattle.comprehend.proofs.choice.lesser_choice.Goals as goal

pub returns-in-None-clause-choice : goal.returns-in-None-clause-choice
returns-in-None-clause-choice c = column_itself c.args.choice.column

pub returns-in-Less-clause-choice : goal.returns-in-Less-clause-choice
returns-in-Less-clause-choice c = column_itself c.args.choice.column

pub returns-in_default : goal.returns-in_default
returns-in_default c =
    let other = c.in-Some.other.column in
    record {
      either = inr c.in-Some.is;
      choice = not_before c.args.choice.column other c.column_cmp.result c.column_cmp.ensures c.in_default.not-Less;
      best = rw c.in-Some.is (column_itself other);
    }
