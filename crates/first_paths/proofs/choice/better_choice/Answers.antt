use Rattle.std.proofs.Common.{◌≡◌, false, List, subst, inr}
use Rattle.std.specs.Ordering.{is_gt}
use Rattle.tier_core.specs.{declared.sym.Sym.Sym, Orders.column_cmp, FirstColumn.first_column}
use Rattle.first_paths.proofs.Order.{column_itself, not_before}
use Rattle.first_paths.proofs.choice.better_choice.Goals as goal

pub returns-in-None-clause-arc : goal.returns-in-None-clause-arc
returns-in-None-clause-arc c = rw c.least_column-column.ensures.sets (column_itself (first_column c.args.arc.now.class))

pub returns-in-Less-clause-arc : goal.returns-in-Less-clause-arc
returns-in-Less-clause-arc c = rw c.least_column-column.ensures.sets (column_itself (first_column c.args.arc.now.class))

pub returns-in_default : goal.returns-in_default
returns-in_default c =
    let column = c.least_column-column.result in
    let other = c.in-Some.other.column in
    let P : List Sym → Type 0 = λ x. is_gt (column_cmp other x) ≡ false in
    record {
      of = inr c.in-Some.is;
      arc = subst P c.least_column-column.ensures.sets
          (not_before column other c.column_cmp.result c.column_cmp.ensures c.in_default.not-Less);
      best = rw c.in-Some.is (column_itself other);
    }
