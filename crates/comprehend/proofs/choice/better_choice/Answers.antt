use Rattle.std.proofs.{Common.{ℕ, refl, ◌∙◌, subst}, lemmas.List.get_or_default}
use Rattle.comprehend.specs.{declared.choice.Choice.Choice, Searches.{no_distance, IsLeft}, Choices.LeadsToCell}
use Rattle.comprehend.proofs.{Shared.{filled, in_both, both_has, none_shared}, Bettering.{better_none, better_one}}
use Rattle.comprehend.proofs.choice.better_choice.Goals as goal

pub returns-then-left-cell : goal.returns-then-left-cell
returns-then-left-cell c =
    better_none (LeadsToCell c.args.a.now c.args.b.now c.args.cell c.args.left.now c.args.n)
    (λ column w l. c.if-left-cell.true (let P : ℕ → Type 0 = λ x. IsLeft c.args.left.now x c.args.n in
    let at : IsLeft c.args.left.now c.args.cell c.args.n = subst P l.at l.left_at in
    get_or_default c.args.left.now c.args.cell 0 no_distance c.requires.cell ∙ at.number))
    c.args.best

pub returns-then-is_empty : goal.returns-then-is_empty
returns-then-is_empty c =
    better_none (LeadsToCell c.args.a.now c.args.b.now c.args.cell c.args.left.now c.args.n)
    (λ column w l. none_shared c.args.a.now c.args.b.now c.meet-both.result c.meet-both.ensures.columns
    (c.is_empty.ensures.columns.0 c.if-is_empty.true) column l.first l.second)
    c.args.best

pub returns : goal.returns
returns c =
    let a = c.args.a.now in
    let b = c.args.b.now in
    let both = c.meet-both.result in
    let columns = c.meet-both.ensures.columns in
    let full = filled a b both columns c.is_empty.result c.is_empty.ensures.sets c.if-is_empty.false in
    let column = c.least_column.result in
    let parts = in_both a b both columns column (c.least_column.ensures.held full) in
    let choice : Choice = record { column = column; cell = c.args.cell } in
    let at : IsLeft c.args.left.now c.args.cell c.args.n = record {
      number = get_or_default c.args.left.now c.args.cell no_distance 0 c.requires.cell
          ∙ c.if-left-cell.false;
      near = c.requires.near;
    } in
    let own : LeadsToCell a b c.args.cell c.args.left.now c.args.n column c.args.cell = record
    { first = parts.0; second = parts.1; at = refl; left_at = at } in
    better_one (LeadsToCell a b c.args.cell c.args.left.now c.args.n) c.args.best choice c.lesser_choice.result own
    (λ other w l. c.least_column.ensures.least other (both_has a b both columns other l.first l.second))
    c.lesser_choice.ensures.either c.lesser_choice.ensures.choice c.lesser_choice.ensures.best
