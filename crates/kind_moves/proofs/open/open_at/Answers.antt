use Rattle.std.proofs.Common.{◌≡◌, ℕ, suc, ◌-◌, ap, sym, ◌∙◌, subst, arith}
use Rattle.tier_core.specs.{Tables.tiers_of_table, Scan.opens, Timelines.{symbol, column_at}}
use Rattle.kind_moves.specs.Masks.{AreOpenAt}
use Rattle.kind_moves.proofs.OpenPlaces.{open_first, open_later}
use Rattle.kind_moves.proofs.open.open_at.Goals as goal

pub returns-then-place-eq0 : goal.returns-then-place-eq0
returns-then-place-eq0 c =
    let P : ℕ → Type 0 = λ n. AreOpenAt (tiers_of_table c.args.tiers.now) c.args.form.now n 0 in
    subst P (sym c.if-place-eq0.true) (open_first (tiers_of_table c.args.tiers.now) c.args.form.now)

pub returns : goal.returns
returns c =
    let tiers = tiers_of_table c.args.tiers.now in
    let u = c.args.form.now in
    let p = c.args.place - 1 in
    let next : suc p ≡ c.args.place = omega (arith, c.if-place-eq0.false) in
    let same : c.syms.result.now ≡ column_at u p = c.syms.ensures.value ∙ c.column.ensures in
    let P : ℕ → Type 0 = λ n. AreOpenAt tiers u n c.laid_out.result in
    subst P next (open_later tiers u c.requires.form p c.input_tiers.result c.open_after.result c.laid_out.result
    (omega (arith, c.requires.place)) c.input_tiers.ensures
    (λ t. c.open_after.ensures t ∙ ap (λ column. opens (symbol column t)) same) c.laid_out.ensures)
