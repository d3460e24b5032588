use Rattle.std.proofs.Common.{◌≡◌, ℕ, true, false, ◌-◌, List, length, get_or, ap, sym, ◌∙◌, subst, arith}
use Rattle.tier_core.specs.{declared.sym.Sym.Sym, Tiers.has_tier}
use Rattle.violation.specs.{Conditions.IsOverTiers, Moves.costs}
use Rattle.kind_moves.specs.Frames.{constraints_in}
use Rattle.kind_moves.proofs.CostLaws.{over_at, move_cost}
use Rattle.kind_moves.proofs.frame.Frame.cost.Goals as goal

pub costs-requires : goal.costs-requires
costs-requires c =
    let frame = c.args.self.now in
    let item = c.index-constraints-number.result in
    let number = c.args.constraint - 1 in
    let same : c.as_slice-constraints.result.now ≡ constraints_in frame = c.as_slice-constraints.ensures.value in
    let Over : ℕ → Type 0 = λ w. IsOverTiers w item in
    subst Over (sym (ap length c.syms.ensures.value ∙ c.requires.width))
    (over_at frame number item (omega arith) (c.index-constraints-number.is
    ∙ ap (λ xs. get_or xs number item) same))

pub returns-then-costs : goal.returns-then-costs
returns-then-costs c =
    let frame = c.args.self.now in
    let item = c.index-constraints-number.result in
    let number = c.args.constraint - 1 in
    let opened = c.open_at-opened.result in
    let same : c.as_slice-constraints.result.now ≡ constraints_in frame = c.as_slice-constraints.ensures.value in
    record {
      cost = move_cost frame c.args.stage number c.stretch_count.result opened c.args.kind.now
          c.args.column.now item c.has_bit-is_unmet.result true
          c.requires.stage (omega arith) (c.index-constraints-number.is ∙ ap (λ xs. get_or xs number item) same)
          c.stretch_count.ensures.value
          (c.open_at-opened.ensures c.args.stage) c.has_bit-is_unmet.ensures c.requires.fits.stretches.unmet
          (λ phase e. c.if-costs.ensures phase e ∙ ap (λ (d : List Sym). costs item.family item.left item.right
          (has_tier opened) phase d) c.syms.ensures.value);
      few = omega arith;
    }

pub returns-else-costs : goal.returns-else-costs
returns-else-costs c =
    let frame = c.args.self.now in
    let item = c.index-constraints-number.result in
    let number = c.args.constraint - 1 in
    let opened = c.open_at-opened.result in
    let same : c.as_slice-constraints.result.now ≡ constraints_in frame = c.as_slice-constraints.ensures.value in
    record {
      cost = move_cost frame c.args.stage number c.stretch_count.result opened c.args.kind.now
          c.args.column.now item c.has_bit-is_unmet.result false
          c.requires.stage (omega arith) (c.index-constraints-number.is ∙ ap (λ xs. get_or xs number item) same)
          c.stretch_count.ensures.value
          (c.open_at-opened.ensures c.args.stage) c.has_bit-is_unmet.ensures c.requires.fits.stretches.unmet
          (λ phase e. c.if-costs.ensures phase e ∙ ap (λ (d : List Sym). costs item.family item.left item.right
          (has_tier opened) phase d) c.syms.ensures.value);
      few = omega arith;
    }
