use Rattle.std.proofs.{Common.{◌||◌, length, ap, ◌∙◌, arith}, lemmas.List.get_or_default}
use Rattle.tier_core.specs.{Kinds.open_tiers, Tiers.has_tier}
use Rattle.violation.specs.Moves.{flag_of, form_opened}
use Rattle.kind_moves.specs.Frames.{tiers_in, form_in}
use Rattle.kind_moves.proofs.MaskSteps.{or_tier}
use Rattle.kind_moves.proofs.frame.Frame.open_at.Goals as goal

pub returns : goal.returns
returns c stage t =
    let frame = c.args.self.now in
    let kind = c.args.kind.now in
    let masks = frame.open_inputs.items in
    let mask = c.index.ensures ∙ get_or_default masks kind.place c.index.result.now 0
    (omega (arith, frame.inputs.count, c.requires)) in
    or_tier c.index.result.now c.laid_out.result t
    ∙ ap (λ b. b || has_tier c.laid_out.result t) (ap (λ m. has_tier m t) mask
    ∙ frame.inputs.each kind.place c.requires t)
    ∙ ap (λ b. flag_of (tiers_in frame).input (form_opened (tiers_in frame) (form_in frame) kind.place) t || b)
    (c.laid_out.ensures t ∙ ap (λ ts. flag_of ts (open_tiers (length ts) kind.opened) t) frame.free_tiers)
