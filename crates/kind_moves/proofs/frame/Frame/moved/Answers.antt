use Rattle.std.proofs.{Common.{◌≡◌, refl, ap, sym, ◌∙◌, map, cond, subst, ◌+◌, List}, lemmas.Bool.false≢true}
use Rattle.tier_core.specs.{declared.sym.Sym.Sym, Scan.opens, Timelines.{symbol, has_edge}}
use Rattle.violation.specs.Moves.{input_of, next_phases}
use Rattle.kind_moves.specs.Frames.{tiers_in, stretches_in, kind_at_stage, FitsAt}
use Rattle.kind_moves.proofs.LawSteps.{is_move}
use Rattle.kind_moves.proofs.frame.Frame.moved.Goals as goal

pub returns-then-not-fits : goal.returns-then-not-fits
returns-then-not-fits c f =
    let Fits : List Sym → Type 0 = FitsAt c.args.self.now c.args.stage c.args.kind.now in
    absurd (false≢true ((c.if-not-fits.ensures c.args.stage).1 (subst Fits (sym c.syms-syms.ensures.value) f)))

pub returns : goal.returns
returns c =
    let frame = c.args.self.now in
    let kind = c.args.kind.now in
    let Fits : List Sym → Type 0 = FitsAt frame c.args.stage kind in
    let same : c.syms-syms.result.now ≡ c.args.column.now = c.syms-syms.ensures.value in
    is_move frame c.args.stage kind _ c.args.column.now c.requires.fits
    (subst Fits same ((c.if-not-fits.ensures c.args.stage).0 refl))
    (c.next_place.ensures ∙ ap (λ (d : List Sym). kind.place + cond
    (has_edge (input_of (tiers_in frame) d)) 1 0) same)
    (c.next_opened.ensures.flags ∙ ap (λ (d : List Sym). map (λ t. opens (symbol d t)) (tiers_in frame).free) same)
    (c.next_phases-phases.ensures.phases ∙ ap (next_phases (stretches_in frame c.args.stage)
    (kind_at_stage frame c.args.stage kind).phases) same)
    c.next_opened.ensures.within
    (record { unmet = c.next_phases-phases.ensures.unmet; met = c.next_phases-phases.ensures.met })
