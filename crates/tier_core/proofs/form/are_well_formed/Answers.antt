use Rattle.std.proofs.Common.{◌≡◌, ℕ, ◌<◌, ◌≤◌, false, true, length, get_or, arith, ◌∙◌, sym, ap, ⊎_elim}
use Rattle.std.proofs.lemmas.Bool.{false≢true, cases_lt}
use Rattle.tier_core.specs.{declared.sym.Sym.TheVariants.Outside, Timelines.IsWellFormed, Scan.fits}
use Rattle.tier_core.proofs.WordForm.{runs_from_well_formed}
use Rattle.tier_core.proofs.FormLemmas.{fits_next, well_formed_at_end, closed_at_end}
use Rattle.tier_core.proofs.form.are_well_formed.Goals as goal

-- a symbol that does not fit leaves the timeline ill-formed
pub returns-then-not-advance : goal.returns-then-not-advance
returns-then-not-advance c =
    let held = c.loop-column.held in
    let same : c.syms.result.now ≡ c.column-item.result = c.syms.ensures.value in
    let each : (t : ℕ) → t < length c.syms.result.now → IsWellFormed c.args.width c.args.columns.now
    → fits (get_or held t false) (get_or c.syms.result.now t Outside) ≡ true =
    λ t l wf.
    let within : t < c.args.width = omega (arith, ap length same) in
    rw same
    (fits_next c.args.columns.now c.loop-column.column-index t
    (get_or held t false) c.column-item.result c.loop-column-test.true c.column-item.is
    (sym (c.loop-column.invariant.rest t within) ∙ runs_from_well_formed _ (wf.each_tier t within))) in
    (λ x. absurd (false≢true x), λ wf. c.if-not-advance.ensures.fits.1 (λ t l. each t l wf))

pub returns : goal.returns
returns c =
    let end : length c.args.columns.now ≤ c.loop-column.column-index = c.loop-column-test.false in (
      λ x. well_formed_at_end c.args.width c.loop-column.column-index c.args.columns.now c.loop-column.held end
          c.loop-column.invariant.one_width c.loop-column.invariant.rest
          (λ t l. c.are_closed.ensures.0 x t),
      λ wf. c.are_closed.ensures.1 (λ t. ⊎_elim
          (λ l. closed_at_end c.args.width c.loop-column.column-index t c.args.columns.now c.loop-column.held end l
          (c.loop-column.invariant.rest t l) wf)
          (λ l. c.loop-column.invariant.closed t l) (cases_lt t c.args.width)),
    )
