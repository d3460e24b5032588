use Rattle.std.proofs.Common.{◌∙◌, ap, Some, sym}
use Rattle.std.specs.Str.{bytes_eq}
use Rattle.outside.proofs.Finding.{file_text-here, file_text-next}
use Rattle.outside.proofs.files.find.Goals as goal

pub returns-then-eq : goal.returns-then-eq
returns-then-eq c =
    let same = ap (λ bytes. bytes_eq bytes c.args.name.now) (sym c.as_str.ensures.value)
    ∙ sym c.eq.ensures ∙ c.if-eq.true in
    let here = file_text-here c.args.files.now c.args.name.now c.loop-known.known-index c.loop-known-item.result
    c.loop-known-test.true c.loop-known-item.is same in
    ap Some c.deref.ensures.value ∙ sym (c.loop-known.invariant ∙ here)

pub loop-known-preserved : goal.loop-known-preserved
loop-known-preserved c =
    let differs = ap (λ bytes. bytes_eq bytes c.args.name.now) (sym c.as_str.ensures.value)
    ∙ sym c.eq.ensures ∙ c.if-eq.false in
    c.loop-known.invariant ∙ file_text-next c.args.files.now c.args.name.now c.loop-known.known-index
    c.loop-known-item.result c.loop-known-test.true c.loop-known-item.is differs
