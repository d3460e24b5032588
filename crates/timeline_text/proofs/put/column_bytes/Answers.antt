use Rattle.std.proofs.Common.{◌≡◌, ◌<◌, ◌∷◌, [], ◌++◌, length, map, take, get_or, ap, sym, ◌∙◌, arith, length-set}
use Rattle.std.proofs.lemmas.List.{take_more_set, take_more, take_all, map-append}
use Rattle.tier_core.specs.{declared.sym.Sym.TheVariants.Outside, Symbols.byte_of}
use Rattle.timeline_text.proofs.put.column_bytes.Goals as goal

pub loop-tier-preserved : goal.loop-tier-preserved
loop-tier-preserved c =
    let syms = c.syms-sym-items.result.now in
    let h : c.loop-tier.tier < length syms = omega arith in
    let l : c.loop-tier.tier < length c.loop-tier.bytes = omega arith in
    let e : c.byte.result ≡ byte_of (get_or syms c.loop-tier.tier Outside) = cc in
    record {
      size = omega (arith, length-set c.loop-tier.bytes c.loop-tier.tier c.byte.result);
      front = take_more_set c.loop-tier.bytes c.loop-tier.tier c.byte.result l
          ∙ ap (λ xs. xs ++ c.byte.result ∷ []) c.loop-tier.invariant.front
          ∙ ap (λ x. map byte_of (take c.loop-tier.tier syms) ++ x ∷ []) e
          ∙ sym (ap (map byte_of) (take_more syms c.loop-tier.tier Outside h)
          ∙ map-append byte_of (take c.loop-tier.tier syms) _);
    }

pub returns : goal.returns
returns c =
    let same : length c.args.column.now ≡ c.loop-tier.tier = omega (arith, ap length c.syms-sym-items.ensures.value) in
    ap (λ n. take n c.loop-tier.bytes) same ∙ c.loop-tier.invariant.front
    ∙ ap (map byte_of) (take_all c.loop-tier.tier c.syms-sym-items.result.now c.loop-tier-test.false
    ∙ c.syms-sym-items.ensures.value)
