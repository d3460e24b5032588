use Rattle.std.proofs.Common.{◌≡◌, ◌<◌, length, ◌∷◌, [], ◌++◌, map, take, get_or, arith, ap, ◌∙◌, sym, length-set}
use Rattle.std.proofs.lemmas.List.{take_more_set, take_more, map-append}
use Rattle.timeline_text.specs.Causes.{symbol_of_byte}
use Rattle.timeline_text.proofs.read.column_of.Goals as goal

pub loop-tier-preserved : goal.loop-tier-preserved
loop-tier-preserved c =
    let h : c.loop-tier.tier < length c.args.piece.now = omega arith in
    let l : c.loop-tier.tier < length c.loop-tier.syms = omega arith in
    let e : c.unwrap_or.result ≡ symbol_of_byte (get_or c.args.piece.now c.loop-tier.tier 0) = cc in
    let m = take_more_set c.loop-tier.syms c.loop-tier.tier c.unwrap_or.result l in
    let n = take_more c.args.piece.now c.loop-tier.tier 0 h in
    record {
      size = omega (arith, length-set c.loop-tier.syms c.loop-tier.tier c.unwrap_or.result);
      front = m ∙ ap (λ xs. xs ++ c.unwrap_or.result ∷ []) c.loop-tier.invariant.front
          ∙ ap (λ x. map symbol_of_byte (take c.loop-tier.tier c.args.piece.now) ++ x ∷ []) e
          ∙ sym (ap (map symbol_of_byte) n ∙ map-append symbol_of_byte (take c.loop-tier.tier c.args.piece.now) _);
    }
