use Rattle.std.proofs.Common.{◌≡◌, ◌+◌, ◌∷◌, [], ◌++◌, length, filter, take, map, ap, sym, ◌∙◌, arith, cond}
use Rattle.std.proofs.{lemmas.List.FromFn.map-range_with_len_more, lemmas.List.Filters.length-filter_more}
use Rattle.std.specs.List.{range_with_len}
use Rattle.tier_core.specs.Sides.{is_stretch}
use Rattle.tier_core.proofs.MaskBits.{at_most_one}
use Rattle.grammar_reader.proofs.shape_of.phases.Goals as goal

pub loop-constraint-preserved : goal.loop-constraint-preserved
loop-constraint-preserved c =
    let i = c.loop-constraint.constraint-index in
    let cs = c.args.constraints.now in
    let step = length-filter_more is_stretch cs i c.constraint-item.result c.loop-constraint-test.true in
    let one : c.one_where-count.result ≡ cond (is_stretch c.constraint-item.result) 1 0 = c.one_where-count.ensures
    ∙ ap (λ t. cond t 1 0) c.is_stretch.ensures in
    let count : c.loop-constraint.count + c.one_where-count.result ≡ length (filter is_stretch (take (i + 1) cs)) =
    ap (λ n. n + c.one_where-count.result) c.loop-constraint.invariant.count
    ∙ ap (λ n. length (filter is_stretch (take i cs)) + n)
    (one ∙ ap (λ x. cond (is_stretch x) 1 0) c.constraint-item.is) ∙ sym step in
    record {
      count = count;
      few = let b = at_most_one (is_stretch c.constraint-item.result) in omega
          (arith, one, b, c.loop-constraint.invariant.few);
      phases = c.in-Ok.ensures.items ∙ ap
          (λ xs. xs ++ (c.loop-constraint.count + c.one_where-count.result) ∷ []) c.loop-constraint.invariant.phases
          ∙ ap (λ n. map (λ r. length (filter is_stretch (take r cs))) (range_with_len 0 (i + 1)) ++ n ∷ []) count
          ∙ sym (map-range_with_len_more (λ r. length (filter is_stretch (take r cs))) 0 (i + 1) (i + 1) (omega arith));
    }
