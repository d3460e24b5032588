use Rattle.std.proofs.Common.{◌≡◌, ℕ, ◌≤◌, ◌<◌, ◌^◌, length, map, filter, ap, sym, ◌∙◌, subst, arith}
use Rattle.std.proofs.lemmas.List.{length-map}
use Rattle.std.specs.String.{string_bytes}
use Rattle.tier_core.specs.{Shapes.{masked_count, NeverFalls}, Tiers.is_input}
use Rattle.tier_core.proofs.TableMasks.{input_tiers, length-numbers_from}
use Rattle.grammar_reader.specs.{ShapeOf.stretch_counts, Seen.constraint_seen}
use Rattle.grammar_reader.proofs.Shaping.{length-inputs, some_input, length-stretch_counts, never_falls}
use Rattle.grammar_reader.proofs.shape_of.shape.Goals as goal

pub invariant_of-result : goal.invariant_of-result
invariant_of-result c =
    let t = c.args.grammar.now.tiers in
    let same = length-map t.names.items string_bytes ∙ t.one_length in
    let lawful = c.args.grammar.now.lawful in
    let mask = input_tiers t.kinds.items c.mask.result t.few c.mask.ensures.within c.mask.ensures.bits in
    let n : masked_count c.mask.result ≡ length (filter is_input t.kinds.items) = ap length mask
    ∙ length-numbers_from is_input 0 t.kinds.items in
    let inputs = length-inputs (map string_bytes t.names.items) t.kinds.items same in
    let few = lawful.made.few_inputs in
    let some = some_input (map string_bytes t.names.items) t.kinds.items same lawful.input in
    let constraints : length c.args.grammar.now.constraints.items ≤ 24 = let e = length-map
    c.args.grammar.now.constraints.items constraint_seen in omega (arith, e, lawful.made.few_constraints) in
    let phases : c.in_ok-phases.phases.items
    ≡ stretch_counts c.args.grammar.now.constraints.items = c.in_ok-phases.ensures
    ∙ ap stretch_counts c.deref.ensures.value in
    let stages = length-stretch_counts c.args.grammar.now.constraints.items in
    let count = ap length phases in
    record {
      some = omega (arith, ap length c.as_slice.ensures.value, t.some);
      few = omega (arith, ap length c.as_slice.ensures.value, t.few);
      some_input = omega (arith, n, some);
      few_inputs = omega (arith, n, inputs, few);
      within = subst (λ (w : ℕ). c.mask.result < 2 ^ w)
          (sym (ap length c.as_slice.ensures.value)) c.mask.ensures.within;
      some_stage = omega (arith, count, stages);
      few_stages = omega (arith, count, stages, constraints);
      rising = subst NeverFalls (sym phases) (never_falls c.args.grammar.now.constraints.items constraints);
    }

pub returns : goal.returns
returns c =
    let t = c.args.grammar.now.tiers in
    record {
      width = ap length c.as_slice.ensures.value;
      inputs = input_tiers t.kinds.items c.mask.result t.few c.mask.ensures.within c.mask.ensures.bits;
      phases = c.in_ok-phases.ensures ∙ ap stretch_counts c.deref.ensures.value;
    }
